use Rattle.std.proofs.Common.{◌<◌, ◌∙◌, [], ◌∷◌, length, length-append, refl, ap, sym, subst, arith}
use Rattle.turn_lock.specs.Passes.{IsNewPass}
use Rattle.turn_lock.proofs.Passes.{none_new, one_more_new}
use Rattle.turn_lock.proofs.dealing.TurnLock+O.deal_all.Goals as goal

pub loop-number-init : goal.loop-number-init
loop-number-init g c = record {
  same_lock = refl;
  next = c.requires.start;
  count = ap length c.requires.room.0;
  room = refl;
  passes = none_new c.args.self.now c.args.passes.now.items c.requires.room.0;
}

pub deal-pass-requires-clause-lock : goal.deal-pass-requires-clause-lock
deal-pass-requires-clause-lock g c = c.loop-number.invariant.same_lock ∙ c.requires.lock

pub deal-pass-requires-clause-next : goal.deal-pass-requires-clause-next
deal-pass-requires-clause-next g c = c.loop-number.invariant.next

pub deal-pass-requires-clause-below : goal.deal-pass-requires-clause-below
deal-pass-requires-clause-below g c = subst (λ n. c.loop-number.number < n) c.requires.callers c.loop-number-test.true

pub push_reserved-requires : goal.push_reserved-requires
push_reserved-requires g c =
    let was = c.loop-number.invariant in
    omega (arith, c.loop-number-test.true, was.count, was.room, c.requires.room.1, c.loop-number.passes.ok.0)

pub loop-number-smaller : goal.loop-number-smaller
loop-number-smaller g c = omega (arith, c.loop-number-test.true)

pub loop-number-preserved : goal.loop-number-preserved
loop-number-preserved g c =
    let was = c.loop-number.invariant in
    let lock = c.args.self.now in
    let before = c.loop-number.passes.items in
    let pass = c.deal-pass.result in
    record {
      same_lock = c.deal-pass.ensures.lock ∙ was.same_lock;
      next = c.deal-pass.ensures.next;
      count = omega (
        arith,
        was.count,
        ap length c.push_reserved.ensures.items,
        length-append before (pass ∷ []),
      );
      room = c.push_reserved.ensures.capacity ∙ was.room;
      passes = one_more_new lock before c.push_reserved.new.self.items pass c.push_reserved.ensures.items
          (subst (λ n. IsNewPass lock n pass) (sym was.count) c.deal-pass.ensures.pass) was.passes;
    }

pub returns-clause-count : goal.returns-clause-count
returns-clause-count g c = omega (
  arith,
  c.loop-number.invariant.count,
  c.loop-number-test.false,
  c.loop-number.auto.number-end,
)

pub returns-clause-passes : goal.returns-clause-passes
returns-clause-passes g c = c.loop-number.invariant.passes
