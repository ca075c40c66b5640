use Rattle.std.proofs.Common.{◌≡◌, ◌<◌, ◌∙◌, false, get_or, map, ap, sym, subst, arith}
use mathlib.Core.List.{IsPrefix}
use Rattle.std.proofs.lemmas.Grind.{get_or-set_at}
use Rattle.std.specs.Mem.Slots.{slots_counts}
use Rattle.std.specs.Prelude.{All, Contains}
use Rattle.std.specs.Slots.{slots_filled, slots_len}
use Rattle.list_totals.proofs.Standing.{in_contains}
use Rattle.turn_lock.specs.History.{calls_by}
use Rattle.turn_lock.specs.Rule.{MayGather, gathered}
use Rattle.turn_lock.specs.Passes.{known_by, opening_of, callers_of}
use Rattle.turn_lock.proofs.Endings.{Ended, ends}
use Rattle.turn_lock.proofs.Passes.{gathered_all, same_numbers, each_agrees, none_stand, split_off}
use Rattle.turn_lock.proofs.closing.TurnLock+O.close.Goals as goal

pub unreachable-requires : goal.unreachable-requires
unreachable-requires g c =
    none_stand c.args.passes.items 0 (omega (arith, c.args.passes.ok.0, c.in_default.ensures.cases.0))
    (c.requires.all 0 c.args.self.table.shared.key.some_caller)

pub take_in-requires-clause-lock : goal.take_in-requires-clause-lock
take_in-requires-clause-lock g c =
    ap (λ s. s.table_id) c.into_seat-closing.ensures
    ∙ (split_off c.args.self c.args.passes.items c.pop.new.self.items c.in-Some.last c.in-Some.ensures.items c.requires.passes).1.0

pub take_in-requires-clause-gathers : goal.take_in-requires-clause-gathers
take_in-requires-clause-gathers g c =
    subst MayGather (sym (ap (λ s. s.me.0.role) c.into_seat-closing.ensures
    ∙ (split_off c.args.self c.args.passes.items c.pop.new.self.items c.in-Some.last c.in-Some.ensures.items c.requires.passes).1.2)) tt

pub take_in-requires-clause-passes : goal.take_in-requires-clause-passes
take_in-requires-clause-passes g c =
    (split_off c.args.self c.args.passes.items c.pop.new.self.items c.in-Some.last c.in-Some.ensures.items c.requires.passes).0

pub close_with-closed-requires : goal.close_with-closed-requires
close_with-closed-requires g c =
    c.take_in.ensures.lock ∙ (ap (λ s. s.table_id) c.into_seat-closing.ensures
    ∙ (split_off c.args.self c.args.passes.items c.pop.new.self.items c.in-Some.last c.in-Some.ensures.items c.requires.passes).1.0)

pub take-object-requires : goal.take-object-requires
take-object-requires g c =
    let one : 0 < slots_len c.close_with-closed.result.slots
    = omega (arith, c.close_with-closed.ensures.counts.1, c.args.self.sized.1) in
    (one, c.close_with-closed.ensures.values.1 0 (omega arith) one)

pub free-requires : goal.free-requires
free-requires g c k inside =
    let closed = c.close_with-closed.result.slots in
    let told = c.take-object.ensures.others in
    let one : slots_len closed ≡ 1 = c.close_with-closed.ensures.counts.1 ∙ c.args.self.sized.1 in
    ap (λ filled. get_or filled k false) told.1
    ∙ get_or-set_at (slots_filled closed) 0 k false false (omega (arith, inside, told.2, one))
    (omega (arith, one, (slots_counts closed).1))

pub returns : goal.returns
returns g c =
    let lock = c.args.self in
    let ps = c.args.passes.items in
    let is = c.into_seat-closing.ensures in
    let v = c.take_in.new.closing.me.0 in
    let last_is = (split_off c.args.self c.args.passes.items c.pop.new.self.items c.in-Some.last c.in-Some.ensures.items c.requires.passes).1 in
    let all : gathered v ≡ map known_by ps
    = gathered_all c.pop.new.self.items ps c.in-Some.last c.into_seat-closing.result.me.0
    (gathered v)
    c.in-Some.ensures.items (ap (λ s. s.me.0) is) last_is.2 c.take_in.ensures.all in
    let numbers : map (λ k. k.number) (gathered v) ≡ map (λ p. p.number) ps
    = ap (map (λ k. k.number)) all ∙ same_numbers lock ps c.requires.passes in
    let ended : Ended g.O.Object.next (opening_of lock) (callers_of lock) (gathered v)
    c.take-object.result
    = ends _ _ _ _ _ _ _ _ c.take_in.ensures.gathers c.close_with-closed.ensures.values.2
    (λ n below. subst (λ l. Contains l n) (sym numbers)
    (in_contains (map (λ p. p.number) ps) n (c.requires.all n below)))
    c.take-object.ensures.value in
    record {
      log = ended.log;
      legal = ended.legal;
      leads = ended.leads;
      callers_only = ended.callers_only;
      passes = each_agrees lock ended.log ps c.requires.passes
          (subst (All (λ k. IsPrefix k.seen ended.log × (calls_by k.number ended.log ≡ k.mine)))
          all ended.agrees);
    }
