use Rattle.std.proofs.Common.{rules, ap, sym, subst, ◌∙◌, ◌++◌, map}
use Rattle.std.proofs.lemmas.List.Elements.{All-pop}
use Rattle.std.specs.Prelude.{Some}
use Rattle.turn_lock.specs.Rule.{MayGather, gathered, knowing}
use Rattle.turn_lock.specs.Passes.{known_by, IsPassOf}
use Rattle.turn_lock.proofs.Comings.{hands_in}
use Rattle.turn_lock.proofs.Passes.{took_in}
use Rattle.turn_lock.proofs.closing.TurnLock+O.take_in.Goals as goal

pub join_seat-requires : goal.join_seat-requires
join_seat-requires g c =
    let lock = c.args.self.now in
    let is = c.into_seat.ensures in
    let all = All-pop (λ p. IsPassOf lock p) c.loop-pass.passes.items c.pop.new.self.items
    (Some c.in-Some.pass) c.in-Some.ensures.items c.loop-pass.invariant.passes in (
      search rules,
      ap (λ s. s.table_id) is ∙ all.1.0,
      ap (λ s. s.me.1) is ∙ c.in-Some.pass.rests,
      search rules,
      hands_in _ _ _ _ _ _ _ c.loop-pass.invariant.gathers (ap (λ s. s.me.0.role) is ∙ all.1.2),
    )

pub loop-pass-preserved : goal.loop-pass-preserved
loop-pass-preserved g c =
    let lock = c.args.self.now in
    let e = ap (λ m. m.0) c.join_seat.ensures.2 in
    let all = All-pop (λ p. IsPassOf lock p) c.loop-pass.passes.items c.pop.new.self.items
    (Some c.in-Some.pass) c.in-Some.ensures.items c.loop-pass.invariant.passes in record {
      same_lock = c.join_seat.ensures.0 ∙ c.loop-pass.invariant.same_lock;
      gathers = subst (λ v. MayGather v.role) (sym e) tt;
      all = ap (λ v. map known_by c.pop.new.self.items ++ gathered v) e
          ∙ took_in c.pop.new.self.items c.loop-pass.passes.items c.in-Some.pass
          (knowing c.into_seat.result.me.0) (gathered c.loop-pass.closing.me.0) _
          c.in-Some.ensures.items (ap (λ s. knowing s.me.0) c.into_seat.ensures)
          c.loop-pass.invariant.all;
      passes = all.0;
    }
