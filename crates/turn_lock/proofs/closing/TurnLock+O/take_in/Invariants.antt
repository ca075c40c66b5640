use Rattle.std.proofs.Common.{◌≡◌, ◌++◌, length, map}
use Rattle.std.specs.Prelude.{All}
use Rattle.turn_lock.specs.Rule.{MayGather, gathered}
use Rattle.turn_lock.specs.Passes.{known_by, IsPassOf}
use Rattle.turn_lock.proofs.closing.TurnLock+O.take_in.Given as goal

abbrev pub invariant-loop-pass : goal.invariant-loop-pass
invariant-loop-pass g l = record {
  same_lock : l.closing.table_id ≡ l.initial.closing.table_id;
  gathers : MayGather l.closing.me.0.role;
  all : map known_by l.passes.items ++ gathered l.closing.me.0
      ≡ map known_by l.fn.passes.items ++ gathered l.initial.closing.me.0;
  passes : All (λ p. IsPassOf l.fn.self p) l.passes.items;
}

abbrev pub decreases-loop-pass : goal.decreases-loop-pass
decreases-loop-pass g l = length l.passes.items
