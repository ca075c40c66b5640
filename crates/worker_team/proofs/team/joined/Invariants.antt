-- The lists so far, one behind another.
use Rattle.std.proofs.Common.{◌≡◌}
use Rattle.std.specs.List.{flat_map}
use Rattle.worker_team.proofs.team.joined.Given as goal

abbrev pub invariant-loop-own : goal.invariant-loop-own
invariant-loop-own g l = record {
  can_next : (goal.iterator-loop-own g).can_next l.own-iterator;
  is_finite : (goal.iterator-loop-own g).is_finite l.own-iterator;
  joined : l.all.items ≡ flat_map (λ own. own.items) l.yielded;
}
