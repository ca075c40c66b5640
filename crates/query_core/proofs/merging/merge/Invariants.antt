-- What was taken so far comes before all that is left.
use Rattle.std.proofs.Common.{◌≡◌, ◌++◌, ◌≤◌, length, vec_capacity}
use Rattle.series_core.specs.Pairs.{ascending}
use Rattle.query_core.specs.Merging.{AreOrdered}
use Rattle.query_core.proofs.merging.merge.Given as goal

abbrev pub invariant-loop : goal.invariant-loop
invariant-loop l = record {
  count : length l.merged.items ≡ l.counter;
  room : l.k ≤ vec_capacity l.merged;
  ordered : AreOrdered l.rest.left.now l.rest.right.now;
  next : ascending (l.left ++ l.right) ≡ l.merged.items ++ ascending (l.rest.left.now ++ l.rest.right.now);
}
