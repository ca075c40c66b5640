use Rattle.std.proofs.Common.{◌≡◌, ◌≤◌, ◌+◌, ◌++◌, take, length, vec_capacity}
use Rattle.series_core.specs.Pairs.{ascending, smallest}
use Rattle.series_core.proofs.best.cut_to.Given as goal

abbrev pub invariant-loop-count : goal.invariant-loop-count
invariant-loop-count l = record {
  bound : l.count ≤ length l.others;
  size : length l.pairs.items ≤ l.k;
  ordered : ascending l.pairs.items ≡ l.pairs.items;
  smallest : smallest l.k (take l.count l.others ++ l.pairs.items) ≡ smallest l.k (l.others ++ l.fn.pairs.items);
  capacity : vec_capacity l.pairs ≡ vec_capacity l.fn.pairs;
}

abbrev pub decreases-loop-count : goal.decreases-loop-count
decreases-loop-count l = l.count + length l.pairs.items
