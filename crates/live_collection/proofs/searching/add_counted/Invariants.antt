-- The best pairs are those of what was held and of the pairs so far.
use Rattle.std.proofs.Common.{◌≡◌, ◌++◌, map, take}
use Rattle.series_core.specs.Pairs.{smallest}
use Rattle.live_collection.specs.Numbers.{counted_from}
use Rattle.live_collection.proofs.searching.add_counted.Given as goal

abbrev pub invariant-loop-pair : goal.invariant-loop-pair
invariant-loop-pair l = record {
  k : l.best.k ≡ l.fn.best.k;
  pairs : l.best.pairs ≡ smallest l.fn.best.k (take l.pair-index (map (counted_from l.first) l.found) ++ l.fn.best.pairs);
}
