-- The best pairs are those of the series of the parts so far, which are as many as were counted.
use Rattle.std.proofs.Common.{◌≡◌, ◌++◌, length, map}
use denote.Ref.{Bor}
use Rattle.series_core.specs.Answer.{pairs_from}
use Rattle.series_core.specs.Pairs.{smallest}
use Rattle.live_collection.specs.declared.batch.Batch.{Batch}
use Rattle.live_collection.specs.Histories.{series_of}
use Rattle.live_collection.proofs.searching.search.Given as goal

abbrev pub invariant-loop-part : goal.invariant-loop-part
invariant-loop-part l = record {
  whole : map (λ (b : Bor Batch). b.now) l.yielded ++ l.part-iterator ≡ l.parts;
  k : l.best.k ≡ l.k;
  count : l.count ≡ length (series_of (map (λ (b : Bor Batch). b.now) l.yielded));
  pairs : l.best.pairs ≡ smallest l.k (pairs_from 0 (series_of (map (λ (b : Bor Batch). b.now) l.yielded)) l.query);
}
