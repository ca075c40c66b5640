use Rattle.std.proofs.Common.{◌≡◌, ◌+◌, ◌*◌, ◌^◌, ◌≤◌, take, length}
use Rattle.list_totals.specs.Totals.{total}
use Rattle.series_core.specs.declared.pair.Pair.{Pair}
use Rattle.search_run.proofs.output.summary.Summary.add.Given as goal

abbrev pub invariant-loop-pair : goal.invariant-loop-pair
invariant-loop-pair l = record {
  answers : l.self.answers ≡ l.fn.self.answers + length l.pairs;
  distances : l.self.distances ≡ l.fn.self.distances + total (λ (p : Pair). p.distance) (take l.pair-index l.pairs);
  numbers : l.self.numbers ≡ l.fn.self.numbers + total (λ (p : Pair). p.number) (take l.pair-index l.pairs);
  near : l.self.distances ≤ l.fn.self.distances + l.pair-index * 2 ^ 64;
  low : l.self.numbers ≤ l.fn.self.numbers + l.pair-index * 2 ^ 32;
}
