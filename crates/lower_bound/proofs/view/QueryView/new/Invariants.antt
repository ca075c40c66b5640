-- The costs of the segments so far are written, and nothing behind them.
use Rattle.std.proofs.Common.{ℕ, ◌≡◌, ◌<◌, ◌≤◌, [], length, get_or, replicate}
use Rattle.segment_sums.specs.Division.{segment_length}
use Rattle.segment_sums.specs.Sum.{segment_sum}
use Rattle.lower_bound.specs.Gap.{HoldsCosts}
use Rattle.lower_bound.proofs.view.QueryView.new.Given as goal

abbrev pub invariant-loop-j : goal.invariant-loop-j
invariant-loop-j l = record {
  whole : length l.costs ≡ 16;
  each : (k : ℕ) → k < l.j
      → HoldsCosts l.layout.table (segment_length l.layout.cuts k)
      (segment_sum l.layout.cuts l.query k)
      (get_or l.costs k []);
  behind : (k : ℕ) → l.j ≤ k → k < 16 → get_or l.costs k [] ≡ replicate 256 0;
}
