-- The places so far hold the nearest numbers.
use Rattle.std.proofs.Common.{ℕ, ◌≡◌, ◌<◌, length, get_or}
use Rattle.std.specs.Prelude.{min, max}
use Rattle.lower_bound.proofs.view.nearest_symbols.Given as goal

abbrev pub invariant-loop-j : goal.invariant-loop-j
invariant-loop-j l = record {
  whole : length l.nearest ≡ 16;
  each : (k : ℕ) → k < l.j
      → get_or l.nearest k 0 ≡ max (get_or l.firsts k 0) (min (get_or l.lasts k 0) (get_or l.symbols k 0));
}
