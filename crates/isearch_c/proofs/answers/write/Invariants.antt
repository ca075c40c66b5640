-- So many are written.
use Rattle.std.proofs.Common.{◌≡◌, ℕ, ◌<◌, get_or, map}
use Rattle.series_core.specs.declared.pair.Pair.{Pair}
use Rattle.isearch_c.proofs.answers.write.Given as goal

abbrev pub invariant-loop-i : goal.invariant-loop-i
invariant-loop-i l = record {
  distances : (n : ℕ) → n < l.i → get_or l.distances n 0 ≡ get_or (map (λ (p : Pair). p.distance) l.pairs) n 0;
  numbers : (n : ℕ) → n < l.i → get_or l.numbers n 0 ≡ get_or (map (λ (p : Pair). p.number) l.pairs) n 0;
}
