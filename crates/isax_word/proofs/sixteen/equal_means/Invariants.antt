-- The means so far.
use Rattle.std.proofs.Common.{◌≡◌, ℕ, ◌<◌, pos, length, get_or}
use Rattle.isax_word.specs.Symbol.{mean_of}
use Rattle.isax_word.proofs.sixteen.equal_means.Given as goal

abbrev pub invariant-loop-j : goal.invariant-loop-j
invariant-loop-j g l = record {
  long : length l.means ≡ 16;
  each : (i : ℕ) → i < l.j → get_or l.means i (pos 0) ≡ mean_of g.row.L (get_or l.sums i (pos 0));
}
