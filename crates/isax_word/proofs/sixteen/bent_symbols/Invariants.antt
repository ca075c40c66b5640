-- After each round half as many places are left to search for each of the sixteen; within a round, for those so far.
use Rattle.std.proofs.Common.{◌≡◌, ℕ, length, ◌-◌, ◌^◌, ◌<◌, ◌≤◌}
use Rattle.isax_word.proofs.SideBySide.{NarrowedAt}
use Rattle.isax_word.proofs.sixteen.bent_symbols.Given as goal

abbrev pub invariant-loop-round : goal.invariant-loop-round
invariant-loop-round l = record {
  long : length l.symbols ≡ 16;
  each : (i : ℕ) → i < 16 → NarrowedAt l.means l.symbols (2 ^ (8 - l.round)) i;
}

abbrev pub invariant-loop-j : goal.invariant-loop-j
invariant-loop-j l = record {
  long : length l.symbols ≡ 16;
  done : (i : ℕ) → i < l.j → NarrowedAt l.means l.symbols (2 ^ (7 - l.round)) i;
  left : (i : ℕ) → l.j ≤ i → i < 16 → NarrowedAt l.means l.symbols (2 ^ (8 - l.round)) i;
}
