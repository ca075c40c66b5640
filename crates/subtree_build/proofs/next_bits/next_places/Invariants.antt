-- The place values of the segments so far.
use Rattle.std.proofs.Common.{◌≡◌, ℕ, ◌-◌, ◌^◌, ◌<◌, length, get_or}
use Rattle.isax_word.specs.Word.{part_at}
use Rattle.subtree_build.proofs.next_bits.next_places.Given as goal

abbrev pub invariant-loop-j : goal.invariant-loop-j
invariant-loop-j l = record {
  long : length l.places ≡ 16;
  each : (k : ℕ) → k < l.j → get_or l.places k 0 ≡ 2 ^ (7 - (part_at l.word k).bits);
}
