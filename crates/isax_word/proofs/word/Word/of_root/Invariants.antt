-- The parts so far and the one-bit word of the rest make the whole word.
use Rattle.std.proofs.Common.{◌≡◌, ◌-◌, ◌^◌, ◌<◌, ◌++◌, take}
use Rattle.isax_word.specs.Word.{no_part, one_bit_word}
use Rattle.isax_word.specs.Padded.{IsKept}
use Rattle.isax_word.proofs.word.Word.of_root.Given as goal

abbrev pub invariant-loop-j : goal.invariant-loop-j
invariant-loop-j l = record {
  kept : IsKept no_part l.parts l.j;
  whole : take l.j l.parts ++ one_bit_word l.rest (l.w - l.j) ≡ one_bit_word l.root l.w;
  bits : l.rest < 2 ^ (l.w - l.j);
}
