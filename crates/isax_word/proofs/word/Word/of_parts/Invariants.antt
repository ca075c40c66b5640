-- The parts so far and those of the rest make the whole word, and those so far are parts.
use Rattle.std.proofs.Common.{◌≡◌, ◌++◌, take, drop}
use Rattle.std.specs.List.{All}
use Rattle.isax_word.specs.Word.{IsPart, no_part, parts_of}
use Rattle.isax_word.specs.Padded.{IsKept}
use Rattle.isax_word.proofs.word.Word.of_parts.Given as goal

abbrev pub invariant-loop-j : goal.invariant-loop-j
invariant-loop-j l = record {
  kept : IsKept no_part l.parts l.j;
  whole : take l.j l.parts ++ parts_of (drop l.j l.prefixes) (drop l.j l.bits)
      ≡ parts_of l.prefixes l.bits;
  parts : All IsPart (take l.j l.parts);
}
