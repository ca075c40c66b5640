-- The bits read so far, moved up by those to come, and the root number of the rest make the whole.
use Rattle.std.proofs.Common.{◌≡◌, ◌+◌, ◌-◌, ◌*◌, ◌^◌, ◌<◌, drop, length}
use Rattle.isax_word.specs.FullWord.{root_number}
use Rattle.isax_word.proofs.full.root_of.Given as goal

abbrev pub invariant-loop-j : goal.invariant-loop-j
invariant-loop-j l = record {
  whole : l.root * 2 ^ (length l.full - l.j) + root_number (drop l.j l.full) ≡ root_number l.full;
  bits : l.root < 2 ^ l.j;
}
