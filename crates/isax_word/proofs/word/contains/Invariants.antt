-- The whole is contained where the places so far are and what is left of the word contains what is left of the full word.
use Rattle.std.proofs.Common.{◌≡◌, drop}
use Rattle.std.specs.Prelude.{◌&&◌}
use Rattle.isax_word.specs.Word.{word_contains}
use Rattle.isax_word.proofs.word.contains.Given as goal

abbrev pub invariant-loop-j : goal.invariant-loop-j
invariant-loop-j l = (l.inside && word_contains (drop l.j l.word) (drop l.j l.full)) ≡ word_contains l.word l.full
