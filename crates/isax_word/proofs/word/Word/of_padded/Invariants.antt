-- The least and the greatest symbols of the parts so far are kept.
use Rattle.isax_word.specs.Word.{first_symbol, last_symbol}
use Rattle.isax_word.proofs.PaddedLists.{HoldsImages}
use Rattle.isax_word.proofs.word.Word.of_padded.Given as goal

abbrev pub invariant-loop-j : goal.invariant-loop-j
invariant-loop-j l = record {
  firsts : HoldsImages first_symbol l.parts l.firsts l.j;
  lasts : HoldsImages last_symbol l.parts l.lasts l.j;
}
