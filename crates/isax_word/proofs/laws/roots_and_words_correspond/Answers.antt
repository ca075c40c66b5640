-- One-bit words differ where their roots do, and each is that of a root.
use Rattle.isax_word.proofs.Roots.{one_bit_word_apart, one_bit_word_each}
use Rattle.isax_word.proofs.laws.roots_and_words_correspond.Goals as goal

pub returns : goal.returns
returns c = record {
  apart = λ root other w small less same. one_bit_word_apart root other w small less same;
  each = λ word is_word one. one_bit_word_each word is_word.parts one;
}
