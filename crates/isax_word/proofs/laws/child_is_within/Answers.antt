-- The law is the lemma on words.
use Rattle.isax_word.proofs.Words.{child_within}
use Rattle.isax_word.proofs.laws.child_is_within.Goals as goal

pub returns : goal.returns
returns c =
    child_within c.args.word.now c.args.segment c.args.high c.args.full.now c.requires.used
    c.requires.divisible
    c.requires.contained
