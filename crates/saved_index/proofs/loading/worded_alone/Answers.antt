-- The members that were read get the words that were made for them.
use Rattle.std.proofs.Common.{refl}
use Rattle.saved_index.proofs.Beside.{can_be_given, is_worded}
use Rattle.saved_index.proofs.loading.worded_alone.Goals as goal

pub give_words_in_turn-requires : goal.give_words_in_turn-requires
give_words_in_turn-requires g c =
    can_be_given (g.R.Rows.collection c.args.rows.now) c.args.bytes.now c.in-Ok.framed c.in-Ok.ensures.read _ _ _ c.as_mut_slice.ensures.value
    c.in_ok-words.ensures

pub returns-clause-worded : goal.returns-clause-worded
returns-clause-worded g c =
    is_worded (g.R.Rows.collection c.args.rows.now) c.args.bytes.now c.in-Ok.framed c.in-Ok.ensures.read _ _ _ refl
    c.as_mut_slice.ensures.value c.give_words_in_turn.ensures
