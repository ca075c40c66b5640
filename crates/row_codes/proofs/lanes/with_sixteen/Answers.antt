-- What the words add is added to what the lanes hold.
use Rattle.row_codes.proofs.LaneSums.{handed_back, handed_fit}
use Rattle.row_codes.proofs.Held.{held_more, held_on}
use Rattle.row_codes.proofs.lanes.with_sixteen.Goals as goal

pub added-requires-clause-a_fits : goal.added-requires-clause-a_fits
added-requires-clause-a_fits c = handed_fit c.args.sums c.requires.held.fits

pub added-requires-clause-b_fits : goal.added-requires-clause-b_fits
added-requires-clause-b_fits c = handed_fit c.sums_of_words.result c.sums_of_words.ensures.fits

pub returns : goal.returns
returns c =
    let more = c.sums_of_words in
    let sum = c.added in
    held_on
    (held_more c.args.sixteen c.args.words.now c.args.query.now c.sixteen_words.result _ _ more.result sum.result
    (held_on c.requires.held) c.sixteen_words.ensures more.ensures.value (handed_back more.result more.ensures.fits)
    sum.ensures.value sum.ensures.lanes sum.ensures.fits)
