-- The law is the lemma on parts, from the first segment on.
use Rattle.lower_bound.proofs.Bounds.{child_bound}
use Rattle.lower_bound.proofs.laws.child_bound_is_no_less.Goals as goal

pub returns : goal.returns
returns c =
    child_bound c.args.view.now 0 c.args.word.now c.args.segment c.args.high
    c.segments-segments.ensures.is_view
    c.segments-parts.ensures.is_word.parts c.requires.used c.requires.divisible
