-- The law is the lemma on rows.
use Rattle.lower_bound.proofs.Bounds.{bound_below_distance}
use Rattle.lower_bound.proofs.laws.bound_is_below_distance.Goals as goal

pub returns : goal.returns
returns c =
    bound_below_distance c.args.layout.now c.args.series.now c.args.query.now c.args.word.now
    c.segments-segments.ensures.divides c.requires.series_length c.requires.query_length
    c.segments-parts.ensures.is_word.parts c.requires.segments c.requires.contained
