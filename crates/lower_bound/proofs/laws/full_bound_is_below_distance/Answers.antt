-- The law is the lemma on rows.
use Rattle.lower_bound.proofs.Bounds.{full_bound_below_distance}
use Rattle.lower_bound.proofs.laws.full_bound_is_below_distance.Goals as goal

pub returns : goal.returns
returns c =
    full_bound_below_distance c.args.layout.now c.args.series.now c.args.query.now
    c.segments-segments.ensures.divides c.requires.series_length c.requires.query_length
