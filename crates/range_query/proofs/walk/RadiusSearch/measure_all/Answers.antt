-- Each member of the leaf is that of a series.
use Rattle.range_query.proofs.Scanning.{number_is_series}
use Rattle.range_query.proofs.walk.RadiusSearch.measure_all.Goals as goal

pub measured-requires-clause-number : goal.measured-requires-clause-number
measured-requires-clause-number g c =
    number_is_series _ _ _ c.requires.ready.0 c.args.leaf c.loop-i.i
    c.leaf_members-members.result.now c.index-members-i.result c.requires.leaf
    c.leaf_members-members.ensures c.loop-i-test.true c.index-members-i.is
