-- Each member of the leaf is that of a series, and has its means.
use Rattle.range_query.proofs.Scanning.{means_there, number_is_series}
use Rattle.range_query.proofs.walk.RadiusSearch.test_all.Goals as goal

pub near-requires-clause-number : goal.near-requires-clause-number
near-requires-clause-number g c =
    number_is_series _ _ _ c.requires.ready.0 c.args.leaf c.loop-i.i
    c.leaf_members-members.result.now c.index-members-i.result c.requires.leaf
    c.leaf_members-members.ensures c.loop-i-test.true c.index-members-i.is

pub near-requires-clause-means : goal.near-requires-clause-means
near-requires-clause-means g c =
    means_there _ _ _ c.requires.ready.0 c.args.leaf c.loop-i.i
    c.leaf_members-members.result.now c.index-members-i.result c.leaf_means-means.result.now c.index-means-i.result c.requires.leaf
    c.requires.means c.leaf_members-members.ensures c.loop-i-test.true c.index-members-i.is
    c.leaf_means-means.ensures c.index-means-i.is
