-- A leaf whose members have means is tested by them.
use Rattle.std.proofs.Common.{sym, ◌∙◌}
use Rattle.range_query.proofs.walk.RadiusSearch.scan.Goals as goal

pub test_all-requires-clause-means : goal.test_all-requires-clause-means
test_all-requires-clause-means g c = sym c.has_means.ensures ∙ c.if-has_means.true
