-- The tables are those of the members that were put together.
use Rattle.std.proofs.Common.{rules}
use Rattle.subtree_build.proofs.phases.build.Goals as goal

pub tables_of-requires-clause-series : goal.tables_of-requires-clause-series
tables_of-requires-clause-series g c = let own = c.in_ok-bare.ensures.series in search (rules, own)

pub tables_of-requires-clause-few : goal.tables_of-requires-clause-few
tables_of-requires-clause-few g c = let few = c.in_ok-bare.ensures.bare.seen.few in search (rules, few)

pub tables_of-requires-clause-places : goal.tables_of-requires-clause-places
tables_of-requires-clause-places g c = let lie = c.in_ok-bare.ensures.bare.places in search (rules, lie)
