-- The walk over the members needs nothing of those that were passed.
use Rattle.discord_query.proofs.search.DiscordSearch.near_in.Given as goal

abbrev pub invariant-loop-i : goal.invariant-loop-i
invariant-loop-i g l = Unit {0}
