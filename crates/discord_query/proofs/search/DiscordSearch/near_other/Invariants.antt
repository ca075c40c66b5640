-- The walk over the leaves needs nothing of those that were passed.
use Rattle.discord_query.proofs.search.DiscordSearch.near_other.Given as goal

abbrev pub invariant-loop-step : goal.invariant-loop-step
invariant-loop-step g l = Unit {0}
