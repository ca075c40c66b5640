-- The walk over those that were near last needs nothing of those that were passed.
use Rattle.discord_query.proofs.search.DiscordSearch.is_given_up.Given as goal

abbrev pub invariant-loop-place : goal.invariant-loop-place
invariant-loop-place g l = Unit {0}
