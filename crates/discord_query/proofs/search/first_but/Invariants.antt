-- None of the pairs so far is of another series.
use Rattle.std.proofs.Common.{◌≡◌, take, drop}
use Rattle.std.specs.List.{filter}
use Rattle.discord_query.specs.Discords.{is_other}
use Rattle.discord_query.proofs.search.first_but.Given as goal

abbrev pub invariant-loop-pair : goal.invariant-loop-pair
invariant-loop-pair l =
    take 1 (filter (is_other l.number) (drop l.pair-index l.pairs)) ≡ take 1 (filter (is_other l.number) l.pairs)
