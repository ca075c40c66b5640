-- The pairs so far are named.
use Rattle.std.proofs.Common.{◌≡◌, take}
use Rattle.std.specs.List.{flat_map}
use Rattle.discord_query.specs.Discords.{discords_of}
use Rattle.discord_query.proofs.farthest.named.Given as goal

abbrev pub invariant-loop-pair : goal.invariant-loop-pair
invariant-loop-pair g l =
    l.items.items
    ≡ flat_map (λ p. discords_of (g.R.Rows.collection l.search.rows.now) p.number) (take l.pair-index l.farthest)
