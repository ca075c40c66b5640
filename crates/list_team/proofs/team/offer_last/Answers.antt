-- The k-th pair of a list is as far as its last distance, which is no less than the floor.
use Rattle.std.proofs.Common.{◌≡◌, ℕ, zero, suc, ◌-◌, List, [], ◌∷◌, refl, ap, ◌∙◌, arith}
use Rattle.std.specs.Prelude.{slice_get}
use Rattle.series_core.specs.Answer.{distance_or_none}
use Rattle.series_core.specs.Order.{distance_at}
use Rattle.series_core.specs.declared.pair.Pair.{Pair}
use Rattle.list_team.proofs.team.offer_last.Goals as goal

-- the distance of the pair at a place, or NONE where there is none
distance_there : (n : ℕ) (ps : List Pair) → distance_or_none (slice_get ps n) ≡ distance_at n ps
distance_there n [] = refl
distance_there zero (p ∷ ps) = refl
distance_there (suc n) (p ∷ ps) = distance_there n ps

pub offer-requires-clause-floor : goal.offer-requires-clause-floor
offer-requires-clause-floor c =
    let list = c.args.list.now in
    let same : c.in-Some.worst.distance ≡ distance_at (list.k - 1) list.pairs
    = ap distance_or_none c.in-Some.ensures.pair ∙ distance_there (list.k - 1) list.pairs in
    omega (arith, same, c.requires.last)
