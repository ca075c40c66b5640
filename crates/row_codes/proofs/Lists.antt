-- Lists of values and codes: how far what codes stand for lies from no more values than there are (`pictured_front`).
use Rattle.std.proofs.Common.{◌≡◌, ℕ, zero, suc, ◌≤◌, arith, refl, ℤ, List, [], ◌∷◌, length, take}
use Rattle.series_core.specs.Distance.{squared_distance}
use Rattle.row_codes.specs.Codes.{pictured}

-- of n codes at most, only so many values count, and of the codes only as many as these
pub pictured_front : (n low s : ℕ) (cs : List ℕ) (qs : List ℤ) → length cs ≤ n
    → squared_distance (pictured low s cs) qs
    ≡ squared_distance (pictured low s (take (length (take n qs)) cs)) (take n qs)
pictured_front zero low s [] qs few = refl
pictured_front zero low s (c ∷ cs) qs few = absurd (omega (arith, few))
pictured_front (suc n) low s [] [] few = refl
pictured_front (suc n) low s [] (q ∷ qs) few = refl
pictured_front (suc n) low s (c ∷ cs) [] few = refl
pictured_front (suc n) low s (c ∷ cs) (q ∷ qs) few =
    let rest = pictured_front n low s cs qs (omega (arith, few)) in
    omega (arith, rest)
