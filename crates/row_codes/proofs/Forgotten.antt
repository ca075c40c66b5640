-- What the codes of a block forget: what one value more adds (`forgotten_more`), and that a value lies at most half a step from what its
-- code stands for (`left_small`).
use Rattle.std.proofs.Common.{◌≡◌, ℕ, ◌+◌, ◌-◌, ◌*◌, ◌/◌, ◌<◌, ◌≤◌, arith, ap, ◌∙◌, ℤ, pos, ◌-ℤ◌, List, [], ◌∷◌, ◌++◌, get_or, length, take}
use Rattle.std.specs.Prelude.{FitsSigned, unsigned_abs}
use Rattle.std.proofs.lemmas.Int.{ints}
use Rattle.std.proofs.lemmas.List.{length-take-le, take_more}
use Rattle.std.proofs.Math.Nat.{div-mul-le_self, lt-div-mul-add}
use mir.Syntax.{w16}
use Rattle.series_core.specs.Distance.{squared_difference, squared_distance}
use Rattle.lower_bound.proofs.Distances.{squared_distance-append}
use Rattle.row_codes.specs.Codes.{code_of, picture_of, raised}

-- the distance of one value more
pub forgotten_more : (xs ps : List ℤ) (i : ℕ) (d e : ℤ) → i < length xs → i < length ps
    → squared_distance (take (i + 1) xs) (take (i + 1) ps)
    ≡ squared_distance (take i xs) (take i ps) + squared_difference (get_or xs i d) (get_or ps i e)
forgotten_more xs ps i d e inside there =
    let same : length (take i xs) ≡ length (take i ps)
    = omega (arith, length-take-le i xs (omega (arith, inside)), length-take-le i ps (omega (arith, there))) in
    let both = squared_distance-append (take i xs) (take i ps) (get_or xs i d ∷ []) (get_or ps i e ∷ []) same in
    ap (λ l. squared_distance l (take (i + 1) ps)) (take_more xs i d inside)
    ∙ ap (λ l. squared_distance (take i xs ++ get_or xs i d ∷ []) l) (take_more ps i e there)
    ∙ omega (arith, both)

-- what is left of a value
pub left_small : (low s : ℕ) (x : ℤ) → 0 < s → s ≤ 4096 → low ≤ raised x → FitsSigned w16 x
    → unsigned_abs (x -ℤ picture_of low s (code_of low s x)) ≤ 2048
left_small low s x some step least fits =
    of_code (code_of low s x) (div-mul-le_self (raised x - low) s) (lt-div-mul-add {a = raised x - low} {b = s} some)
  where
    of_code : (c : ℕ) → c * s ≤ raised x - low → raised x - low < c * s + s → unsigned_abs (x -ℤ picture_of low s c) ≤ 2048
    of_code c under over = of_product (s * c) (c * s) (omega arith) under over
      where
        of_product : (p q : ℕ) → p ≡ q → q ≤ raised x - low → raised x - low < q + s
            → unsigned_abs (x -ℤ (pos (low + p + s / 2) -ℤ pos 32768)) ≤ 2048
        of_product p q same under over = omega (arith, ints, same, under, over, some, step, least, fits)
