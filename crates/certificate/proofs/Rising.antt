-- Pairs of which each is greater than the one before it: they ascend, and one more behind the last may be added.
use Rattle.std.proofs.Common.{◌≡◌, ℕ, zero, suc, List, [], ◌∷◌, ◌++◌, length, Some, true, refl, sym, subst, ⊎_elim, inl, inr, arith}
use Rattle.std.specs.Prelude.{slice_get, ◌⊎◌}
use Rattle.std.proofs.lemmas.Option.{same_Some, none-some}
use Rattle.series_core.specs.Pairs.{is_before}
use Rattle.list_totals.specs.Standing.{In}
use Rattle.series_core.specs.Order.{Above, Ascending}
use Rattle.series_core.specs.declared.pair.Pair.{Pair}
use Rattle.series_core.proofs.Order.{before_trans}

-- each pair is smaller than the one behind it
abbrev pub Rising : List Pair → Type 0
Rising ps = (i : ℕ) (p q : Pair) → slice_get ps i ≡ Some p → slice_get ps (suc i) ≡ Some q → is_before p q ≡ true

-- what is above a pair is above a smaller one
above_smaller : (p q : Pair) (rs : List Pair) → is_before p q ≡ true → Above q rs → Above p rs
above_smaller p q [] low above = tt
above_smaller p q (r ∷ rs) low above = (before_trans p q r low above.0, above_smaller p q rs low above.1)

-- such pairs ascend
pub rising_ascends : (ps : List Pair) → Rising ps → Ascending ps
rising_ascends [] up = tt
rising_ascends (p ∷ []) up = (tt, tt)
rising_ascends (p ∷ q ∷ rest) up =
    let tail : Ascending (q ∷ rest) = rising_ascends (q ∷ rest) (λ i x y hx hy. up (suc i) x y hx hy) in
    let low : is_before p q ≡ true = up zero p q refl refl in
    ((low, above_smaller p q rest low tail.0), tail)

-- a pair that is greater than the last of an ascending list is greater than each
above_last : (p last r : Pair) (qs : List Pair) (n : ℕ) → Above p qs → slice_get qs n ≡ Some last
    → is_before last r ≡ true → is_before p r ≡ true
above_last p last r [] n above here low = absurd (none-some last here)
above_last p last r (q ∷ qs) zero above here low =
    let same : q ≡ last = same_Some q last here in
    before_trans p last r (subst (λ (x : Pair). is_before p x ≡ true) same above.0) low
above_last p last r (q ∷ qs) (suc n) above here low = above_last p last r qs n above.1 here low

-- one more pair behind those above another
above_more : (p r : Pair) (qs : List Pair) → Above p qs → is_before p r ≡ true → Above p (qs ++ r ∷ [])
above_more p r [] above low = (low, tt)
above_more p r (q ∷ qs) above low = (above.0, above_more p r qs above.1 low)

-- a pair that is greater than the last may stand behind an ascending list
pub ascending_more : (ps : List Pair) (n : ℕ) (last r : Pair) → Ascending ps → length ps ≡ suc n
    → slice_get ps n ≡ Some last → is_before last r ≡ true → Ascending (ps ++ r ∷ [])
ascending_more [] n last r up size here low = absurd (none-some last here)
ascending_more (p ∷ []) zero last r up size here low =
    let same : p ≡ last = same_Some p last here in
    ((subst (λ (x : Pair). is_before x r ≡ true) (sym same) low, tt), (tt, tt))
ascending_more (p ∷ []) (suc n) last r up size here low = absurd (none-some last here)
ascending_more (p ∷ q ∷ qs) zero last r up size here low =
    let count : length (p ∷ q ∷ qs) ≡ suc (suc (length qs)) = refl in absurd (omega arith)
ascending_more (p ∷ q ∷ qs) (suc n) last r up size here low =
    let count : length (p ∷ q ∷ qs) ≡ suc (length (q ∷ qs)) = refl in (
      above_more p r (q ∷ qs) up.0 (above_last p last r (q ∷ qs) n up.0 here low),
      ascending_more (q ∷ qs) n last r up.1 (omega arith) here low,
    )

-- what stands in a list and one more
pub has_more : (p r : Pair) (ps : List Pair) → In p (ps ++ r ∷ []) → In p ps ⊎ (p ≡ r)
has_more p r [] has = ⊎_elim (λ (e : p ≡ r). inr e) (λ (t : ⊥). absurd t) has
has_more p r (q ∷ qs) has =
    ⊎_elim
    (λ (e : p ≡ q). inl (inl e))
    (λ (t : In p (qs ++ r ∷ [])). ⊎_elim
    (λ (u : In p qs). inl (inr u))
    (λ (e : p ≡ r). inr e)
    (has_more p r qs t))
    has

-- the one more stands there
pub has_last : (r : Pair) (ps : List Pair) → In r (ps ++ r ∷ [])
has_last r [] = inl refl
has_last r (q ∷ qs) = inr (has_last r qs)
