-- The pairs of all series, by number.
use Rattle.std.proofs.Common.{◌≡◌, ℕ, zero, suc, ◌+◌, List, [], ◌∷◌, Some, refl, sym, ap, ◌∙◌, subst, ⊎_elim, inl, inr, arith}
use Rattle.std.specs.Prelude.{ℤ, slice_get}
use Rattle.std.proofs.lemmas.Option.{same_Some, none-some}
use Rattle.list_totals.specs.Standing.{In}
use Rattle.series_core.specs.Answer.{pair_of, pairs_from}
use Rattle.series_core.specs.declared.pair.Pair.{Pair}

-- the pair of the series at a place stands among the pairs of all
pub series_has : (s : ℕ) (rows : List (List ℤ)) (q : List ℤ) (i : ℕ) (xs : List ℤ) → slice_get rows i ≡ Some xs
    → In (pair_of q (s + i) xs) (pairs_from s rows q)
series_has s [] q i xs here = absurd (none-some xs here)
series_has s (ys ∷ rows) q zero xs here =
    let same : ys ≡ xs = same_Some ys xs here in
    let place : s + 0 ≡ s = omega arith in
    inl (ap (λ n. pair_of q n xs) place ∙ ap (pair_of q s) (sym same))
series_has s (ys ∷ rows) q (suc i) xs here =
    let place : s + 1 + i ≡ s + suc i = omega arith in
    inr (subst (λ n. In (pair_of q n xs) (pairs_from (s + 1) rows q)) place (series_has (s + 1) rows q i xs here))

-- each pair among them is that of a series
pub has_series : (s : ℕ) (rows : List (List ℤ)) (q : List ℤ) (p : Pair) → In p (pairs_from s rows q)
    → (i : ℕ) × (xs : List ℤ) × (slice_get rows i ≡ Some xs) × (p ≡ pair_of q (s + i) xs)
has_series s [] q p has = absurd has
has_series s (ys ∷ rows) q p has =
    ⊎_elim
    (λ (e : p ≡ pair_of q s ys).
    let place : s ≡ s + 0 = omega arith in
    (zero, ys, refl, e ∙ ap (λ n. pair_of q n ys) place))
    (λ (t : In p (pairs_from (s + 1) rows q)).
    let found = has_series (s + 1) rows q p t in
    let place : s + 1 + found.0 ≡ s + suc found.0 = omega arith in
    (suc found.0, found.1, found.2, found.3 ∙ ap (λ n. pair_of q n found.1) place))
    has
