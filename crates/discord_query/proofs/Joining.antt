-- The k smallest of two lists that share no pair: what of the k smallest of all stands in one of them stands there too.
use Rattle.std.proofs.Common.{◌≡◌, ℕ, ◌≤◌, List, [], ◌∷◌, ◌++◌, ◌⊎◌, length, take, refl, sym, ◌∙◌, inl, inr, ⊎_elim}
use Rattle.std.proofs.lemmas.List.{take_all}
use Rattle.list_totals.specs.Standing.{In}
use Rattle.series_core.specs.Order.{Among, Ascending}
use Rattle.series_core.specs.Pairs.{ascending, smallest}
use Rattle.series_core.specs.declared.pair.Pair.{Pair}
use Rattle.series_core.proofs.Parts.{ascending_insert, ascending_take, has_take, kept, not_above, same_take}
use Rattle.series_core.proofs.Plain.{has_ascending, ascending_has}
use Rattle.list_totals.proofs.Standing.{in_append, in_front, in_behind}

-- a list that ascends still does when it is put in order with another that shares no pair with it
joined_ascends : (xs ys : List Pair) → Ascending xs → Ascending (ascending ys)
    → ((p : Pair) → In p xs → In p ys → ⊥) → Ascending (ascending (xs ++ ys))
joined_ascends [] ys up down apart = down
joined_ascends (x ∷ xs) ys up down apart =
    ascending_insert x (ascending (xs ++ ys))
    (λ has. ⊎_elim
    (λ (t : In x xs). not_above x xs up.0 t)
    (λ (t : In x ys). apart x (inl refl) t)
    (in_append x xs ys (has_ascending x (xs ++ ys) has)))
    (joined_ascends xs ys up.1 down (λ p has had. apart p (inr has) had))

-- a list that ascends still does when it is put in order
ordered : (xs : List Pair) → Ascending xs → Ascending (ascending xs)
ordered [] up = tt
ordered (x ∷ xs) up =
    ascending_insert x (ascending xs) (λ has. not_above x xs up.0 (has_ascending x xs has))
    (ordered xs up.1)

module _ (k : ℕ) (whole xs ys : List Pair) (strict : Ascending (ascending whole)) (up : Ascending xs)
    (down : Ascending ys) (first : Among xs whole) (second : Among ys whole)
    (apart : (p : Pair) → In p xs → In p ys → ⊥) where
  -- both together
  both_strict : Ascending (ascending (xs ++ ys))
  both_strict = joined_ascends xs ys up (ordered ys down) apart

  -- each of them stands in the whole
  pub both_among : Among (xs ++ ys) whole
  both_among p has = ⊎_elim (first p) (second p) (in_append p xs ys has)

  -- the k smallest ascend
  pub joined_strict : Ascending (smallest k (xs ++ ys))
  joined_strict = ascending_take k (ascending (xs ++ ys)) both_strict

  -- each of them stands in one of the lists
  pub joined_only : (p : Pair) → In p (smallest k (xs ++ ys)) → In p xs ⊎ In p ys
  joined_only p has =
      in_append p xs ys (has_ascending p (xs ++ ys) (has_take k p (ascending (xs ++ ys)) has))

  -- what is among the k smallest of all and stands in one of the lists is among them
  pub joined_has : (p : Pair) → In p (take k (ascending whole)) → In p xs ⊎ In p ys
      → In p (smallest k (xs ++ ys))
  joined_has p near has =
      kept k (ascending (xs ++ ys)) (ascending whole) both_strict strict
      (λ q there. ascending_has q whole (both_among q (has_ascending q (xs ++ ys) there))) p near
      (ascending_has p (xs ++ ys) (⊎_elim (in_front p xs ys) (in_behind p xs ys) has))

-- a list of at most k that has the k smallest of all is those
pub whole_top : (k : ℕ) (whole xs : List Pair) → Ascending (ascending whole) → Ascending xs
    → Among xs whole → length xs ≤ k → ((p : Pair) → In p (take k (ascending whole)) → In p xs)
    → xs ≡ take k (ascending whole)
whole_top k whole xs strict up among few has =
    sym (take_all k xs few)
    ∙ same_take k xs (ascending whole) up strict (λ p there. ascending_has p whole (among p there)) has
