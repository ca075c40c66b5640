-- What stands in a list: in its front, behind it, in what a filter lets through and in what a map makes.
use Rattle.std.proofs.Common.{◌≡◌, ◌⊎◌, ℕ, zero, suc, List, [], ◌∷◌, map, Contains, Bool, true, refl, sym, ap, ◌∙◌, subst, inl, inr, ⊎_elim, arith}
use Rattle.std.proofs.lemmas.Bool.{cond_both, cond-true}
use Rattle.std.proofs.lemmas.List.Elements.{filter_passes, All-contains}
use mathlib.Core.Logic.{dite}
use native.Mathlib.Decide.{ℕ_discrete}
use Rattle.std.specs.List.{filter}

module _ {X : Type 0} where
  -- the front stands in the list
  pub in_front : (x : X) (xs : List X) → Contains (x ∷ xs) x
  in_front x xs = (0, omega arith, refl)

  -- what stands behind the front stands in the list
  pub behind : (x y : X) (xs : List X) → Contains xs y → Contains (x ∷ xs) y
  behind x y xs there = let in_list = there.1 in (suc there.0, omega arith, there.2)

  -- what stands in a list is its front or stands behind it
  pub front_or_behind : (x y : X) (xs : List X) → Contains (x ∷ xs) y → (x ≡ y) ⊎ Contains xs y
  front_or_behind x y xs (zero, in_list, is) = inl is
  front_or_behind x y xs (suc k, in_list, is) = inr (k, omega arith, is)

  -- nothing stands in an empty list
  pub none_in : (y : X) → Contains [] y → ⊥
  none_in y there = let in_list = there.1 in absurd (omega arith)

  -- what stands in a list and passes stands in what the filter lets through
  pub contains_filter : (p : X → Bool) (xs : List X) (y : X) → Contains xs y → p y ≡ true
      → Contains (filter p xs) y
  contains_filter p [] y there passes = absurd (none_in y there)
  contains_filter p (x ∷ xs) y there passes = ⊎_elim
      (λ (same : x ≡ y).
      let front = cond-true (p x) (x ∷ filter p xs) (filter p xs) (ap p same ∙ passes) in
      subst (λ ys. Contains ys y) (sym front)
      (subst (Contains (x ∷ filter p xs)) same (in_front x (filter p xs))))
      (λ (rest : Contains xs y).
      let more = contains_filter p xs y rest passes in
      cond_both (p x) (x ∷ filter p xs) (filter p xs) (λ ys. Contains ys y)
      (λ _. behind x y (filter p xs) more) (λ _. more))
      (front_or_behind x y xs there)

  -- what a filter lets through stands in the list
  from_filter : (p : X → Bool) (xs : List X) (y : X) → Contains (filter p xs) y → Contains xs y
  from_filter p [] y = λ there. there
  from_filter p (x ∷ xs) y =
      cond_both (p x) (x ∷ filter p xs) (filter p xs) (λ ys. Contains ys y → Contains (x ∷ xs) y)
      (λ _ there. ⊎_elim
      (λ (same : x ≡ y). subst (Contains (x ∷ xs)) same (in_front x xs))
      (λ (rest : Contains (filter p xs) y). behind x y xs (from_filter p xs y rest))
      (front_or_behind x y (filter p xs) there))
      (λ _ there. behind x y xs (from_filter p xs y there))

  -- and it passes
  pub filter_contains : (p : X → Bool) (xs : List X) (y : X) → Contains (filter p xs) y
      → Contains xs y × (p y ≡ true)
  filter_contains p xs y there = (
    from_filter p xs y there,
    All-contains (λ x. p x ≡ true) (filter p xs) y
        (filter_passes p xs) there,
  )

-- what stands in a list is mapped into the mapped list
pub contains_map : {X Y : Type 0} (f : X → Y) (xs : List X) (x : X) → Contains xs x
    → Contains (map f xs) (f x)
contains_map f [] x there = absurd (none_in x there)
contains_map f (z ∷ xs) x there = ⊎_elim
    (λ (same : z ≡ x). subst (λ y. Contains (map f (z ∷ xs)) (f y)) same
    (in_front (f z) (map f xs)))
    (λ (rest : Contains xs x). behind (f z) (f x) (map f xs) (contains_map f xs x rest))
    (front_or_behind z x xs there)

-- what stands in a mapped list is what something of the list is mapped to
pub map_contains : {X Y : Type 0} (f : X → Y) (xs : List X) (y : Y) → Contains (map f xs) y
    → (x : X) × Contains xs x × (f x ≡ y)
map_contains f [] y there = absurd (none_in y there)
map_contains f (z ∷ xs) y there = ⊎_elim
    (λ (same : f z ≡ y). (z, in_front z xs, same))
    (λ (rest : Contains (map f xs) y).
    let found = map_contains f xs y rest in
    (found.0, behind z found.0 xs found.1, found.2))
    (front_or_behind (f z) y (map f xs) there)

-- a number stands in a list or it does not
pub in_or_not : (xs : List ℕ) (x : ℕ) → Contains xs x ⊎ (¬ (Contains xs x))
in_or_not [] x = inr (none_in x)
in_or_not (y ∷ xs) x = dite (ℕ_discrete y x)
    (λ (same : y ≡ x). inl (subst (Contains (y ∷ xs)) same (in_front y xs)))
    (λ (differ : ¬ (y ≡ x)). ⊎_elim
    (λ (rest : Contains xs x). inl (behind y x xs rest))
    (λ (not : ¬ (Contains xs x)). inr (λ there. ⊎_elim
    (λ (same : y ≡ x). differ same) (λ (rest : Contains xs x). not rest)
    (front_or_behind y x xs there)))
    (in_or_not xs x))
