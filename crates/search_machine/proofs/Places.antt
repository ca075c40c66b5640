-- Totals by place, and what stands at a place after a write.
use Rattle.std.proofs.Common.{List, None, Some, [], ap, arith, drop, inl, inr, length, map, refl, set, suc, sym, zero, ℕ, ⊎_elim, ◌+◌, ◌<◌, ◌∷◌, ◌≡◌, ◌≤◌, ◌⊎◌}
use Rattle.std.proofs.lemmas.Bool.{cases_lt}
use Rattle.std.proofs.lemmas.Option.{none-some, same_Some}
use Rattle.std.specs.Prelude.{replicate, slice_get}
use lib.ListN.{get_elem?}
use mathlib.Core.Option.{some}
use Rattle.list_totals.proofs.Totals.{total_at as total_item, total_le, total_set as total_changed}
use Rattle.list_totals.specs.Totals.{total}

module _ {X : Type 0} where
  -- the same place, as the base crate of totals names it
  pub at_place : (xs : List X) (i : ℕ) (x : X) → slice_get xs i ≡ Some x → get_elem? xs i ≡ some x
  at_place [] i x e = absurd (none-some x e)
  at_place (y ∷ ys) zero x e = ap some (same_Some y x e)
  at_place (y ∷ ys) (suc i) x e = at_place ys i x e

  -- y in the place of x takes f x away and adds f y
  pub total_set : (f : X → ℕ) (xs : List X) (i : ℕ) (x y : X) → slice_get xs i ≡ Some x
      → total f (set xs i y) + f x ≡ total f xs + f y
  total_set f xs i x y e = total_changed f xs i x y (at_place xs i x e)

  -- an item's part is at most the total
  pub total_at : (f : X → ℕ) (xs : List X) (i : ℕ) (x : X) → slice_get xs i ≡ Some x
      → f x ≤ total f xs
  total_at f xs i x e = total_item f xs i x (at_place xs i x e)

  -- where the total is not 0, some place has a part of it
  pub total_some : (f : X → ℕ) (xs : List X) → 0 < total f xs
      → (i : ℕ) × (x : X) × (slice_get xs i ≡ Some x) × (0 < f x)
  total_some f [] h = absurd (omega arith)
  total_some f (x ∷ xs) h = ⊎_elim
      (λ (here : 0 < f x). (0, x, refl, here))
      (λ (none : f x ≤ 0). let r = total_some f xs (omega arith) in (suc r.0, r.1, r.2, r.3))
      (cases_lt 0 (f x))

  -- two places with a part have at least 2 of the total
  pub total_two : (f : X → ℕ) (xs : List X) (i j : ℕ) (x y : X) → slice_get xs i ≡ Some x
      → slice_get xs j ≡ Some y → (i ≡ j → ⊥) → 0 < f x → 0 < f y → 2 ≤ total f xs
  total_two f [] i j x y a b ne h k = absurd (none-some x a)
  total_two f (z ∷ xs) zero zero x y a b ne h k = absurd (ne refl)
  total_two f (z ∷ xs) zero (suc j) x y a b ne h k =
      let c : f z ≡ f x = ap f (same_Some z x a) in let d = total_at f xs j y b in omega arith
  total_two f (z ∷ xs) (suc i) zero x y a b ne h k =
      let c : f z ≡ f y = ap f (same_Some z y b) in let d = total_at f xs i x a in omega arith
  total_two f (z ∷ xs) (suc i) (suc j) x y a b ne h k =
      let c = total_two f xs i j x y a b (λ e. ne (ap suc e)) h k in omega arith

  -- where no place has more than 1, and no two have any, the total is at most 1
  pub at_most_one : (f : X → ℕ) (xs : List X)
      → ((i : ℕ) (x : X) → slice_get xs i ≡ Some x → f x ≤ 1)
      → ((i j : ℕ) (x y : X) → slice_get xs i ≡ Some x → slice_get xs j ≡ Some y → 0 < f x
      → 0 < f y → i ≡ j)
      → total f xs ≤ 1
  at_most_one f [] small apart = omega arith
  at_most_one f (x ∷ xs) small apart =
      let rest : total f xs ≤ 1 = at_most_one f xs
      (λ i y e. small (suc i) y e)
      (λ i j y z a b h k. let same = apart (suc i) (suc j) y z a b h k in omega arith)
      in
      let here = small 0 x refl in
      ⊎_elim
      (λ (a : 0 < f x). ⊎_elim
      (λ (b : 0 < total f xs).
      let r = total_some f xs b in
      let same = apart 0 (suc r.0) x r.1 refl r.2 a r.3 in absurd (omega arith))
      (λ (b : total f xs ≤ 0). omega arith)
      (cases_lt 0 (total f xs)))
      (λ (a : f x ≤ 0). omega arith)
      (cases_lt 0 (f x))

  -- where no place has a part, the total is 0
  pub total_none : (f : X → ℕ) (xs : List X)
      → ((i : ℕ) (x : X) → slice_get xs i ≡ Some x → f x ≡ 0) → total f xs ≡ 0
  total_none f [] h = refl
  total_none f (x ∷ xs) h =
      let a = h 0 x refl in
      let b = total_none f xs (λ i y e. h (suc i) y e) in
      omega arith

  -- where f is at most h at each item, so is the total
  pub total_most : (f h : X → ℕ) (xs : List X) → ((x : X) → f x ≤ h x) → total f xs ≤ total h xs
  total_most f h xs le = total_le f h xs (λ j x e. le x)

  -- the total of a sum is the sum of the totals
  pub total_add : (f h : X → ℕ) (xs : List X)
      → total (λ x. f x + h x) xs ≡ total f xs + total h xs
  total_add f h [] = refl
  total_add f h (x ∷ xs) = let b = total_add f h xs in omega arith

  -- what is left of a total from a place on
  pub total_drop : (f : X → ℕ) (xs : List X) (c : ℕ) (x : X) → slice_get xs c ≡ Some x
      → total f (drop c xs) ≡ f x + total f (drop (suc c) xs)
  total_drop f [] c x e = absurd (none-some x e)
  total_drop f (z ∷ xs) zero x e =
      let same : f z ≡ f x = ap f (same_Some z x e) in omega arith
  total_drop f (z ∷ xs) (suc c) x e = total_drop f xs c x e

  -- after a write to place i, place j holds what was written or what it held
  pub get_set : (xs : List X) (i j : ℕ) (x y : X) → slice_get (set xs i y) j ≡ Some x
      → ((j ≡ i) × (y ≡ x)) ⊎ (slice_get xs j ≡ Some x)
  get_set [] i j x y e = absurd (none-some x e)
  get_set (z ∷ xs) zero zero x y e = inl (refl, same_Some y x e)
  get_set (z ∷ xs) zero (suc j) x y e = inr e
  get_set (z ∷ xs) (suc i) zero x y e = inr e
  get_set (z ∷ xs) (suc i) (suc j) x y e = ⊎_elim
      (λ (h : (j ≡ i) × (y ≡ x)). inl (ap suc h.0, h.1))
      (λ (h : slice_get xs j ≡ Some x). inr h)
      (get_set xs i j x y e)

  -- place i holds what was written to it
  pub get_set_same : (xs : List X) (i : ℕ) (x y : X) → slice_get (set xs i y) i ≡ Some x → y ≡ x
  get_set_same [] i x y e = absurd (none-some x e)
  get_set_same (z ∷ xs) zero x y e = same_Some y x e
  get_set_same (z ∷ xs) (suc i) x y e = get_set_same xs i x y e

  -- another place holds what it held
  pub get_set_other : (xs : List X) (i j : ℕ) (y : X) → (j ≡ i → ⊥)
      → slice_get (set xs i y) j ≡ slice_get xs j
  get_set_other [] i j y ne = refl
  get_set_other (z ∷ xs) zero zero y ne = absurd (ne refl)
  get_set_other (z ∷ xs) zero (suc j) y ne = refl
  get_set_other (z ∷ xs) (suc i) zero y ne = refl
  get_set_other (z ∷ xs) (suc i) (suc j) y ne = get_set_other xs i j y (λ e. ne (ap suc e))

  -- a place that holds nothing is past the end
  pub get_none : (xs : List X) (i : ℕ) → slice_get xs i ≡ None → length xs ≤ i
  get_none [] i e = omega arith
  get_none (z ∷ xs) zero e = absurd (none-some z (sym e))
  get_none (z ∷ xs) (suc i) e = let h = get_none xs i e in omega arith

  -- a place before the end holds something
  pub get_some : (xs : List X) (i : ℕ) → i < length xs → (x : X) × (slice_get xs i ≡ Some x)
  get_some [] i h = absurd (omega arith)
  get_some (x ∷ xs) zero h = (x, refl)
  get_some (x ∷ xs) (suc i) h = get_some xs i (omega arith)

-- what a place of a mapped list holds
pub get_map : {X Y : Type 0} (v : X → Y) (xs : List X) (i : ℕ) (y : Y)
    → slice_get (map v xs) i ≡ Some y → (x : X) × (slice_get xs i ≡ Some x) × (v x ≡ y)
get_map v [] i y e = absurd (none-some y e)
get_map v (x ∷ xs) zero y e = (x, refl, same_Some (v x) y e)
get_map v (x ∷ xs) (suc i) y e = get_map v xs i y e

-- what a place of a repeated item holds
pub get_replicate : {X : Type 0} (n : ℕ) (x : X) (i : ℕ) (y : X)
    → slice_get (replicate n x) i ≡ Some y → x ≡ y
get_replicate zero x i y e = absurd (none-some y e)
get_replicate (suc n) x zero y e = same_Some x y e
get_replicate (suc n) x (suc i) y e = get_replicate n x i y e

-- a repeated item that has no part has no total
pub total_replicate_none : {X : Type 0} (f : X → ℕ) (n : ℕ) (x : X) → f x ≡ 0
    → total f (replicate n x) ≡ 0
total_replicate_none f zero x none = refl
total_replicate_none f (suc n) x none =
    let rest = total_replicate_none f n x none in omega arith
