-- What stands in a list: what a place holds, what stands in lists in a row, and that std's word says the same
-- (`in_contains`, `contains_in`).
use Rattle.std.proofs.Common.{Bool, List, Some, [], All, Contains, cond, ap, arith, inl, inr, length, get_or, refl, suc, sym, zero, ℕ, ⊎_elim, ◌++◌, ◌<◌, ◌∷◌, ◌≡◌, ◌≤◌, ◌⊎◌}
use Rattle.std.proofs.lemmas.Bool.{cases_lt, cond_both}
use Rattle.std.proofs.lemmas.List.Elements.{All-contains}
use Rattle.std.proofs.lemmas.Option.{none-some, same_Some}
use Rattle.std.specs.Prelude.{slice_get}
use Rattle.list_totals.specs.Standing.{In}
use Rattle.list_totals.specs.Totals.{total}

module _ {X : Type 0} where
  -- what a place holds stands in the list
  pub in_place : (xs : List X) (i : ℕ) (x : X) → slice_get xs i ≡ Some x → In x xs
  in_place [] i x e = absurd (none-some x e)
  in_place (y ∷ ys) zero x e = inl (sym (same_Some y x e))
  in_place (y ∷ ys) (suc i) x e = inr (in_place ys i x e)

  -- what is read at a place within the list stands in it
  pub in_at : (xs : List X) (i : ℕ) (x d : X) → i < length xs → get_or xs i d ≡ x → In x xs
  in_at [] i x d in_list e = absurd (omega arith)
  in_at (y ∷ ys) zero x d in_list e = inl (sym e)
  in_at (y ∷ ys) (suc i) x d in_list e = inr (in_at ys i x d (omega arith) e)

  -- what is contained in a list stands in it
  pub contains_in : (xs : List X) (x : X) → Contains xs x → In x xs
  contains_in xs x h = in_at xs h.0 x x h.1 h.2

  -- what stands in a list is contained in it
  pub in_contains : (xs : List X) (x : X) → In x xs → Contains xs x
  in_contains [] x h = absurd h
  in_contains (y ∷ ys) x (inl same) = (0, omega arith, sym same)
  in_contains (y ∷ ys) x (inr behind) =
      let place = in_contains ys x behind in
      (suc place.0, omega (arith, place.1), place.2)

  -- what holds of each item holds of what stands in the list
  pub in_all : (P : X → Type 0) (xs : List X) (x : X) → All P xs → In x xs → P x
  in_all P xs x all h = All-contains P xs x all (in_contains xs x h)

  -- what stands in two lists in a row stands in one of them
  pub in_append : (x : X) (xs ys : List X) → In x (xs ++ ys) → In x xs ⊎ In x ys
  in_append x [] ys h = inr h
  in_append x (z ∷ zs) ys h = ⊎_elim
      (λ (e : x ≡ z). inl (inl e))
      (λ (t : In x (zs ++ ys)). ⊎_elim
      (λ (u : In x zs). inl (inr u))
      (λ (u : In x ys). inr u)
      (in_append x zs ys t))
      h

  -- what stands in the first of two lists in a row stands in both together
  pub in_front : (x : X) (xs ys : List X) → In x xs → In x (xs ++ ys)
  in_front x [] ys h = absurd h
  in_front x (z ∷ zs) ys h = ⊎_elim
      (λ (e : x ≡ z). inl e)
      (λ (t : In x zs). inr (in_front x zs ys t))
      h

  -- what stands in the second of two lists in a row stands in both together
  pub in_behind : (x : X) (xs ys : List X) → In x ys → In x (xs ++ ys)
  in_behind x [] ys h = h
  in_behind x (z ∷ zs) ys h = inr (in_behind x zs ys h)

  -- what stands in a list into which an item was put, in front of the first or behind it, is that item or stood there
  pub in_put : (b : Bool) (x new y : X) (ys put : List X) → (In x put → (x ≡ new) ⊎ In x ys)
      → In x (cond b (y ∷ put) (new ∷ y ∷ ys)) → (x ≡ new) ⊎ In x (y ∷ ys)
  in_put b x new y ys put behind =
      cond_both b (y ∷ put) (new ∷ y ∷ ys) (λ zs. In x zs → (x ≡ new) ⊎ In x (y ∷ ys))
      (λ _ h. ⊎_elim
      (λ (same : x ≡ y). inr (inl same))
      (λ (t : In x put). ⊎_elim
      (λ (same : x ≡ new). inl same)
      (λ (u : In x ys). inr (inr u))
      (behind t))
      h)
      (λ _ h. h)

  -- the part of what stands in a list is at most the total
  pub in_total : (f : X → ℕ) (x : X) (xs : List X) → In x xs → f x ≤ total f xs
  in_total f x [] h = absurd h
  in_total f x (y ∷ ys) h = ⊎_elim
      (λ (e : x ≡ y). let a = ap f e in omega arith)
      (λ (t : In x ys). let a = in_total f x ys t in omega arith)
      h

  -- where the total is not 0, something that stands in the list has a part of it
  pub total_in : (f : X → ℕ) (xs : List X) → 0 < total f xs → (x : X) × In x xs × (0 < f x)
  total_in f [] h = absurd (omega arith)
  total_in f (x ∷ xs) h = ⊎_elim
      (λ (a : 0 < f x). (x, inl refl, a))
      (λ (a : f x ≤ 0). let r = total_in f xs (omega arith) in (r.0, inr r.1, r.2))
      (cases_lt 0 (f x))
