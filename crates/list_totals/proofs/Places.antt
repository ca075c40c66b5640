-- Totals by place: a total that is not 0 has a place that is not, and two places have at most the total.
use Rattle.std.proofs.Common.{◌≡◌, ◌⊎◌, ℕ, zero, suc, ◌+◌, ◌<◌, ◌≤◌, List, [], ◌∷◌, length, get_or, Contains, refl, sym, inl, inr, ⊎_elim, arith}
use Rattle.std.proofs.lemmas.Bool.Decides.{nat_tests}
use Rattle.list_totals.specs.Totals.{total, one_if_same, times}

module _ {X : Type 0} (f : X → ℕ) where
  -- the part of a place is at most the total
  pub total_place : (xs : List X) (k : ℕ) (d : X) → k < length xs → f (get_or xs k d) ≤ total f xs
  total_place [] k d in_list = absurd (omega arith)
  total_place (x ∷ xs) zero d in_list = omega arith
  total_place (x ∷ xs) (suc k) d in_list = let h = total_place xs k d (omega arith) in omega arith

  -- the parts of two places are at most the total
  pub total_two : (xs : List X) (i j : ℕ) (d : X) → i < j → j < length xs
      → f (get_or xs i d) + f (get_or xs j d) ≤ total f xs
  total_two [] i j d before in_list = absurd (omega arith)
  total_two (x ∷ xs) i zero d before in_list = absurd (omega arith)
  total_two (x ∷ xs) zero (suc j) d before in_list =
      let h = total_place xs j d (omega arith) in omega arith
  total_two (x ∷ xs) (suc i) (suc j) d before in_list =
      let h = total_two xs i j d (omega arith) (omega arith) in omega arith

  -- the place of an item behind another
  behind : (x : X) (xs : List X) (d : X) → (k : ℕ) × (k < length xs) × (0 < f (get_or xs k d))
      → (k : ℕ) × (k < length (x ∷ xs)) × (0 < f (get_or (x ∷ xs) k d))
  behind x xs d place = let in_list = place.1 in (suc place.0, omega arith, place.2)

  -- where the total is not 0, some place has a part
  pub total_some : (xs : List X) (d : X) → 0 < total f xs → (k : ℕ) × (k < length xs)
      × (0 < f (get_or xs k d))
  total_some [] d some = absurd (omega arith)
  total_some (x ∷ xs) d some = ⊎_elim
      (λ (here : 0 < f x). (0, omega arith, here))
      (λ (none : f x ≡ 0). behind x xs d (total_some xs d (omega arith)))
      (some_or_none (f x))
    where
      some_or_none : (n : ℕ) → (0 < n) ⊎ (n ≡ 0)
      some_or_none zero = inr refl
      some_or_none (suc n) = inl (omega arith)

-- two numbers that count as one are the same
same_number : (x y : ℕ) → 0 < one_if_same x y → x ≡ y
same_number x y h = grind (arith, nat_tests)

-- a number counts as itself
itself : (x y : ℕ) → x ≡ y → one_if_same x y ≡ 1
itself x y e = grind (arith, nat_tests)

-- a number that stands somewhere in a list stands there at least once
pub times_at : (x : ℕ) (xs : List ℕ) (k d : ℕ) → k < length xs → get_or xs k d ≡ x → 0 < times x xs
times_at x xs k d in_list is =
    let one = itself x (get_or xs k d) (sym is) in
    let place = total_place (one_if_same x) xs k d in_list in
    omega arith

-- a number that stands in a list at least once is contained
pub times_contains : (x : ℕ) (xs : List ℕ) → 0 < times x xs → Contains xs x
times_contains x xs some =
    let place = total_some (one_if_same x) xs x some in
    (place.0, place.1, sym (same_number x (get_or xs place.0 x) place.2))
