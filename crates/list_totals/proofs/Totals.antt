-- Totals after a change of the list: a total changes by what the changed item changes.
use Rattle.std.proofs.Common.{◌≡◌, ℕ, zero, suc, ◌+◌, ◌<◌, ◌≤◌, List, [], ◌∷◌, ◌++◌, map, set, sym, refl, ap, arith}
use Rattle.std.proofs.lemmas.Bool.Decides.{nat_tests}
use mathlib.Core.Option.{some, some-injective, some-ne-none}
use lib.ListN.{get_elem?}
use Rattle.list_totals.specs.Totals.{total, one_if_same, times, once_below}

module _ {X : Type 0} (f : X → ℕ) where
  -- y in the place of x takes f x away and adds f y
  pub total_set : (xs : List X) (i : ℕ) (x y : X) → get_elem? xs i ≡ some x
      → total f (set xs i y) + f x ≡ total f xs + f y
  total_set [] i x y e = absurd (some-ne-none x (sym e))
  total_set (z ∷ xs) zero x y e = let same : f z ≡ f x = ap f (some-injective z x e) in omega arith
  total_set (z ∷ xs) (suc i) x y e = let h = total_set xs i x y e in omega arith

  -- two lists in a row have both totals
  pub total_append : (xs ys : List X) → total f (xs ++ ys) ≡ total f xs + total f ys
  total_append [] ys = omega arith
  total_append (x ∷ xs) ys = let h = total_append xs ys in omega arith

  -- a new last item adds its own part
  pub total_push : (xs : List X) (y : X) → total f (xs ++ y ∷ []) ≡ total f xs + f y
  total_push xs y = let h = total_append xs (y ∷ []) in omega arith

  -- an item's part is at most the total
  pub total_at : (xs : List X) (i : ℕ) (x : X) → get_elem? xs i ≡ some x → f x ≤ total f xs
  total_at [] i x e = absurd (some-ne-none x (sym e))
  total_at (z ∷ xs) zero x e = let same : f z ≡ f x = ap f (some-injective z x e) in omega arith
  total_at (z ∷ xs) (suc i) x e = let h = total_at xs i x e in omega arith

-- a total over mapped items is a total over the items
pub total_map : {X Y : Type 0} (f : Y → ℕ) (g : X → Y) (xs : List X)
    → total f (map g xs) ≡ total (λ x. f (g x)) xs
total_map f g [] = refl
total_map f g (x ∷ xs) = ap (λ n. f (g x) + n) (total_map f g xs)

-- where f is at most g at each item, so is the total
pub total_le : {X : Type 0} (f g : X → ℕ) (xs : List X)
    → ((j : ℕ) (x : X) → get_elem? xs j ≡ some x → f x ≤ g x) → total f xs ≤ total g xs
total_le f g [] le = omega arith
total_le f g (x ∷ xs) le =
    let here : f x ≤ g x = le 0 x refl in
    let rest : total f xs ≤ total g xs = total_le f g xs (λ j y at. le (suc j) y at) in
    omega arith

-- where p has no total and f is 0 wherever p is, f has none
pub none_left : {X : Type 0} (p f : X → ℕ) (xs : List X)
    → ((j : ℕ) (x : X) → get_elem? xs j ≡ some x → p x ≡ 0 → f x ≡ 0) → total p xs ≡ 0
    → total f xs ≡ 0
none_left p f [] idle e = refl
none_left p f (x ∷ xs) idle e =
    let here : f x ≡ 0 = idle 0 x refl (omega arith) in
    let rest : total f xs ≡ 0 = none_left p f xs (λ j y at. idle (suc j) y at) (omega arith) in
    omega arith

-- where one item has all of p and f is 0 wherever p is, that item has all of f
pub alone : {X : Type 0} (p f : X → ℕ) (xs : List X) (i : ℕ) (x : X)
    → ((j : ℕ) (y : X) → get_elem? xs j ≡ some y → p y ≡ 0 → f y ≡ 0)
    → get_elem? xs i ≡ some x → total p xs ≡ p x → total f xs ≡ f x
alone p f [] i x idle at e = absurd (some-ne-none x (sym at))
alone p f (z ∷ xs) zero x idle at e =
    let samep : p z ≡ p x = ap p (some-injective z x at) in
    let samef : f z ≡ f x = ap f (some-injective z x at) in
    let rest : total f xs ≡ 0 =
    none_left p f xs (λ j y there. idle (suc j) y there) (omega arith) in
    omega arith
alone p f (z ∷ xs) (suc i) x idle at e =
    let most = total_at p xs i x at in
    let here : f z ≡ 0 = idle 0 z refl (omega arith) in
    let rest : total f xs ≡ f x =
    alone p f xs i x (λ j y there. idle (suc j) y there) at (omega arith) in
    omega arith

-- a number stands as often in two lists in a row as in both
pub times_append : (x : ℕ) (xs ys : List ℕ) → times x (xs ++ ys) ≡ times x xs + times x ys
times_append x = total_append (one_if_same x)

-- a new last number stands there once more
pub times_push : (x : ℕ) (xs : List ℕ) (n : ℕ)
    → times x (xs ++ n ∷ []) ≡ times x xs + one_if_same x n
times_push x = total_push (one_if_same x)

-- where the numbers below n stand once each, and n is added, the numbers below n + 1 stand once each
pub once_below_more : (x n below : ℕ) → n ≡ below
    → once_below x below + one_if_same x n ≡ once_below x (n + 1)
once_below_more x n below e = grind (arith, nat_tests)

-- a number below n counts once
pub once_below_yes : (x n : ℕ) → x < n → once_below x n ≡ 1
once_below_yes x n h = grind (arith, nat_tests)

-- a number that counts at all is below n
pub once_below_low : (x n : ℕ) → 0 < once_below x n → x < n
once_below_low x n h = grind (arith, nat_tests)

-- no number counts more than once
pub once_below_most : (x n : ℕ) → once_below x n ≤ 1
once_below_most x n = grind (arith, nat_tests)
