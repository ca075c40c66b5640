-- Sums over the numbers below n: a total over a list is the sum of what each number below n gives as often as it
-- stands there (`total_by_number`).
use Rattle.std.proofs.Common.{◌≡◌, ◌⊎◌, ℕ, zero, suc, ◌+◌, ◌*◌, ◌<◌, ◌≤◌, List, [], ◌∷◌, All, refl, sym, ap, ◌∙◌, ⊎_elim, arith}
use Rattle.std.proofs.lemmas.Bool.Decides.{nat_tests}
use Rattle.list_totals.specs.Below.{sum_below}
use Rattle.list_totals.specs.Totals.{total, one_if_same, times}

-- where two give the same below n, their sums are the same
pub sum_below_same : (n : ℕ) (g h : ℕ → ℕ) → ((x : ℕ) → x < n → g x ≡ h x)
    → sum_below n g ≡ sum_below n h
sum_below_same zero g h same = refl
sum_below_same (suc n) g h same =
    let here : g n ≡ h n = same n (omega arith) in
    let rest = sum_below_same n g h (λ x low. same x (omega arith)) in
    omega arith

-- a sum of sums is the sum of both
pub sum_below_both : (n : ℕ) (g h : ℕ → ℕ) → sum_below n (λ x. g x + h x) ≡ sum_below n g + sum_below n h
sum_below_both zero g h = refl
sum_below_both (suc n) g h = let rest = sum_below_both n g h in omega arith

-- the sum of nothing is nothing
pub sum_below_none : (n : ℕ) → sum_below n (λ x. 0) ≡ 0
sum_below_none zero = refl
sum_below_none (suc n) = let rest = sum_below_none n in omega arith

-- what one number y gives, counted where x is y
abbrev at_one : ℕ → (ℕ → ℕ) → ℕ → ℕ
at_one y g x = one_if_same x y * g x

-- a number gives its own part where it is the one, and else nothing
one_or_none : (x y : ℕ) → ((x ≡ y) × (one_if_same x y ≡ 1)) ⊎ (((y < x) ⊎ (x < y)) × (one_if_same x y ≡ 0))
one_or_none x y = grind (arith, nat_tests)

-- what is counted not at all gives nothing
pub part_other : (c a : ℕ) → c ≡ 0 → c * a ≡ 0
part_other c a e = ap (λ k. k * a) e ∙ none_of a
  where
    none_of : (a : ℕ) → 0 * a ≡ 0
    none_of a = omega arith

-- and what is counted once gives its part
pub part_same : (c a : ℕ) → c ≡ 1 → c * a ≡ a
part_same c a e = ap (λ k. k * a) e ∙ omega arith

-- below y or at it, one number gives nothing
one_below : (n y : ℕ) (g : ℕ → ℕ) → n ≤ y → sum_below n (at_one y g) ≡ 0
one_below zero y g low = refl
one_below (suc n) y g low =
    let rest = one_below n y g (omega arith) in
    let here : at_one y g n ≡ 0 = part_other (one_if_same n y) (g n) (differ n y (omega arith)) in
    omega arith
  where
    differ : (x y : ℕ) → x < y → one_if_same x y ≡ 0
    differ x y less = grind (arith, nat_tests)

-- above it, one number gives its own part
one_within : (n y : ℕ) (g : ℕ → ℕ) → y < n → sum_below n (at_one y g) ≡ g y
one_within zero y g low = absurd (omega arith)
one_within (suc n) y g low = ⊎_elim
    (λ (same : (n ≡ y) × (one_if_same n y ≡ 1)).
    let is : n ≡ y = same.0 in
    let here : at_one y g n ≡ g n = part_same (one_if_same n y) (g n) same.1 in
    let rest = one_below n y g (omega arith) in
    let own : g n ≡ g y = ap g is in
    omega arith)
    (λ (other : ((y < n) ⊎ (n < y)) × (one_if_same n y ≡ 0)).
    let here : at_one y g n ≡ 0 = part_other (one_if_same n y) (g n) other.1 in
    ⊎_elim
    (λ (below : y < n). let rest = one_within n y g below in omega arith)
    (λ (more : n < y). absurd (omega arith))
    other.0)
    (one_or_none n y)

-- a sum of products with no count is nothing
sum_uncounted : (n : ℕ) (g : ℕ → ℕ) → sum_below n (λ x. 0 * g x) ≡ 0
sum_uncounted n g =
    sum_below_same n (λ x. 0 * g x) (λ x. 0) (λ x low. part_other 0 (g x) refl) ∙ sum_below_none n

-- a sum of products with two counts is that with their sum
sum_counts : (n : ℕ) (a b g : ℕ → ℕ)
    → sum_below n (λ x. (a x + b x) * g x) ≡ sum_below n (λ x. a x * g x) + sum_below n (λ x. b x * g x)
sum_counts n a b g =
    sum_below_same n (λ x. (a x + b x) * g x) (λ x. a x * g x + b x * g x) (λ x low. split (a x) (b x) (g x))
    ∙ sum_below_both n (λ x. a x * g x) (λ x. b x * g x)
  where
    split : (a b c : ℕ) → (a + b) * c ≡ a * c + b * c
    split a b c = omega arith

-- a total over numbers below n is the sum of what each gives as often as it stands in the list
pub total_by_number : (n : ℕ) (g : ℕ → ℕ) (ys : List ℕ) → All (λ y. y < n) ys
    → total g ys ≡ sum_below n (λ x. times x ys * g x)
total_by_number n g [] low = sym (sum_uncounted n g)
total_by_number n g (y ∷ ys) low =
    let here : y < n = low 0 y (omega arith) in
    let one = one_within n y g here in
    let rest = total_by_number n g ys (λ k d in_list. low (suc k) d (omega arith)) in
    let both = sum_counts n (λ x. one_if_same x y) (λ x. times x ys) g in
    omega arith

module _ {X : Type 0} (n : ℕ) (g : ℕ → ℕ) (ys : X → List ℕ) where
  -- and so is a total over many such lists
  pub totals_by_number : (vs : List X) → All (λ v. All (λ y. y < n) (ys v)) vs
      → total (λ v. total g (ys v)) vs ≡ sum_below n (λ x. total (λ v. times x (ys v)) vs * g x)
  totals_by_number [] low = sym (sum_uncounted n g)
  totals_by_number (v ∷ vs) low =
      let here = total_by_number n g (ys v) (low 0 v (omega arith)) in
      let rest = totals_by_number vs (λ k d in_list. low (suc k) d (omega arith)) in
      let both = sum_counts n (λ x. times x (ys v)) (λ x. total (λ w. times x (ys w)) vs) g in
      omega arith
