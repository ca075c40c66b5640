-- What holds from place 0 on, said of each place by its number.
use Rattle.std.proofs.Common.{◌≡◌, ℕ, ◌+◌, ◌<◌, List, [], ◌∷◌, zero, suc, length, slice_index_or, slice_set, refl, subst, arith}
use Rattle.worker_team.specs.Places.{AllFrom, BothFrom}

-- what holds at each place by its number
pub all_from : {X : Type 0} (P : ℕ → X → Type 0) (n : ℕ) (xs : List X)
    → ((i : ℕ) (x : X) → i < length xs → slice_index_or xs i x ≡ x → P (n + i) x) → AllFrom P n xs
all_from P n [] each = tt
all_from {X} P n (x ∷ xs) each =
    let first : n + 0 ≡ n = omega arith in (
      subst (λ (k : ℕ). P k x) first (each 0 x (omega arith) refl),
      all_from P (n + 1) xs (λ i y low at.
          let next : n + suc i ≡ n + 1 + i = omega arith in
          subst (λ (k : ℕ). P k y) next (each (suc i) y (omega arith) at)),
    )

-- what holds of both elements of each place
pub both_at : {X : Type 0} (R : ℕ → X → X → Type 0) (n : ℕ) (xs ys : List X) → BothFrom R n xs ys
    → (i : ℕ) (d : X) → i < length xs → R (n + i) (slice_index_or xs i d) (slice_index_or ys i d)
both_at R n [] ys both i d low = absurd (omega arith)
both_at R n (x ∷ xs) [] both i d low = absurd both
both_at R n (x ∷ xs) (y ∷ ys) both zero d low =
    let first : n ≡ n + 0 = omega arith in
    subst (λ (k : ℕ). R k x y) first both.0
both_at R n (x ∷ xs) (y ∷ ys) both (suc i) d low =
    let next : n + 1 + i ≡ n + suc i = omega arith in
    subst (λ (k : ℕ). R k (slice_index_or xs i d) (slice_index_or ys i d)) next
    (both_at R (n + 1) xs ys both.1 i d (omega arith))

-- the first place of a list that has no more
pub both_first : {X : Type 0} (R : ℕ → X → X → Type 0) (n : ℕ) (xs : List X) (d y : X) → length xs < 2
    → R n (slice_index_or xs 0 d) y → BothFrom R n xs (slice_set xs 0 y)
both_first R n [] d y short changes = refl
both_first R n (x ∷ []) d y short changes = (changes, refl)
both_first R n (x ∷ z ∷ zs) d y short changes = absurd (omega arith)
