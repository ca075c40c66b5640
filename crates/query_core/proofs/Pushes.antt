-- Lists with one item more: what stands at a place of one (`at_push`), and what holds at each place of two (`push_both`).
use Rattle.std.proofs.Common.{◌≡◌, ℕ, zero, suc, ◌<◌, ◌⊎◌, List, [], ◌∷◌, ◌++◌, Some, length, refl, ap, subst, sym, inl, inr, ⊎_elim, arith}
use Rattle.std.specs.Prelude.{slice_get}
use Rattle.std.proofs.lemmas.Option.{none-some, same_Some, slice_get_within}

-- what stands at a place of a list with one more
pub at_push : {X : Type 0} (xs : List X) (x y : X) (j : ℕ) → slice_get (xs ++ x ∷ []) j ≡ Some y
    → (slice_get xs j ≡ Some y) ⊎ ((j ≡ length xs) × (x ≡ y))
at_push [] x y zero e = inr (refl, same_Some x y e)
at_push [] x y (suc j) e = absurd (none-some y e)
at_push (z ∷ xs) x y zero e = inl e
at_push (z ∷ xs) x y (suc j) e = ⊎_elim
    (λ (old : slice_get xs j ≡ Some y). inl old)
    (λ (new : (j ≡ length xs) × (x ≡ y)). inr (ap suc new.0, new.1))
    (at_push xs x y j e)

-- what holds at each place of two lists, and of one item more of each, holds at each place of the longer lists
pub push_both : {X Y : Type 0} (R : ℕ → X → Y → Type 0) (xs : List X) (ys : List Y) (x : X) (y : Y) → length xs ≡ length ys
    → ((i : ℕ) (a : X) (b : Y) → slice_get xs i ≡ Some a → slice_get ys i ≡ Some b → R i a b) → R (length xs) x y
    → (i : ℕ) (a : X) (b : Y) → slice_get (xs ++ x ∷ []) i ≡ Some a → slice_get (ys ++ y ∷ []) i ≡ Some b → R i a b
push_both {X} {Y} R xs ys x y same old more i a b at_a at_b = ⊎_elim
    (λ (was_a : slice_get xs i ≡ Some a). ⊎_elim
    (λ (was_b : slice_get ys i ≡ Some b). old i a b was_a was_b)
    (λ (new : (i ≡ length ys) × (y ≡ b)).
    let low = slice_get_within xs i a was_a in let e = new.0 in absurd (omega arith))
    (at_push ys y b i at_b))
    (λ (new : (i ≡ length xs) × (x ≡ a)). ⊎_elim
    (λ (was_b : slice_get ys i ≡ Some b).
    let low = slice_get_within ys i b was_b in let e = new.0 in absurd (omega arith))
    (λ (last : (i ≡ length ys) × (y ≡ b)).
    subst (λ (j : ℕ). R j a b) (sym new.0)
    (subst (λ (z : Y). R (length xs) a z) last.1 (subst (λ (z : X). R (length xs) z y) new.1 more)))
    (at_push ys y b i at_b))
    (at_push xs x a i at_a)
