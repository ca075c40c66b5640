-- The order of pairs is total: what follows from one test, from two, and where neither of two pairs is smaller.
use Rattle.std.proofs.Common.{◌≡◌, ℕ, ◌≤◌, true, false, ap, ◌∙◌, arith}
use Rattle.std.proofs.lemmas.Bool.Decides.{nat_tests}
use Rattle.series_core.specs.Pairs.{is_before}
use Rattle.series_core.specs.declared.pair.Pair.{Pair}

-- no pair is smaller than itself
pub before_self : (p : Pair) → is_before p p ≡ false
before_self p = grind (arith, nat_tests)

-- of two pairs at most one is the smaller
pub not_after : (p q : Pair) → is_before p q ≡ true → is_before q p ≡ false
not_after p q h = grind (arith, nat_tests)

-- a pair smaller than itself is absurd
pub not_self : (p : Pair) → is_before p p ≡ true → ⊥
not_self p h = grind (arith, nat_tests)

-- two pairs that are each smaller than the other are absurd
pub not_both : (p q : Pair) → is_before p q ≡ true → is_before q p ≡ true → ⊥
not_both p q h i = grind (arith, nat_tests)

-- what is smaller than a smaller pair is smaller
pub before_trans : (p q r : Pair) → is_before p q ≡ true → is_before q r ≡ true → is_before p r ≡ true
before_trans p q r h i = grind (arith, nat_tests)

-- what is not smaller than a pair is not smaller than one before it
pub not_before_trans : (p q r : Pair)
    → is_before q p ≡ false → is_before r q ≡ false → is_before r p ≡ false
not_before_trans p q r h i = grind (arith, nat_tests)

-- a smaller pair is no farther
pub before_distance : (p q : Pair) → is_before p q ≡ true → p.distance ≤ q.distance
before_distance p q h = grind (arith, nat_tests)

-- where neither is smaller the parts are the same
same_parts : (p q : Pair) → is_before p q ≡ false → is_before q p ≡ false
    → (p.distance ≡ q.distance) × (p.number ≡ q.number)
same_parts p q h i = (grind (arith, nat_tests), grind (arith, nat_tests))

-- where neither is smaller the two are one
pub same_pair : (p q : Pair) → is_before p q ≡ false → is_before q p ≡ false → p ≡ q
same_pair p q h i =
    let parts = same_parts p q h i in
    let pair : ℕ → ℕ → Pair = λ d n. record { distance = d; number = n } in
    ap (λ (d : ℕ). pair d p.number) parts.0 ∙ ap (λ (n : ℕ). pair q.distance n) parts.1
