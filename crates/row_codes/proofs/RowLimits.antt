-- A limit as a length: a bound is at most the limit exactly where the square lies below that of what is allowed (`allowed`).
use Rattle.std.proofs.Common.{◌≡◌, ℕ, ◌+◌, ◌-◌, ◌*◌, ◌<◌, ◌≤◌, arith, sym, ◌∙◌, ◌⊎◌, inl, inr, leb, ltb}
use Rattle.std.specs.Prelude.{min}
use Rattle.std.proofs.lemmas.Bool.{cases_lt, lt-ltb, le-ltb, le-leb, lt-leb}
use Rattle.std.proofs.lemmas.Nat.{mul-le}
use Rattle.row_codes.specs.Roots.{root, square}
use Rattle.row_codes.specs.Bound.{bound_at}
use Rattle.row_codes.proofs.RootLemmas.{root_high, root_less, root_low}

-- below what is allowed the bound is at most the limit
pub within_allowed : (squared rest limit : ℕ) → 4 * squared < square (root (4 * min limit 2251799813685248 + 3) + rest + 1)
    → bound_at squared rest ≤ limit
within_allowed squared rest limit less =
    let most = 4 * min limit 2251799813685248 + 3 in
    let r = root_less (root (4 * squared)) (root most + rest + 1) (omega (arith, root_low (4 * squared), less)) in
    let near : root (4 * squared) - rest ≤ root most = omega (arith, r) in
    let square_near = mul-le (root (4 * squared) - rest) (root (4 * squared) - rest) (root most) (root most) near near in
    omega (arith, square_near, root_low most)

-- and else it is above the limit
pub above_allowed : (squared rest limit : ℕ) → 4 * squared < 9007199254740992
    → square (root (4 * min limit 2251799813685248 + 3) + rest + 1) ≤ 4 * squared → limit < bound_at squared rest
above_allowed squared rest limit small far =
    let most = 4 * min limit 2251799813685248 + 3 in
    let r = root_less (root most + rest + 1) (root (4 * squared) + 1) (omega (arith, root_high (4 * squared), far)) in
    let above : root most + 1 ≤ root (4 * squared) - rest = omega (arith, r) in
    let square_above = mul-le (root most + 1) (root most + 1) (root (4 * squared) - rest) (root (4 * squared) - rest) above above in
    let low = mul-le (root most + 1) (root most + 1) (root most + rest + 1) (root most + rest + 1) (omega arith) (omega arith) in
    omega (arith, square_above, root_high most, low, far, small)

-- the length of a limit takes 27 bits
pub length_small : (limit : ℕ) → root (4 * min limit 2251799813685248 + 3) < 134217728
length_small limit = root_less (root (4 * min limit 2251799813685248 + 3)) 134217728 (omega (arith, root_low (4 * min limit 2251799813685248 + 3)))

-- so one test says what the other does
pub allowed : (squared rest limit : ℕ) → 4 * squared < 9007199254740992
    → ltb (4 * squared) (square (root (4 * min limit 2251799813685248 + 3) + rest + 1)) ≡ leb (bound_at squared rest) limit
allowed squared rest limit small = by_cases (cases_lt (4 * squared) (square (root (4 * min limit 2251799813685248 + 3) + rest + 1)))
  where
    by_cases : (4 * squared < square (root (4 * min limit 2251799813685248 + 3) + rest + 1))
        ⊎ (square (root (4 * min limit 2251799813685248 + 3) + rest + 1) ≤ 4 * squared)
        → ltb (4 * squared) (square (root (4 * min limit 2251799813685248 + 3) + rest + 1)) ≡ leb (bound_at squared rest) limit
    by_cases (inl less) = lt-ltb _ _ less ∙ sym (le-leb _ _ (within_allowed squared rest limit less))
    by_cases (inr most) = le-ltb _ _ most ∙ sym (lt-leb _ _ (above_allowed squared rest limit small most))
