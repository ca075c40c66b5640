-- Values that are near each other: a bit of one number is a bit of all numbers together (`both_below`, `all_below`).
use Rattle.std.proofs.Common.{◌≡◌, ℕ, ◌<◌, List, [], ◌∷◌, length, arith}
use Rattle.std.specs.Prelude.{bit_or}
use Rattle.std.proofs.lemmas.Nat.{le_or_l, le_or_r}
use lib.Lanes.{zip2, fold_l, Each1}

-- each number is below 32768
abbrev pub Below : List ℕ → Type 0
Below ns = Each1 (λ n. n < 32768) ns

-- where the bits of both together are below 32768, so is each
pub both_below : (us vs : List ℕ) → length us ≡ length vs → Below (zip2 bit_or us vs)
    → Below us × Below vs
both_below [] [] long below = (tt, tt)
both_below [] (v ∷ vs) long below = absurd (omega arith)
both_below (u ∷ us) [] long below = absurd (omega arith)
both_below (u ∷ us) (v ∷ vs) long below =
    let rest = both_below us vs (omega arith) below.1 in
    ((omega (arith, below.0, le_or_l u v), rest.0), (omega (arith, below.0, le_or_r u v), rest.1))

-- where the bits of all together are below 32768, so is each
pub all_below : (a : ℕ) (ns : List ℕ) → fold_l bit_or a ns < 32768 → (a < 32768) × Below ns
all_below a [] below = (below, tt)
all_below a (n ∷ ns) below =
    let rest = all_below (bit_or a n) ns below in
    (omega (arith, rest.0, le_or_l a n), (omega (arith, rest.0, le_or_r a n), rest.1))
