-- The codes of a block of a row: there are 256 of them, each below 16, and the words hold them (`held_codes`); the first are those of its
-- values (`front_codes`).
use Rattle.std.proofs.Common.{◌≡◌, ℕ, ◌+◌, ◌-◌, ◌*◌, ◌<◌, ◌≤◌, arith, ap, ◌∙◌, ◌⊎◌, inl, inr, ℤ, List, [], ◌∷◌, ◌++◌, length, take, map, replicate}
use Rattle.std.specs.Prelude.{min}
use Rattle.std.specs.List.{All}
use Rattle.std.proofs.lemmas.Bool.{cases_lt}
use Rattle.std.proofs.lemmas.List.{length-append, length-map, length-replicate, append-nil, take_all, take_at}
use Rattle.std.proofs.lemmas.List.Elements.{All-nil, All-cons, All-append, All-replicate}
use Rattle.std.proofs.Math.Nat.{div-lt_iff_lt-mul}
use Rattle.row_codes.specs.Codes.{code_of, codes_of, greatest, least, packed, raised, step_of}
use Rattle.row_codes.specs.Rows.{block_codes, value_codes}
use Rattle.row_codes.proofs.Packed.{codes_packed}

-- values below 16 steps have one of the 16 codes
codes_small : (low s : ℕ) (xs : List ℤ) → 0 < s → greatest xs < low + 16 * s → All (λ c. c < 16) (map (code_of low s) xs)
codes_small low s [] some near = All-nil (λ c. c < 16)
codes_small low s (x ∷ xs) some near =
    All-cons (λ c. c < 16) (code_of low s x) (map (code_of low s) xs)
    ((div-lt_iff_lt-mul {k = s} {x = raised x - low} {y = 16} some).1 (omega (arith, near)))
    (codes_small low s xs some (omega (arith, near)))

-- 16 steps of a block reach beyond its greatest value
pub step_reaches : (xs : List ℤ) → greatest xs < least xs + 16 * step_of xs
step_reaches xs = omega arith

-- a block has 256 codes
pub length-block_codes : (xs : List ℤ) → length xs ≤ 256 → length (block_codes xs) ≡ 256
length-block_codes xs few =
    omega (
      arith,
      length-append (value_codes xs) (replicate (256 - length xs) 0),
      length-map xs (code_of (least xs) (step_of xs)),
      length-replicate {A = ℕ} (256 - length xs) 0,
      few,
    )

-- and its words hold them
pub held_codes : (xs : List ℤ) → length xs ≤ 256 → codes_of (packed (block_codes xs)) ≡ block_codes xs
held_codes xs few =
    codes_packed (block_codes xs) (length-block_codes xs few)
    (All-append (λ c. c < 16) (value_codes xs) (replicate (256 - length xs) 0) (codes_small (least xs) (step_of xs) xs (omega arith) (step_reaches xs))
    (All-replicate (λ c. c < 16) (256 - length xs) 0 (omega arith)))

-- the first of them are those of the values
pub front_codes : (xs : List ℤ) (n : ℕ) → length xs ≤ 256 → length xs ≡ min 256 n → take n (block_codes xs) ≡ value_codes xs
front_codes xs n few long = by_cases (cases_lt n 256)
  where
    by_cases : (n < 256) ⊎ (256 ≤ n) → take n (block_codes xs) ≡ value_codes xs
    by_cases (inl less) =
        take_at (value_codes xs) (replicate (256 - length xs) 0) n
        (omega (arith, length-map xs (code_of (least xs) (step_of xs)), long, less))
    by_cases (inr most) =
        let none : 256 - length xs ≡ 0 = omega (arith, long, most) in
        take_all n (block_codes xs) (omega (arith, length-block_codes xs few, most))
        ∙ ap (λ k. value_codes xs ++ replicate k 0) none ∙ append-nil (value_codes xs)
