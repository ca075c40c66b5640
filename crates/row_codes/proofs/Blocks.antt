-- Blocks of a row one by one: those that are left (`blocks_more`), what is cut out of the row (`cut_out`), and how many there are.
use Rattle.std.proofs.Common.{◌≡◌, ℕ, suc, ◌+◌, ◌-◌, ◌*◌, ◌<◌, ◌≤◌, arith, sym, ap, ◌∙◌, ◌⊎◌, inl, inr, List, [], ◌∷◌, ◌++◌, length, take, drop, replicate, set}
use Rattle.std.specs.Prelude.{ℤ, min}
use Rattle.std.proofs.lemmas.Bool.{cases_lt}
use Rattle.std.proofs.lemmas.List.{take_all, take_more_set, length-drop, length-map, drop-drop, append_assoc, take_at}
use Rattle.std.proofs.lemmas.List.FromFn.{length-map-range_with_len}
use Rattle.row_codes.specs.Codes.{code_of, least, packed, step_of, word_of}
use Rattle.row_codes.specs.Rows.{Block, block_codes, block_of, blocks_of, forgotten, row_codes, value_codes}

-- what is cut out of a row for a block
pub cut_out : {X : Type 0} (row : List X) (from to : ℕ) → to ≡ min (length row) (from + 256)
    → take (to - from) (drop from row) ≡ take 256 (drop from row)
cut_out row from to is = by_cases (cases_lt (length row) (from + 256))
  where
    by_cases : (length row < from + 256) ⊎ (from + 256 ≤ length row) → take (to - from) (drop from row) ≡ take 256 (drop from row)
    by_cases (inl less) =
        take_all (to - from) (drop from row) (omega (arith, length-drop from row, is, less))
        ∙ sym (take_all 256 (drop from row) (omega (arith, length-drop from row, less)))
    by_cases (inr most) =
        let all : to - from ≡ 256 = omega (arith, is, most) in
        ap (λ k. take k (drop from row)) all

-- one block more is found
pub blocks_more : (row : List ℤ) (codes : List Block) (k count before after : ℕ) (b : Block) → k < length codes → k < count
    → take k codes ++ blocks_of (count - k) before (drop (256 * k) row) ≡ row_codes row
    → b ≡ block_of before (take 256 (drop (256 * k) row)) → after ≡ before + forgotten (take 256 (drop (256 * k) row))
    → take (k + 1) (set codes k b) ++ blocks_of (count - (k + 1)) after (drop (256 * (k + 1)) row) ≡ row_codes row
blocks_more row codes k count before after b inside left whole is_b is_after =
    let xs = drop (256 * k) row in
    let next : count - k ≡ suc (count - (k + 1)) = omega (arith, left) in
    let place : 256 * k + 256 ≡ 256 * (k + 1) = omega arith in
    let behind : drop 256 xs ≡ drop (256 * (k + 1)) row = drop-drop 256 (256 * k) row ∙ ap (λ n. drop n row) place in
    let rest : blocks_of (count - (k + 1)) after (drop (256 * (k + 1)) row)
    ≡ blocks_of (count - (k + 1)) (before + forgotten (take 256 xs)) (drop 256 xs)
    = ap (λ n. blocks_of (count - (k + 1)) n (drop (256 * (k + 1)) row)) is_after
    ∙ ap (blocks_of (count - (k + 1)) (before + forgotten (take 256 xs))) (sym behind) in
    let rests = blocks_of (count - (k + 1)) (before + forgotten (take 256 xs)) (drop 256 xs) in
    ap (λ l. l ++ blocks_of (count - (k + 1)) after (drop (256 * (k + 1)) row)) (take_more_set codes k b inside)
    ∙ ap (λ l. (take k codes ++ b ∷ []) ++ l) rest
    ∙ append_assoc (take k codes) (b ∷ []) rests
    ∙ ap (λ y. take k codes ++ (y ∷ rests)) is_b
    ∙ ap (λ n. take k codes ++ blocks_of n before xs) (sym next)
    ∙ whole

-- the first of them are those of its values
pub own_are : (xs : List ℤ) (codes : List ℕ) → codes ≡ block_codes xs → take (length xs) codes ≡ value_codes xs
own_are xs codes is =
    ap (take (length xs)) is
    ∙ take_at (value_codes xs) (replicate (256 - length xs) 0) (length xs) (length-map xs (code_of (least xs) (step_of xs)))

-- there are 64 words
pub length-packed : (cs : List ℕ) → length (packed cs) ≡ 64
length-packed cs = length-map-range_with_len (word_of cs) 0 64
