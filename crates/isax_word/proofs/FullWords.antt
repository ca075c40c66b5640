-- Full words as they are found: one symbol more is one segment more (`full_word_next`), and the symbols of all segments
-- make the full word (`full_word_found`). A sum that is read as a number of 32 bits is that of its segment, within its bounds
-- (`sum_read`, `sum_bounds`).
use Rattle.std.proofs.Common.{◌≡◌, ℕ, ◌+◌, ◌-◌, ◌*◌, ◌<◌, ℤ, pos, neg_ℤ, ◌≤ℤ◌, arith, ap, sym, ◌∙◌, subst, List, [], ◌∷◌, ◌++◌, get_or, length, map, replicate, set, take, to_z, of_z}
use Rattle.std.specs.Prelude.{FitsSigned}
use Rattle.std.specs.Int.{w32}
use Rattle.std.specs.List.{range_with_len}
use Rattle.std.proofs.lemmas.Int.{ints, to_z-of_z}
use Rattle.std.proofs.lemmas.List.FromFn.{map-range_with_len_more}
use Rattle.segment_sums.specs.Division.{Division, IsDivision, cut_place}
use Rattle.segment_sums.specs.Sum.{segment_sum, segment_sums, NoSumBelow, NoSumAbove}
use Rattle.segment_sums.proofs.Sums.{segment_sums_at}
use Rattle.isax_word.specs.declared.layout.Layout.{Layout}
use Rattle.isax_word.specs.FullWord.{IsFullWord, full_word, segment_symbol}
use Rattle.isax_word.specs.Padded.{IsKept, padded}
use Rattle.isax_word.proofs.PaddedLists.{padded_next}
use Rattle.isax_word.proofs.Symbols.{IsFullWord-full_word}

-- a sum that is read as a number of 32 bits is that of its segment
pub sum_read : (d : Division) (row sums : List ℤ) (n j : ℕ) → sums ≡ segment_sums d row ++ replicate n (pos 0)
    → j < d.segments → FitsSigned w32 (get_or sums j (pos 0))
    → to_z w32 (of_z w32 (get_or sums j (pos 0))) ≡ segment_sum d row j
sum_read d row sums n j are used fits =
    to_z-of_z w32 (get_or sums j (pos 0)) fits ∙ segment_sums_at d row sums n j are used

-- it lies between the least and the greatest sum of as many values as the segment holds
pub sum_bounds : (d : Division) (row sums : List ℤ) (n j from to : ℕ)
    → sums ≡ segment_sums d row ++ replicate n (pos 0)
    → NoSumBelow d row d.segments → NoSumAbove d row d.segments
    → j < d.segments → FitsSigned w32 (get_or sums j (pos 0)) → from ≡ cut_place d j → to ≡ cut_place d (j + 1)
    → (neg_ℤ (pos (32768 * (to - from))) ≤ℤ to_z w32 (of_z w32 (get_or sums j (pos 0))))
    × (to_z w32 (of_z w32 (get_or sums j (pos 0))) ≤ℤ pos (32767 * (to - from)))
sum_bounds d row sums n j from to are low high used fits is_from is_to =
    let sum = sum_read d row sums n j are used fits in
    let not_low = low j used in
    let not_high = high j used in (
      omega (arith, ints, sum, not_low, is_from, is_to),
      omega (arith, ints, sum, not_high, is_from, is_to),
    )

-- the symbol of the next segment is one more
pub full_word_next : (layout : Layout) (row : List ℤ) (symbols : List ℕ) (j y : ℕ) → j < 16
    → y ≡ segment_symbol layout row j → IsKept 0 symbols j
    → take j symbols ≡ map (segment_symbol layout row) (range_with_len 0 j)
    → IsKept 0 (set symbols j y) (j + 1)
    × (take (j + 1) (set symbols j y) ≡ map (segment_symbol layout row) (range_with_len 0 (j + 1)))
full_word_next layout row symbols j y inside value kept are =
    let next = padded_next 0 symbols j y inside kept in (
      next.0,
      next.1 ∙ ap (λ l. l ++ y ∷ []) are
          ∙ ap (λ s. map (segment_symbol layout row) (range_with_len 0 j) ++ s ∷ []) value
          ∙ sym (map-range_with_len_more (segment_symbol layout row) 0 j j (omega arith)),
    )

-- the symbols of all segments are the full word, in as many places
pub full_word_found : (layout : Layout) (row : List ℤ) (symbols : List ℕ) (j count : ℕ) → IsDivision layout.cuts
    → count ≡ layout.cuts.segments → j ≡ count → IsKept 0 symbols j
    → take j symbols ≡ map (segment_symbol layout row) (range_with_len 0 j)
    → IsFullWord (take count symbols) × (length (take count symbols) ≡ count)
    × (symbols ≡ padded 0 (take count symbols))
full_word_found layout row symbols j count is all end kept are =
    let here : IsKept 0 symbols count = subst (IsKept 0 symbols) end kept in
    let whole : take count symbols ≡ full_word layout row
    = subst (λ k. take k symbols ≡ map (segment_symbol layout row) (range_with_len 0 k)) end are
    ∙ ap (λ k. map (segment_symbol layout row) (range_with_len 0 k)) all in
    (subst IsFullWord (sym whole) (IsFullWord-full_word layout row is), here.long, here.kept)
