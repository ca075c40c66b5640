-- The laws of bounds: a word's bound is at most the distance of each series whose full word it
-- contains (`bound_below_distance`), and a child's bound is at least its parent's (`child_bound`).
use Rattle.std.proofs.Common.{◌≡◌, ℕ, zero, suc, ◌+◌, ◌-◌, ◌*◌, ◌/◌, ◌^◌, ◌<◌, ◌≤◌, Bool, true, arith, refl, sym, ap, subst, ◌∙◌, ℤ, ◌-ℤ◌, List, [], ◌∷◌, ◌++◌, length, drop, map}
use Rattle.std.specs.Prelude.{unsigned_abs}
use Rattle.std.specs.List.{All, range_with_len}
use Rattle.std.proofs.Math.Nat.{div-one}
use Rattle.std.proofs.lemmas.Bool.{and_parts, and_from, eq-eqb}
use Rattle.std.proofs.lemmas.Nat.{mul-le}
use Rattle.std.proofs.lemmas.List.{take-append-drop, drop-drop, length-map}
use Rattle.std.proofs.lemmas.List.FromFn.{length-map-range_with_len}
use Rattle.std.proofs.lemmas.List.Elements.{All-head, All-tail}
use Rattle.segment_sums.specs.Division.{Division, IsDivision, cut_place, segment_length}
use Rattle.segment_sums.specs.Sum.{signed_sum, segment_values, segment_sum}
use Rattle.segment_sums.proofs.Places.{cut_place_first, cut_place_rises}
use Rattle.segment_sums.proofs.Sums.{length-segment_values}
use Rattle.breakpoints.specs.declared.table.Table.{Table}
use Rattle.isax_word.specs.declared.layout.Layout.{Layout}
use Rattle.isax_word.specs.declared.word.Part.{Part}
use Rattle.isax_word.specs.Symbol.{symbol_of}
use Rattle.isax_word.specs.FullWord.{full_word, segment_symbol}
use Rattle.isax_word.specs.Word.{IsPart, part_at, part_contains, word_contains, child_part, child_word, first_symbol, end_symbol}
use Rattle.isax_word.proofs.Roots.{pow_doubles}
use Rattle.isax_word.proofs.Symbols.{IsFullWord-full_word}
use Rattle.isax_word.proofs.Words.{symbols_of_part, added_bit, added_bit-le, IsPart-child_part, part_symbols}
use Rattle.series_core.specs.Distance.{squared_distance}
use Rattle.lower_bound.specs.Gap.{gap, part_cost}
use Rattle.lower_bound.specs.Bound.{View, IsView, view_of, sum_at, length_at, parts_bound, word_bound, eight_bit_word}
use Rattle.lower_bound.proofs.Gaps.{gap_within, gap_rises, cost-le, cost_rises}
use Rattle.lower_bound.proofs.Distances.{difference_of_sums, squared_distance-append}
use Rattle.lower_bound.proofs.Views.{sum_at-view_of, length_at-pos, eight_bit_word_parts}

-- the cost of a part for one segment is at most the distance to another whose symbol it contains
pub part_below_distance : (t : Table) (l : ℕ) (p : Part) (xs qs : List ℤ) → IsPart p → 1 ≤ l
    → length xs ≡ l → length qs ≡ l → part_contains p (symbol_of t l (signed_sum xs)) ≡ true
    → part_cost t l (signed_sum qs) p ≤ squared_distance xs qs
part_below_distance t l p xs qs is some long_x long_q contained =
    let symbols = symbols_of_part p (symbol_of t l (signed_sum xs)) contained in
    let near : gap t l (signed_sum qs) (first_symbol p) (end_symbol p)
    ≤ unsigned_abs (signed_sum xs -ℤ signed_sum qs)
    = gap_within t l (signed_sum qs) (signed_sum xs) (first_symbol p) (end_symbol p) symbols.0 symbols.1
    (part_symbols p is).1 in
    let square = difference_of_sums _ xs qs (long_x ∙ sym long_q) near in
    cost-le l _ (squared_distance xs qs) some
    (subst
    (λ n. gap t l (signed_sum qs) (first_symbol p) (end_symbol p) * gap t l (signed_sum qs)
    (first_symbol p) (end_symbol p)
    ≤ n * squared_distance xs qs) long_x square)

-- what is left of two rows is a segment of each and what is left behind it
pub rest_splits : (d : Division) (x q : List ℤ) (j : ℕ) → IsDivision d → length x ≡ d.row_length
    → length q ≡ d.row_length
    → j < d.segments
    → squared_distance (drop (cut_place d j) x) (drop (cut_place d j) q)
    ≡ squared_distance (segment_values d x j) (segment_values d q j)
    + squared_distance (drop (cut_place d (j + 1)) x) (drop (cut_place d (j + 1)) q)
rest_splits d x q j is whole_x whole_q used =
    let same : length (segment_values d x j) ≡ length (segment_values d q j)
    = length-segment_values d x j is whole_x used
    ∙ sym (length-segment_values d q j is whole_q used) in
    ap (λ xs. squared_distance xs (drop (cut_place d j) q)) (split x)
    ∙ ap (λ qs. squared_distance (segment_values d x j ++ drop (cut_place d (j + 1)) x) qs)
    (split q)
    ∙ squared_distance-append (segment_values d x j) (segment_values d q j) _ _ same
  where
    -- the segment ends where the next begins
    end : cut_place d j + segment_length d j ≡ cut_place d (j + 1)
    end = omega (arith, cut_place_rises d j is)

    -- what is left of a row is its segment and what is left behind
    split : (row : List ℤ)
        → drop (cut_place d j) row ≡ segment_values d row j ++ drop (cut_place d (j + 1)) row
    split row =
        sym (take-append-drop (segment_length d j) (drop (cut_place d j) row))
        ∙ ap (λ rest. segment_values d row j ++ rest)
        (drop-drop (segment_length d j) (cut_place d j) row ∙ ap (λ k. drop k row) end)

-- the costs of the parts from a segment on are at most the distance of what is left of the rows
-- from there
parts_below_distance : (layout : Layout) (x q : List ℤ) (j : ℕ) (parts : List Part)
    → IsDivision layout.cuts
    → length x ≡ layout.cuts.row_length → length q ≡ layout.cuts.row_length → All IsPart parts
    → j + length parts ≡ layout.cuts.segments
    → word_contains parts (map (segment_symbol layout x) (range_with_len j (length parts))) ≡ true
    → parts_bound (view_of layout q) j parts
    ≤ squared_distance (drop (cut_place layout.cuts j) x) (drop (cut_place layout.cuts j) q)
parts_below_distance layout x q j [] is whole_x whole_q all end contained = omega arith
parts_below_distance layout x q j (p ∷ parts) is whole_x whole_q all end contained =
    let d = layout.cuts in
    let used : j < d.segments = omega (arith, end) in
    let behind_is = map (segment_symbol layout x) (range_with_len (j + 1) (length parts)) in
    let both : (part_contains p (segment_symbol layout x j) ≡ true)
    × (word_contains parts behind_is ≡ true)
    = and_parts (part_contains p (segment_symbol layout x j)) (word_contains parts behind_is) contained in
    let some : 1 ≤ segment_length d j = omega (arith, cut_place_rises d j is) in
    let behind =
    parts_below_distance layout x q (j + 1) parts is whole_x whole_q
    (All-tail IsPart p parts all)
    (omega (arith, end)) both.1 in
    let here : part_cost layout.table (segment_length d j) (segment_sum d q j) p
    ≤ squared_distance (segment_values d x j) (segment_values d q j)
    = part_below_distance layout.table (segment_length d j) p (segment_values d x j) (segment_values d q j)
    (All-head IsPart p parts all) some (length-segment_values d x j is whole_x used)
    (length-segment_values d q j is whole_q used) both.0 in
    let sum =
    ap (λ s. part_cost layout.table (segment_length d j) s p)
    (sum_at-view_of layout q j used) in
    omega (arith, here, behind, sum, rest_splits d x q j is whole_x whole_q used)

-- a word's bound is at most the distance of the query to every series whose full word it contains
pub bound_below_distance : (layout : Layout) (x q : List ℤ) (word : List Part)
    → IsDivision layout.cuts
    → length x ≡ layout.cuts.row_length → length q ≡ layout.cuts.row_length → All IsPart word
    → length word ≡ layout.cuts.segments → word_contains word (full_word layout x) ≡ true
    → word_bound (view_of layout q) word ≤ squared_distance x q
bound_below_distance layout x q word is whole_x whole_q all whole contained =
    let segments : word_contains word
    (map (segment_symbol layout x) (range_with_len 0 (length word))) ≡ true
    = ap (λ k. word_contains word (map (segment_symbol layout x) (range_with_len 0 k))) whole
    ∙ contained in
    subst (λ k. word_bound (view_of layout q) word ≤ squared_distance (drop k x) (drop k q))
    (cut_place_first layout.cuts)
    (parts_below_distance layout x q 0 word is whole_x whole_q all (omega (arith, whole)) segments)

-- the word of all eight bits of some symbols contains them
eight_bits_contain : (symbols : List ℕ) → word_contains (eight_bit_word symbols) symbols ≡ true
eight_bits_contain [] = refl
eight_bits_contain (s ∷ symbols) =
    and_from _ _ (eq-eqb (s / 1) s (div-one s)) (eight_bits_contain symbols)

-- the bound of a series' full word is at most its distance
pub full_bound_below_distance : (layout : Layout) (x q : List ℤ) → IsDivision layout.cuts
    → length x ≡ layout.cuts.row_length → length q ≡ layout.cuts.row_length
    → word_bound (view_of layout q) (eight_bit_word (full_word layout x)) ≤ squared_distance x q
full_bound_below_distance layout x q is whole_x whole_q =
    let full = full_word layout x in
    let segments : length (eight_bit_word full) ≡ layout.cuts.segments
    = length-map full _
    ∙ length-map-range_with_len (segment_symbol layout x) 0 layout.cuts.segments in
    bound_below_distance layout x q (eight_bit_word full) is whole_x whole_q
    (eight_bit_word_parts full (IsFullWord-full_word layout x is).eight_bits) segments
    (eight_bits_contain full)

-- the cost of a child of a part is at least that of the part
child_part_cost : (t : Table) (l : ℕ) (s : ℤ) (p : Part) (high : Bool) → 1 ≤ l → IsPart p
    → p.bits < 8
    → part_cost t l s p ≤ part_cost t l s (child_part p high)
child_part_cost t l s p high some is divisible =
    let place = 2 ^ (8 - (p.bits + 1)) in
    let one_more : 8 - p.bits ≡ suc (8 - (p.bits + 1)) = omega arith in
    let twice : 2 ^ (8 - p.bits) ≡ 2 * place = ap (λ k. 2 ^ k) one_more
    ∙ pow_doubles (8 - (p.bits + 1)) in
    let bit : added_bit high * place ≤ 1 * place
    = mul-le (added_bit high) place 1 place (added_bit-le high) (omega arith) in
    let first : first_symbol p ≡ p.prefix * (2 * place) = ap (λ n. p.prefix * n) twice in
    let end : end_symbol p ≡ (p.prefix + 1) * (2 * place) = ap (λ n. (p.prefix + 1) * n) twice in
    let child = child_part p high in
    let low : first_symbol p ≤ first_symbol child = omega (arith, first) in
    let up_to : end_symbol child ≤ end_symbol p = omega (arith, end, bit) in
    cost_rises l _ _ some
    (gap_rises t l s (first_symbol p) (end_symbol p) (first_symbol child) (end_symbol child) low
    (part_symbols child (IsPart-child_part p high is divisible)).0 up_to (part_symbols p is).1)

-- the costs of parts do not fall where one of them is replaced by a child
pub child_bound : (view : View) (j : ℕ) (word : List Part) (k : ℕ) (high : Bool) → IsView view
    → All IsPart word
    → k < length word → (part_at word k).bits < 8
    → parts_bound view j word ≤ parts_bound view j (child_word word k high)
child_bound view j [] k high is all used divisible = absurd (omega arith)
child_bound view j (p ∷ word) zero high is all used divisible =
    omega (
      arith,
      child_part_cost view.layout.table (length_at view j) (sum_at view j) p high
          (length_at-pos view j is)
          (All-head IsPart p word all) divisible,
    )
child_bound view j (p ∷ word) (suc k) high is all used divisible =
    omega (
      arith,
      child_bound view (j + 1) word k high is (All-tail IsPart p word all)
          (omega arith) divisible,
    )
