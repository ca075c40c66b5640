-- Views of queries: their sums are those of the query's segments (`IsView-view_of`), and the bound
-- of a word of all their segments is below 2^49 (`word_bound-lt`).
use Rattle.std.proofs.Common.{◌≡◌, ℕ, ◌+◌, ◌*◌, ◌^◌, ◌<◌, ◌≤◌, arith, sym, ap, subst, ◌∙◌, ℤ, pos, neg_ℤ, ◌≤ℤ◌, List, [], ◌∷◌, length, get_or, drop, replicate}
use Rattle.std.specs.List.{All}
use Rattle.std.proofs.lemmas.List.{drop_more}
use Rattle.std.proofs.lemmas.List.Elements.{All-head, All-tail, All-map, All-weaker}
use Rattle.std.proofs.lemmas.List.FromFn.{length-map-range_with_len, get_or-map-range_with_len}
use Rattle.segment_sums.specs.Division.{IsDivision, cut_place, segment_length}
use Rattle.segment_sums.specs.Sum.{segment_sum, NoSumBelow, NoSumAbove}
use Rattle.segment_sums.proofs.Places.{cut_place_rises, cut_place_last}
use Rattle.isax_word.specs.declared.layout.Layout.{Layout}
use Rattle.isax_word.specs.declared.word.Part.{Part}
use Rattle.isax_word.specs.Symbol.{symbol_of}
use Rattle.isax_word.specs.FullWord.{full_word, segment_symbol}
use Rattle.isax_word.specs.Word.{IsPart, no_part, part_at, first_symbol, end_symbol}
use Rattle.isax_word.proofs.Words.{part_symbols}
use Rattle.lower_bound.specs.Gap.{part_cost, symbol_cost, HoldsCosts, gap, cost_of_gap}
use Rattle.lower_bound.specs.Bound.{View, IsView, view_of, sum_at, length_at, HoldsView, parts_bound, word_bound, eight_bit_word}
use Rattle.lower_bound.proofs.Gaps.{gap-le, cost_bound}

-- the sums of a view are those of the query's segments
pub sum_at-view_of : (layout : Layout) (query : List ℤ) (j : ℕ) → j < layout.cuts.segments
    → sum_at (view_of layout query) j ≡ segment_sum layout.cuts query j
sum_at-view_of layout query j used =
    get_or-map-range_with_len (segment_sum layout.cuts query) 0 layout.cuts.segments j j
    (pos 0) used (omega arith)

-- the view of a query whose sums are within their bounds is a view
pub IsView-view_of : (layout : Layout) (query : List ℤ) → IsDivision layout.cuts
    → NoSumBelow layout.cuts query layout.cuts.segments
    → NoSumAbove layout.cuts query layout.cuts.segments
    → IsView (view_of layout query)
IsView-view_of layout query is low high =
    record {
      division = is;
      whole = length-map-range_with_len (segment_sum layout.cuts query) 0 layout.cuts.segments;
      not_low = λ j used. subst (λ s. neg_ℤ (pos (32768 * segment_length layout.cuts j)) ≤ℤ s)
          (sym (sum_at-view_of layout query j used)) (low j used);
      not_high = λ j used. subst (λ s. s ≤ℤ pos (32767 * segment_length layout.cuts j))
          (sym (sum_at-view_of layout query j used)) (high j used);
    }

-- the symbols of a query and the costs of all symbols for its segments are what its view holds
pub HoldsView-view_of : (layout : Layout) (query : List ℤ) (costs : List (List ℕ))
    → ((j : ℕ) → j < layout.cuts.segments
    → HoldsCosts layout.table (segment_length layout.cuts j) (segment_sum layout.cuts query j)
    (get_or costs j []))
    → ((j : ℕ) → layout.cuts.segments ≤ j → j < 16 → get_or costs j [] ≡ replicate 256 0)
    → HoldsView (view_of layout query) (full_word layout query) costs
HoldsView-view_of layout query costs each behind =
    record {
      as_many = length-map-range_with_len (segment_symbol layout query) 0 layout.cuts.segments;
      symbols_of = λ j used.
          get_or-map-range_with_len (segment_symbol layout query) 0 layout.cuts.segments j j 0 used
          (omega arith)
          ∙ ap (λ s. symbol_of layout.table (segment_length layout.cuts j) s)
          (sym (sum_at-view_of layout query j used));
      costs_of =
          λ j used. subst
          (λ s. HoldsCosts layout.table (segment_length layout.cuts j) s (get_or costs j []))
          (sym (sum_at-view_of layout query j used)) (each j used);
      none_behind = behind;
    }

-- a segment of a view is not empty
pub length_at-pos : (view : View) (j : ℕ) → IsView view → 1 ≤ length_at view j
length_at-pos view j is = omega (arith, cut_place_rises view.layout.cuts j is.division)

-- the costs of parts from a segment to the last are at most 4261478400 times the values of these
-- segments
pub parts_bound-le : (view : View) (j : ℕ) (parts : List Part) → IsView view → All IsPart parts
    → j + length parts ≡ view.layout.cuts.segments
    → parts_bound view j parts + 4261478400 * cut_place view.layout.cuts j
    ≤ 4261478400 * view.layout.cuts.row_length
parts_bound-le view j [] is parts end =
    let last : cut_place view.layout.cuts j ≡ view.layout.cuts.row_length
    = ap (cut_place view.layout.cuts) (omega (arith, end))
    ∙ cut_place_last view.layout.cuts is.division in
    omega (arith, last)
parts_bound-le view j (p ∷ rest) is parts end =
    let used : j < view.layout.cuts.segments = omega (arith, end) in
    let long = length_at-pos view j is in
    let symbols = part_symbols p (All-head IsPart p rest parts) in
    let small =
    gap-le view.layout.table (length_at view j) (sum_at view j) (first_symbol p)
    (end_symbol p) long
    symbols.0 symbols.1 (is.not_low j used) (is.not_high j used) in
    let here : part_cost view.layout.table (length_at view j) (sum_at view j) p
    ≤ 4261478400 * length_at view j
    = cost_bound (length_at view j) _ long small in
    let behind
    = parts_bound-le view (j + 1) rest is (All-tail IsPart p rest parts) (omega (arith, end)) in
    omega (arith, here, behind, cut_place_rises view.layout.cuts j is.division)

-- the bound of a word is below 2^49
pub word_bound-lt : (view : View) (word : List Part) → IsView view → All IsPart word
    → length word ≡ view.layout.cuts.segments → word_bound view word < 2 ^ 49
word_bound-lt view word is parts whole =
    omega (arith, parts_bound-le view 0 word is parts (omega (arith, whole)), is.division.short_row)

-- so is each part of it
pub part_bound-lt : (view : View) (word : List Part) (bound behind : ℕ) → IsView view → All IsPart word
    → length word ≡ view.layout.cuts.segments → bound + behind ≡ word_bound view word → bound < 2 ^ 49
part_bound-lt view word bound behind is parts whole sum =
    omega (arith, sum, word_bound-lt view word is parts whole)

-- the part of all eight bits of a symbol is one
eight_bits_part : (s : ℕ) → s < 256 → IsPart (record { prefix = s; bits = 8 })
eight_bits_part s small =
    record { some_bits = omega arith; eight_bits = omega arith; prefix_fits = omega arith }

-- the parts of the word of all eight bits are parts
pub eight_bit_word_parts : (symbols : List ℕ) → All (λ s. s < 256) symbols
    → All IsPart (eight_bit_word symbols)
eight_bit_word_parts symbols bytes =
    All-map IsPart (λ s. record { prefix = s; bits = 8 }) symbols
    (All-weaker (λ s. s < 256)
    (λ s. IsPart (record { prefix = s; bits = 8 })) eight_bits_part symbols bytes)

-- the cost of a part of all eight bits is that of its symbol
pub part_cost-eight_bits : (view : View) (j s : ℕ)
    → part_cost view.layout.table (length_at view j) (sum_at view j)
    (record { prefix = s; bits = 8 })
    ≡ symbol_cost view.layout.table (length_at view j) (sum_at view j) s
part_cost-eight_bits view j s =
    let first : s * 1 ≡ s = omega arith in
    let end : (s + 1) * 1 ≡ s + 1 = omega arith in
    ap (λ k. cost_of_gap (length_at view j) (gap view.layout.table (length_at view j) (sum_at view j) k ((s + 1) * 1))) first
    ∙ ap
    (λ k. cost_of_gap (length_at view j)
    (gap view.layout.table (length_at view j) (sum_at view j) s k)) end

-- the costs of what is left of a word begin with that of its next part
pub parts_bound-drop : (view : View) (word : List Part) (j : ℕ) → j < length word
    → parts_bound view j (drop j word)
    ≡ part_cost view.layout.table (length_at view j) (sum_at view j) (part_at word j)
    + parts_bound view (j + 1) (drop (j + 1) word)
parts_bound-drop view word j used = ap (parts_bound view j) (drop_more word j no_part used)

-- the costs of what is left of a full word begin with that of its next symbol
pub parts_bound-drop_full : (view : View) (symbols : List ℕ) (j : ℕ) → j < length symbols
    → parts_bound view j (eight_bit_word (drop j symbols))
    ≡ symbol_cost view.layout.table (length_at view j) (sum_at view j) (get_or symbols j 0)
    + parts_bound view (j + 1) (eight_bit_word (drop (j + 1) symbols))
parts_bound-drop_full view symbols j used =
    ap (λ ss. parts_bound view j (eight_bit_word ss)) (drop_more symbols j 0 used)
    ∙ ap (λ c. c + parts_bound view (j + 1) (eight_bit_word (drop (j + 1) symbols)))
    (part_cost-eight_bits view j (get_or symbols j 0))
