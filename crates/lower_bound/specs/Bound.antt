-- The lower bound of a word for a query: the sum of the costs of its parts. Of a query it knows the sums of its
-- segments alone.
use Rattle.std.specs.Prelude.{ℕ, ℤ, pos, ◌≡◌, ◌+◌, ◌*◌, ◌<◌, ◌≤◌, neg_ℤ, ◌≤ℤ◌, List, [], ◌∷◌, length, map, replicate, slice_index, slice_index_or}
use Rattle.segment_sums.specs.Division.{IsDivision, segment_length}
use Rattle.segment_sums.specs.Sum.{segment_sums}
use Rattle.isax_word.specs.declared.layout.Layout.{Layout}
use Rattle.isax_word.specs.declared.word.Part.{Part}
use Rattle.isax_word.specs.Symbol.{symbol_of}
use Rattle.lower_bound.specs.Gap.{part_cost, HoldsCosts}
use Rattle.search_limits.specs.declared.numbers.TheConstants.{RAISE}

-- what a bound needs of a query: the layout and the sums of the query's segments
pub record View : Type 0 where
  pub layout : Layout
  pub sums : List ℤ

-- the view of a query under a layout
abbrev pub view_of : Layout → List ℤ → View
view_of layout query = record { layout = layout; sums = segment_sums layout.cuts query }

-- the sum of the query's segment j
abbrev pub sum_at : View → ℕ → ℤ
sum_at view j = slice_index_or view.sums j (pos 0)

-- the length of segment j
abbrev pub length_at : View → ℕ → ℕ
length_at view j = segment_length view.layout.cuts j

-- a view of a query: as many sums as segments, each a sum of as many values of 16 bits as its segment holds
pub record IsView (view : View) : Type 0 where
  pub division : IsDivision view.layout.cuts
  pub whole : length view.sums ≡ view.layout.cuts.segments
  pub not_low : (j : ℕ) → j < view.layout.cuts.segments → neg_ℤ (pos (RAISE * length_at view j)) ≤ℤ sum_at view j
  pub not_high : (j : ℕ) → j < view.layout.cuts.segments → sum_at view j ≤ℤ pos (32767 * length_at view j)

-- the costs of a word's parts, of which the first is that of segment j, added
abbrev pub parts_bound : View → ℕ → List Part → ℕ
parts_bound view j [] = 0
parts_bound view j (p ∷ parts) =
    part_cost view.layout.table (length_at view j) (sum_at view j) p + parts_bound view (j + 1) parts

-- the lower bound of a word for a query
abbrev pub word_bound : View → List Part → ℕ
word_bound view word = parts_bound view 0 word

-- the word that has all eight bits of each symbol
abbrev pub eight_bit_word : List ℕ → List Part
eight_bit_word symbols = map (λ s. record { prefix = s; bits = 8 }) symbols

-- the symbol of the query's segment j
abbrev pub symbol_at : View → ℕ → ℕ
symbol_at view j = symbol_of view.layout.table (length_at view j) (sum_at view j)

-- the symbols of a query and the costs of all symbols, segment by segment; in the places behind the segments nothing costs
pub record HoldsView (view : View) (symbols : List ℕ) (costs : List (List ℕ)) : Type 0 where
  pub as_many : length symbols ≡ view.layout.cuts.segments
  pub symbols_of : (j : ℕ) → j < view.layout.cuts.segments → slice_index symbols j ≡ symbol_at view j
  pub costs_of : (j : ℕ) → j < view.layout.cuts.segments
      → HoldsCosts view.layout.table (length_at view j) (sum_at view j) (slice_index_or costs j [])
  pub none_behind : (j : ℕ) → view.layout.cuts.segments ≤ j → j < 16 → slice_index_or costs j [] ≡ replicate 256 0
