-- Symbols: the breakpoint of a symbol, times the length, is at or below the sum, and the next one
-- is above it.
use Rattle.std.proofs.Common.{◌≡◌, ℕ, ◌+◌, ◌-◌, ◌*◌, ◌/◌, ◌^◌, ◌<◌, ◌≤◌, Bool, true, false, cond, arith, refl, sym, ap, subst, ◌∙◌, ℤ, pos, ◌+ℤ◌, ◌*ℤ◌, ◌<ℤ◌, ◌≤ℤ◌, List, length, get_or}
use Rattle.std.specs.List.{range_with_len}
use Rattle.std.proofs.lemmas.Int.{ints}
use Rattle.std.proofs.lemmas.Nat.{div_below, pow-add, shl-shr}
use Rattle.std.proofs.Math.Nat.{div-mul-le_self, lt-div-mul-add}
use Rattle.std.proofs.lemmas.Bool.{false_from_ne_true, false≢true}
use Rattle.breakpoints.specs.declared.table.Table.{Table}
use Rattle.breakpoints.specs.declared.table.Table.TheVariants.{Flat, Bent}
use Rattle.breakpoints.specs.Breakpoint.{breakpoint, from_middle}
use Rattle.breakpoints.proofs.Ascending.{breakpoint_rises}
use Rattle.std.proofs.lemmas.List.Elements.{All-map, All-from_get_or}
use Rattle.std.proofs.lemmas.List.FromFn.{length-map-range_with_len}
use Rattle.segment_sums.specs.Division.{IsDivision, segment_length}
use Rattle.segment_sums.specs.Sum.{segment_sum}
use Rattle.isax_word.specs.declared.layout.Layout.{Layout}
use Rattle.isax_word.specs.FullWord.{IsFullWord, full_word, segment_symbol}
use Rattle.isax_word.specs.Symbol.{is_reached, symbol_of}
use Rattle.isax_word.proofs.Counts.{count_is, count_splits, Splits}
use Rattle.isax_word.proofs.Scaled.{scaled_rises}
use borrow.Author.Differences.{up, down, product_is}

-- a sum that reaches a breakpoint reaches each one before it
pub reached_before : (t : Table) (l : ℕ) (s : ℤ) (i j : ℕ) → 1 ≤ i → i ≤ j → j ≤ 255
    → is_reached t l s j ≡ true → is_reached t l s i ≡ true
reached_before t l s i j first before last reached =
    let below : (pos l *ℤ breakpoint t i) ≤ℤ (pos l *ℤ breakpoint t j)
    = scaled_rises l (breakpoint t i) (breakpoint t j) (breakpoint_rises t i j first before last) in
    let there : (pos l *ℤ breakpoint t j) ≤ℤ s = omega (arith, ints) in
    sym (omega (arith, ints))

-- a sum that does not reach a breakpoint reaches none behind it
pub unreached_behind : (t : Table) (l : ℕ) (s : ℤ) (i j : ℕ) → 1 ≤ i → i ≤ j → j ≤ 255
    → is_reached t l s i ≡ false → is_reached t l s j ≡ false
unreached_behind t l s i j first before last unreached =
    false_from_ne_true (is_reached t l s j)
    (λ reached. false≢true (sym unreached ∙ reached_before t l s i j first before last reached))

-- the symbol is the place of the last breakpoint that the sum reaches
pub symbol_is : (t : Table) (l : ℕ) (s : ℤ) (k : ℕ) → k ≤ 255
    → (1 ≤ k → is_reached t l s k ≡ true) → (k < 255 → is_reached t l s (k + 1) ≡ false)
    → symbol_of t l s ≡ k
unfolding symbol_of
symbol_is t l s k last reached unreached =
    count_is (is_reached t l s) 1 255 k last
    (λ i below. reached_before t l s (1 + i) k (omega arith) (omega arith) last
    (reached (omega arith)))
    (λ i from below. unreached_behind t l s (k + 1) (1 + i) (omega arith) (omega arith)
    (omega arith)
    (unreached (omega arith)))

-- a multiple of a flat breakpoint, above the least sum, is a multiple of 256 and the place
flat_scaled : (l i : ℕ) → pos l *ℤ breakpoint Flat i +ℤ pos (32768 * l) ≡ pos (i * (256 * l))
flat_scaled l i =
    let d = from_middle i in
    let b = breakpoint Flat i in
    let places : up d + 128 ≡ down d + i = omega (arith, ints) in
    let whole : up b + 32768 ≡ down b + 256 * i
    = omega (arith, ints, product_is (pos 256) d, places) in
    let scaled : l * (up b + 32768) ≡ l * (down b + 256 * i) = ap (λ n. l * n) whole in
    omega (arith, ints, product_is (pos l) b, scaled)

-- in the flat table the symbol is how many steps of 256 a value fit between the least sum and the
-- sum
pub flat_symbol_is : (l : ℕ) (s : ℤ) (above : ℕ) → 1 ≤ l → pos above ≡ s +ℤ pos (32768 * l)
    → above ≤ 65535 * l
    → (above / (256 * l) < 256) × (symbol_of Flat l s ≡ above / (256 * l))
flat_symbol_is l s above some is bound =
    let k = above / (256 * l) in
    let some_step : 0 < 256 * l = omega arith in
    let small : k < 256 = div_below above (256 * l) 256 some_step (omega arith) in
    let at_most : k * (256 * l) ≤ above = div-mul-le_self above (256 * l) in
    let below_next : above < k * (256 * l) + 256 * l = lt-div-mul-add some_step in (
      small,
      symbol_is Flat l s k (omega arith)
          (λ first. sym (omega (arith, ints, flat_scaled l k)))
          (λ last. sym (omega (arith, ints, flat_scaled l (k + 1)))),
    )

-- the run of tests of a symbol splits at the symbol
symbol_splits : (t : Table) (l : ℕ) (s : ℤ) → Splits (is_reached t l s) 1 255 (symbol_of t l s)
unfolding symbol_of
symbol_splits t l s =
    count_splits (is_reached t l s) 1 255
    (λ i j before last. reached_before t l s (1 + i) (1 + j) (omega arith) (omega arith)
    (omega arith))

-- a symbol is at most 255
pub symbol-le : (t : Table) (l : ℕ) (s : ℤ) → symbol_of t l s ≤ 255
symbol-le t l s = (symbol_splits t l s).inside

-- the breakpoint of a symbol, times the length, is at or below the sum: of symbol 0 there is none
pub symbol_reached : (t : Table) (l : ℕ) (s : ℤ) (i : ℕ) → 1 ≤ i → i ≤ symbol_of t l s
    → (pos l *ℤ breakpoint t i) ≤ℤ s
symbol_reached t l s i first below =
    let place : 1 + (i - 1) ≡ i = omega arith in
    let passes : is_reached t l s (1 + (i - 1)) ≡ true
    = (symbol_splits t l s).before (i - 1) (omega arith) in
    let here : is_reached t l s i ≡ true = ap (is_reached t l s) (sym place) ∙ passes in
    omega (arith, ints)

-- each breakpoint past that of a symbol, times the length, is above the sum
pub symbol_unreached : (t : Table) (l : ℕ) (s : ℤ) (i : ℕ) → symbol_of t l s < i → i ≤ 255
    → s <ℤ (pos l *ℤ breakpoint t i)
symbol_unreached t l s i above last =
    let place : 1 + (i - 1) ≡ i = omega arith in
    let fails : is_reached t l s (1 + (i - 1)) ≡ false
    = (symbol_splits t l s).behind (i - 1) (omega arith) (omega arith) in
    let here : is_reached t l s i ≡ false = ap (is_reached t l s) (sym place) ∙ fails in
    omega (arith, ints)

-- a search for the symbol in the bent table: the breakpoint found so far is reached, or none is
-- found, and the one behind the places that are left is not reached, or there is none
pub record Narrowed (l : ℕ) (s : ℤ) (found left : ℕ) : Type 0 where
  pub room : found + left ≤ 256
  pub reached : 1 ≤ found → is_reached Bent l s found ≡ true
  pub unreached : found + left ≤ 255 → is_reached Bent l s (found + left) ≡ false

-- a search of one place has found the symbol
pub narrowed_is : (l : ℕ) (s : ℤ) (found : ℕ) → Narrowed l s found 1 → symbol_of Bent l s ≡ found
narrowed_is l s found is =
    symbol_is Bent l s found (omega (arith, is.room)) is.reached
    (λ last. is.unreached (omega arith))

-- a search goes on in the half behind the middle where the middle is reached, and else in the half
-- before it
pub narrowed_next : (l : ℕ) (s : ℤ) (found step : ℕ) → 1 ≤ step → Narrowed l s found (2 * step)
    → Narrowed l s (found + step * cond (is_reached Bent l s (found + step)) 1 0) step
narrowed_next l s found step some is = by_test (is_reached Bent l s (found + step)) refl
  where
    -- where the middle is reached the half behind it is left, else the half before
    by_test : (b : Bool) → is_reached Bent l s (found + step) ≡ b
        → Narrowed l s (found + step * cond b 1 0) step
    by_test true passes =
        let place : found + step * 1 ≡ found + step = omega arith in
        let end : (found + step) + step ≡ found + 2 * step = omega arith in
        subst (λ k. Narrowed l s k step) (sym place)
        (record {
          room = omega (arith, is.room);
          reached = λ first. passes;
          unreached = λ last. ap (is_reached Bent l s) end ∙ is.unreached (omega arith);
        })
    by_test false fails =
        let place : found + step * 0 ≡ found = omega arith in
        subst (λ k. Narrowed l s k step) (sym place)
        (record { room = omega (arith, is.room); reached = is.reached; unreached = λ last. fails })

-- how many places are left to search after i of the eight rounds, and the step of the next round
pub halves : (i : ℕ) → i < 8 → (128 / 2 ^ i ≡ 2 ^ (7 - i)) × (2 ^ (8 - i) ≡ 2 * 2 ^ (7 - i))
    × (2 ^ (8 - (i + 1)) ≡ 2 ^ (7 - i))
halves i inside =
    let seven : (7 - i) + i ≡ 7 = omega arith in
    let whole : 128 ≡ 2 ^ (7 - i) * 2 ^ i = sym (ap (λ k. 2 ^ k) seven) ∙ pow-add 2 (7 - i) i in
    let suc_of : 8 - i ≡ 1 + (7 - i) = omega arith in
    let same : 8 - (i + 1) ≡ 7 - i = omega arith in (
      ap (λ n. n / 2 ^ i) whole ∙ shl-shr (2 ^ (7 - i)) i,
      ap (λ k. 2 ^ k) suc_of ∙ pow-add 2 1 (7 - i),
      ap (λ k. 2 ^ k) same,
    )

-- the full word of a row is one
pub IsFullWord-full_word : (layout : Layout) (row : List ℤ) → IsDivision layout.cuts
    → IsFullWord (full_word layout row)
IsFullWord-full_word layout row is =
    let long : length (full_word layout row) ≡ layout.cuts.segments
    = length-map-range_with_len (segment_symbol layout row) 0 layout.cuts.segments in
    record {
      some_symbols = omega (arith, is.some_segments, long);
      few_symbols = omega (arith, is.few_segments, long);
      eight_bits =
          All-map (λ s. s < 256) (segment_symbol layout row) (range_with_len 0 layout.cuts.segments)
          (All-from_get_or (λ j. segment_symbol layout row j < 256) _ 0 (λ k inside.
          omega (
            arith,
            symbol-le layout.table
                (segment_length layout.cuts (get_or (range_with_len 0 layout.cuts.segments) k 0))
                (segment_sum layout.cuts row (get_or (range_with_len 0 layout.cuts.segments) k 0)),
          )));
    }
