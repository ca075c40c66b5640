-- Means in place of sums: a sum reaches a breakpoint, times the length, exactly where its mean, rounded down, reaches the breakpoint. So a
-- sum has the symbol of its mean (`symbol_of_mean`), and the mean is found and kept in 16 bits (`raised_mean_small`). Segments of one length
-- have sums of as many values in all sixteen places (`equal_sums`); what the cuts sum are such sums (`are_sums`).
use Rattle.std.proofs.Common.{◌≡◌, ℕ, ◌+◌, ◌-◌, ◌*◌, ◌/◌, ◌<◌, ◌≤◌, ◌++◌, ◌∙◌, ap, arith, refl, replicate, subst, sym, List, ℤ, pos, neg_ℤ, ◌+ℤ◌, ◌*ℤ◌, ◌<ℤ◌, ◌≤ℤ◌, get_or, ⊎_elim}
use Rattle.std.specs.Prelude.{unsigned_abs}
use Rattle.std.proofs.lemmas.Bool.{cases_lt}
use Rattle.std.proofs.lemmas.Int.{ints}
use Rattle.std.proofs.lemmas.Nat.{div_below}
use Rattle.std.proofs.Math.Nat.{div-mul-le_self, lt-div-mul-add, mul-le-mul_left}
use Rattle.breakpoints.specs.declared.table.Table.{Table}
use Rattle.breakpoints.specs.Breakpoint.{breakpoint}
use Rattle.breakpoints.proofs.Ascending.{breakpoint_within}
use Rattle.segment_sums.specs.Division.{Division, IsDivision, segment_length}
use Rattle.segment_sums.specs.Sum.{segment_sum, segment_sums, NoSumBelow, NoSumAbove}
use Rattle.segment_sums.proofs.Places.{cut_place_rises, equal_lengths}
use Rattle.segment_sums.proofs.Sums.{segment_sums_at}
use Rattle.std.proofs.lemmas.List.{get_or-append_right, get_or-replicate}
use Rattle.std.proofs.lemmas.List.FromFn.{length-map-range_with_len}
use Rattle.isax_word.specs.Symbol.{AreSumsOf, IsSum, mean_of, symbol_of}
use Rattle.isax_word.proofs.Scaled.{scaled_raised}
use Rattle.isax_word.proofs.Symbols.{symbol_is, symbol-le, symbol_reached, symbol_unreached}
use borrow.Author.Differences.{product_is}

-- once a number is itself
pub once : (b : ℤ) → pos 1 *ℤ b ≡ b
once b = omega (arith, ints, product_is (pos 1) b)

-- a breakpoint, raised by 32768, is not below 0
raised : (t : Table) (i : ℕ) → 1 ≤ i → i ≤ 255 → pos (unsigned_abs (breakpoint t i +ℤ pos 32768)) ≡ breakpoint t i +ℤ pos 32768
raised t i first last = omega (arith, ints, (breakpoint_within t i first last).0)

-- a number that the mean reaches, the sum reaches as many times
reached_by_sum : (l n u : ℕ) (s b : ℤ) → pos n ≡ b +ℤ pos 32768 → pos u ≡ s +ℤ pos (32768 * l) → n ≤ u / l → (pos l *ℤ b) ≤ℤ s
reached_by_sum l n u s b is above reached =
    let at_most : u / l * l ≤ u = div-mul-le_self u l in
    let times : l * n ≤ l * (u / l) = mul-le-mul_left l reached in
    omega (arith, ints, scaled_raised l n b is, times, at_most, above)

-- a number that the mean does not reach, the sum does not reach
unreached_by_sum : (l n u : ℕ) (s b : ℤ) → 1 ≤ l → pos n ≡ b +ℤ pos 32768 → pos u ≡ s +ℤ pos (32768 * l) → u / l < n
    → s <ℤ (pos l *ℤ b)
unreached_by_sum l n u s b some is above unreached =
    let below_next : u < u / l * l + l = lt-div-mul-add some in
    let next : u / l + 1 ≤ n = omega (arith, unreached) in
    let times : l * (u / l + 1) ≤ l * n = mul-le-mul_left l next in
    omega (arith, ints, scaled_raised l n b is, times, below_next, above)

-- a sum has the symbol of its mean
pub symbol_of_mean : (t : Table) (l : ℕ) (s : ℤ) → 1 ≤ l → neg_ℤ (pos (32768 * l)) ≤ℤ s
    → symbol_of t 1 (mean_of l s) ≡ symbol_of t l s
symbol_of_mean t l s some low =
    let mean = mean_of l s in
    let k = symbol_of t 1 mean in
    let u = unsigned_abs (s +ℤ pos (32768 * l)) in
    let above : pos u ≡ s +ℤ pos (32768 * l) = omega (arith, ints, low) in
    let last : k ≤ 255 = symbol-le t 1 mean in
    sym (symbol_is t l s k last
    (λ first.
    let b = breakpoint t k in
    let n = unsigned_abs (b +ℤ pos 32768) in
    let here : (pos 1 *ℤ b) ≤ℤ mean = symbol_reached t 1 mean k first (omega arith) in
    let is = raised t k first last in
    let reached : n ≤ u / l = omega (arith, ints, here, once b, is) in
    sym (omega (arith, ints, reached_by_sum l n u s b is above reached)))
    (λ more.
    let b = breakpoint t (k + 1) in
    let n = unsigned_abs (b +ℤ pos 32768) in
    let here : mean <ℤ (pos 1 *ℤ b) = symbol_unreached t 1 mean (k + 1) (omega arith) (omega arith) in
    let is = raised t (k + 1) (omega arith) (omega arith) in
    let unreached : u / l < n = omega (arith, ints, here, once b, is) in
    sym (omega (arith, ints, unreached_by_sum l n u s b some is above unreached))))

-- the mean of a sum that is not too high, raised, takes 16 bits
pub raised_mean_small : (above l : ℕ) → 1 ≤ l → above ≤ 65535 * l → above / l < 65536
raised_mean_small above l some bound = div_below above l 65536 some (omega arith)

-- segments of one length have sums of so many values, and the zeros behind them are such sums
pub equal_sums : (d : Division) (sums : List ℤ) (l j : ℕ) → IsDivision d → AreSumsOf d sums → d.row_length ≡ d.segments * l
    → j < 16 → IsSum l (get_or sums j (pos 0))
equal_sums d sums l j is are equal inside =
    ⊎_elim
    (λ (used : j < d.segments). subst (λ n. IsSum n (get_or sums j (pos 0)))
    (equal_lengths d d.segments l j is.some_segments refl equal) (are.each j used))
    (λ (behind : d.segments ≤ j). let zero_there = are.behind j behind inside in
    record { not_low = omega (arith, ints, zero_there); not_high = omega (arith, ints, zero_there) })
    (cases_lt j d.segments)

-- the sums of the segments of a row, with zeros behind them
pub are_sums : (d : Division) (row sums : List ℤ) → IsDivision d → sums ≡ segment_sums d row ++ replicate (16 - d.segments) (pos 0)
    → NoSumBelow d row d.segments → NoSumAbove d row d.segments → AreSumsOf d sums
are_sums d row sums is are low high =
    record {
      each = λ j used. subst (IsSum (segment_length d j)) (sym (segment_sums_at d row sums (16 - d.segments) j are used))
          (record { not_low = low j used; not_high = high j used });
      behind = λ j from inside. ap (λ l. get_or l j (pos 0)) are
          ∙ get_or-append_right (segment_sums d row) (replicate (16 - d.segments) (pos 0)) d.segments j (pos 0)
          (length-map-range_with_len (segment_sum d row) 0 d.segments) from
          ∙ get_or-replicate (16 - d.segments) (j - d.segments) (pos 0) (pos 0) (omega (arith, from, inside));
    }

-- a segment has some values
pub some_values : (d : Division) (j : ℕ) → IsDivision d → 1 ≤ segment_length d j
some_values d j is = omega (arith, cut_place_rises d j is)
