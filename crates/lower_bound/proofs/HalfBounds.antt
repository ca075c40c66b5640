-- Bounds by halves: the bound of a root number's one-bit word is that of its high bits and that of its low
-- bits (`root_bound_splits`), and a bit in front adds its cost (`bound_in_front`).
use Rattle.std.proofs.Common.{◌≡◌, ◌≢◌, ℕ, zero, suc, ◌+◌, ◌-◌, ◌*◌, ◌/◌, ◌%◌, ◌^◌, ◌<◌, ◌≤◌, arith, sym, ap, ◌∙◌, subst, ℤ, pos, ⊎_elim, List, [], ◌∷◌, ◌++◌, length, get_or, set, take, replicate, below_more, get_or-set_other, get_or-set_same}
use Rattle.std.specs.List.{All}
use Rattle.std.proofs.Math.Nat.{mod-eq_of_lt, pow-le-pow_right, mul-le-mul_right}
use Rattle.std.proofs.Math.Pow.{mod-mod-pow}
use Rattle.std.proofs.lemmas.Nat.{one_shl, pow_pos, pow-add, shr-shr, shr_high, shr_below, mod_low, mod_below, mod-pow-add}
use Rattle.std.proofs.lemmas.Bool.{cases_lt}
use Rattle.std.proofs.lemmas.List.{length-set, length-replicate, get_or-take, take_at}
use Rattle.std.proofs.lemmas.List.FromFn.{length-map-range_with_len}
use Rattle.std.proofs.lemmas.List.Elements.{All-head, All-tail}
use Rattle.segment_sums.specs.Division.{IsDivision, cut_place}
use Rattle.segment_sums.specs.Sum.{segment_sums, NoSumBelow, NoSumAbove}
use Rattle.segment_sums.proofs.Places.{cut_place_rises, cut_place_inside}
use Rattle.isax_word.specs.declared.layout.Layout.{Layout}
use Rattle.isax_word.specs.declared.word.Part.{Part}
use Rattle.isax_word.specs.Word.{IsPart, one_bit_word, first_symbol, end_symbol}
use Rattle.isax_word.proofs.Roots.{length-one_bit_word, one_bit_word_parts}
use Rattle.isax_word.proofs.Words.{part_symbols}
use Rattle.lower_bound.specs.Gap.{part_cost}
use Rattle.lower_bound.specs.Bound.{View, IsView, view_of, sum_at, length_at, parts_bound, word_bound}
use Rattle.lower_bound.specs.Halves.{view_with, bit_cost, HoldsBounds, HoldsHalves, high_segments, low_segments}
use Rattle.lower_bound.proofs.Gaps.{gap-le, cost_bound}
use Rattle.lower_bound.proofs.Views.{length_at-pos, IsView-view_of}

-- the bits of a number are its high bits and then its low bits
one_bit_word_splits : (r h l : ℕ) → r < 2 ^ (h + l)
    → one_bit_word r (h + l) ≡ one_bit_word (r / 2 ^ l) h ++ one_bit_word (r % 2 ^ l) l
one_bit_word_splits r zero l small =
    let none : 0 + l ≡ l = omega arith in
    let all : r < 2 ^ l = subst (λ k. r < 2 ^ k) none small in
    ap (λ k. one_bit_word r k) none ∙ ap (λ n. one_bit_word n l) (sym (mod-eq_of_lt all))
one_bit_word_splits r (suc h) l small =
    let rest = r % 2 ^ (h + l) in
    let more : suc h + l ≡ suc (h + l) = omega arith in
    let other : l + h ≡ h + l = omega arith in
    let first : r / 2 ^ (h + l) ≡ r / 2 ^ l / 2 ^ h
    = ap (λ k. r / 2 ^ k) (sym other) ∙ sym (shr-shr r l h) in
    let high : rest / 2 ^ l ≡ r / 2 ^ l % 2 ^ h
    = ap (λ n. n / 2 ^ l) (mod-pow-add r h l)
    ∙ shr_high (r / 2 ^ l % 2 ^ h) l (r % 2 ^ l) (mod_below r (2 ^ l) (pow_pos l)) in
    let low : rest % 2 ^ l ≡ r % 2 ^ l = mod-mod-pow r h l in
    let behind : one_bit_word rest (h + l)
    ≡ one_bit_word (r / 2 ^ l % 2 ^ h) h ++ one_bit_word (r % 2 ^ l) l
    = one_bit_word_splits rest h l (mod_below r (2 ^ (h + l)) (pow_pos (h + l)))
    ∙ ap (λ n. one_bit_word n h ++ one_bit_word (rest % 2 ^ l) l) high
    ∙ ap (λ n. one_bit_word (r / 2 ^ l % 2 ^ h) h ++ one_bit_word n l) low in
    ap (λ k. one_bit_word r k) more
    ∙ ap (λ n. record { prefix = n; bits = 1 } ∷ one_bit_word rest (h + l)) first
    ∙ ap (λ ps. record { prefix = r / 2 ^ l / 2 ^ h; bits = 1 } ∷ ps) behind

-- the costs of parts behind other parts are added to theirs
parts_bound-append : (view : View) (j : ℕ) (ps qs : List Part)
    → parts_bound view j (ps ++ qs) ≡ parts_bound view j ps + parts_bound view (j + length ps) qs
parts_bound-append view j [] qs =
    let place : j ≡ j + 0 = omega arith in
    let here : parts_bound view j qs ≡ parts_bound view (j + 0) qs
    = ap (λ k. parts_bound view k qs) place in
    omega (arith, here)
parts_bound-append view j (p ∷ ps) qs =
    let place : j + 1 + length ps ≡ j + suc (length ps) = omega arith in
    let behind : parts_bound view (j + 1) (ps ++ qs)
    ≡ parts_bound view (j + 1) ps + parts_bound view (j + suc (length ps)) qs
    = parts_bound-append view (j + 1) ps qs
    ∙ ap (λ k. parts_bound view (j + 1) ps + parts_bound view k qs) place in
    omega (arith, behind)

-- the bound of a number's one-bit word is that of its high bits and that of its low bits
pub root_bound_splits : (view : View) (r h l : ℕ) → r < 2 ^ (h + l)
    → word_bound view (one_bit_word r (h + l))
    ≡ parts_bound view 0 (one_bit_word (r / 2 ^ l) h) + parts_bound view h (one_bit_word (r % 2 ^ l) l)
root_bound_splits view r h l small =
    let high = one_bit_word (r / 2 ^ l) h in
    let low = one_bit_word (r % 2 ^ l) l in
    let place : 0 + length high ≡ h = omega (arith, length-one_bit_word (r / 2 ^ l) h) in
    ap (parts_bound view 0) (one_bit_word_splits r h l small)
    ∙ parts_bound-append view 0 high low
    ∙ ap (λ k. parts_bound view 0 high + parts_bound view k low) place

-- a bit in front of a number adds its cost
pub bound_in_front : (view : View) (j n bit x : ℕ) → x < 2 ^ n
    → parts_bound view j (one_bit_word (bit * 2 ^ n + x) (n + 1))
    ≡ bit_cost view j bit
    + parts_bound view (j + 1) (one_bit_word x n)
bound_in_front view j n bit x small =
    let r = bit * 2 ^ n + x in
    let more : n + 1 ≡ suc n = omega arith in
    let word : one_bit_word r (n + 1) ≡ record { prefix = bit; bits = 1 } ∷ one_bit_word x n
    = ap (λ k. one_bit_word r k) more
    ∙ ap (λ b. record { prefix = b; bits = 1 } ∷ one_bit_word (r % 2 ^ n) n) (shr_high bit n x small)
    ∙ ap (λ y. record { prefix = bit; bits = 1 } ∷ one_bit_word y n) (mod_low bit n x small) in
    ap (parts_bound view j) word

-- the costs of parts from a segment on are at most 4261478400 times the values of their segments
parts_bound_of_places : (view : View) (j : ℕ) (parts : List Part) → IsView view → All IsPart parts
    → j + length parts ≤ view.layout.cuts.segments
    → parts_bound view j parts + 4261478400 * cut_place view.layout.cuts j
    ≤ 4261478400 * cut_place view.layout.cuts (j + length parts)
parts_bound_of_places view j [] is parts end =
    let here : cut_place view.layout.cuts (j + 0) ≡ cut_place view.layout.cuts j
    = ap (cut_place view.layout.cuts) (omega arith) in
    omega (arith, here)
parts_bound_of_places view j (p ∷ rest) is parts end =
    let used : j < view.layout.cuts.segments = omega (arith, end) in
    let symbols = part_symbols p (All-head IsPart p rest parts) in
    let small =
    gap-le view.layout.table (length_at view j) (sum_at view j) (first_symbol p) (end_symbol p)
    (length_at-pos view j is) symbols.0 symbols.1 (is.not_low j used) (is.not_high j used) in
    let here : part_cost view.layout.table (length_at view j) (sum_at view j) p
    ≤ 4261478400 * length_at view j
    = cost_bound (length_at view j) _ (length_at-pos view j is) small in
    let behind =
    parts_bound_of_places view (j + 1) rest is (All-tail IsPart p rest parts) (omega (arith, end)) in
    let place : cut_place view.layout.cuts (j + 1 + length rest)
    ≡ cut_place view.layout.cuts (j + suc (length rest))
    = ap (cut_place view.layout.cuts) (omega arith) in
    omega (arith, here, behind, place, cut_place_rises view.layout.cuts j is.division)

-- the bound of a number's bits is below 2^49
pub bits_bound-lt : (view : View) (j n x : ℕ) → IsView view → x < 2 ^ n
    → j + n ≤ view.layout.cuts.segments → parts_bound view j (one_bit_word x n) < 2 ^ 49
bits_bound-lt view j n x is small inside =
    let parts = one_bit_word x n in
    let long : length parts ≡ n = length-one_bit_word x n in
    let end : j + length parts ≤ view.layout.cuts.segments = omega (arith, long, inside) in
    omega (
      arith,
      parts_bound_of_places view j parts is (one_bit_word_parts x n small) end,
      cut_place_inside view.layout.cuts (j + length parts) is.division end,
      is.division.short_row,
    )

-- bounds of which the first x numbers of n bits have a bit in front and the others wait for it
pub record InFront (view : View) (j n x : ℕ) (bounds : List ℕ) : Type 0 where
  pub whole : length bounds ≡ 256
  pub with_zero : (y : ℕ) → y < x → get_or bounds y 0 ≡ parts_bound view j (one_bit_word y (n + 1))
  pub with_one : (y : ℕ) → y < x
      → get_or bounds (2 ^ n + y) 0 ≡ parts_bound view j (one_bit_word (2 ^ n + y) (n + 1))
  pub waiting : (y : ℕ) → x ≤ y → y < 2 ^ n
      → get_or bounds y 0 ≡ parts_bound view (j + 1) (one_bit_word y n)

-- at the start all numbers wait
pub in_front_start : (view : View) (j n : ℕ) (bounds : List ℕ) → HoldsBounds view (j + 1) n bounds
    → InFront view j n 0 bounds
in_front_start view j n bounds holds =
    record {
      whole = holds.whole;
      with_zero = λ y none. absurd (omega arith);
      with_one = λ y none. absurd (omega arith);
      waiting = λ y from inside. holds.each y inside;
    }

-- once no number waits, the bounds of numbers with a bit more are held
pub in_front_end : (view : View) (j n : ℕ) (bounds : List ℕ) → InFront view j n (2 ^ n) bounds
    → HoldsBounds view j (n + 1) bounds
in_front_end view j n bounds held =
    record {
      whole = held.whole;
      each = λ y inside. ⊎_elim (held.with_zero y)
          (λ from. let place : 2 ^ n + (y - 2 ^ n) ≡ y = omega arith in
          let twice : 2 ^ (n + 1) ≡ 2 ^ n * 2 = pow-add 2 n 1 in
          subst (λ z. get_or bounds z 0 ≡ parts_bound view j (one_bit_word z (n + 1))) place
          (held.with_one (y - 2 ^ n) (omega (arith, twice, inside)))) (cases_lt y (2 ^ n));
    }

-- the places of a number of n bits, without and with a 1 in front
pub half-le : (n : ℕ) → n < 8 → 2 ^ n ≤ 128
half-le n few =
    let most : n ≤ 7 = omega arith in pow-le-pow_right {n = 2} (omega arith) {i = n} {j = 7} most

-- the bound of a number that waits rises by the cost of the bit in front
pub waiting_rises : (view : View) (j n x bit cost : ℕ) (bounds : List ℕ) → x < 2 ^ n
    → InFront view j n x bounds
    → cost ≡ bit_cost view j bit
    → get_or bounds x 0 + cost ≡ parts_bound view j (one_bit_word (bit * 2 ^ n + x) (n + 1))
waiting_rises view j n x bit cost bounds inside held is_cost =
    omega (arith, held.waiting x (omega arith) inside, is_cost, bound_in_front view j n bit x inside)

-- the bound that a number gets by the bit in front is below 2^49
pub waiting_fits : (view : View) (j n x bit cost : ℕ) (bounds : List ℕ) → IsView view
    → j + 1 + n ≤ view.layout.cuts.segments → bit < 2 → x < 2 ^ n → InFront view j n x bounds
    → cost ≡ bit_cost view j bit
    → get_or bounds x 0 + cost < 2 ^ 49
waiting_fits view j n x bit cost bounds is used one_bit inside held is_cost =
    let twice : 2 ^ (n + 1) ≡ 2 ^ n * 2 = pow-add 2 n 1 in
    let front : bit * 2 ^ n ≤ 1 * 2 ^ n = mul-le-mul_right (2 ^ n) (omega (arith, one_bit)) in
    let small : bit * 2 ^ n + x < 2 ^ (n + 1) = omega (arith, twice, front, inside) in
    let bound = bits_bound-lt view j (n + 1) (bit * 2 ^ n + x) is small (omega (arith, used)) in
    omega (arith, bound, waiting_rises view j n x bit cost bounds inside held is_cost)

-- so it is where the numbers are read from a shift
pub shifted_fits : (view : View) (j n x bit cost : ℕ) (bounds : List ℕ) → IsView view → n < 8
    → j + 1 + n ≤ view.layout.cuts.segments → bit < 2 → x < 1 * 2 ^ n % 18446744073709551616
    → InFront view j n x bounds → cost ≡ bit_cost view j bit
    → get_or bounds x 0 + cost < 2 ^ 49
shifted_fits view j n x bit cost bounds is few used one_bit inside held is_cost =
    let half : 1 * 2 ^ n % 18446744073709551616 ≡ 2 ^ n = one_shl n 64 (omega (arith, few)) in
    waiting_fits view j n x bit cost bounds is used one_bit (omega (arith, half, inside)) held is_cost

-- one number more has a bit in front
pub in_front_next : (view : View) (j n x low high : ℕ) (bounds : List ℕ) → n < 8 → x < 2 ^ n
    → low ≡ bit_cost view j 0
    → high ≡ bit_cost view j 1
    → InFront view j n x bounds
    → InFront view j n (x + 1)
    (set (set bounds (2 ^ n + x) (get_or bounds x 0 + high)) x (get_or bounds x 0 + low))
in_front_next view j n x low high bounds few inside is_low is_high held =
    let half = half-le n few in
    let one = get_or bounds x 0 + high in
    let zero_in_front = get_or bounds x 0 + low in
    let middle = set bounds (2 ^ n + x) one in
    let long : length middle ≡ 256 = length-set bounds (2 ^ n + x) one ∙ held.whole in
    let one_place : 1 * 2 ^ n + x ≡ 2 ^ n + x = omega arith in
    let zero_place : 0 * 2 ^ n + x ≡ x = omega arith in
    let is_one : one ≡ parts_bound view j (one_bit_word (2 ^ n + x) (n + 1))
    = waiting_rises view j n x 1 high bounds inside held is_high
    ∙ ap (λ z. parts_bound view j (one_bit_word z (n + 1))) one_place in
    let is_zero : zero_in_front ≡ parts_bound view j (one_bit_word x (n + 1))
    = waiting_rises view j n x 0 low bounds inside held is_low
    ∙ ap (λ z. parts_bound view j (one_bit_word z (n + 1))) zero_place in
    let stays : (k : ℕ) → k ≢ x → k ≢ 2 ^ n + x
    → get_or (set middle x zero_in_front) k 0 ≡ get_or bounds k 0
    = λ k other far. get_or-set_other middle x k zero_in_front 0 other
    ∙ get_or-set_other bounds (2 ^ n + x) k one 0 far in
    record {
      whole = length-set middle x zero_in_front ∙ long;
      with_zero = below_more _ _
          (λ y before. let other : y ≢ x = omega arith in
          let far : y ≢ 2 ^ n + x = omega arith in
          stays y other far ∙ held.with_zero y before)
          (get_or-set_same middle x zero_in_front 0 (omega (arith, long, half, inside)) ∙ is_zero);
      with_one = below_more _ _
          (λ y before. let other : 2 ^ n + y ≢ x = omega (arith, inside) in
          let far : 2 ^ n + y ≢ 2 ^ n + x = omega arith in
          stays (2 ^ n + y) other far ∙ held.with_one y before)
          (let other : 2 ^ n + x ≢ x = omega (arith, inside) in
          get_or-set_other middle x (2 ^ n + x) zero_in_front 0 other
          ∙ get_or-set_same bounds (2 ^ n + x) one 0 (omega (arith, held.whole, half, inside)) ∙ is_one);
      waiting = λ y from below. let other : y ≢ x = omega arith in
          let far : y ≢ 2 ^ n + x = omega arith in
          stays y other far ∙ held.waiting y (omega arith) below;
    }

-- of numbers of no bits there is one, whose bound is 0
pub bounds_of_none : (view : View) (first : ℕ) → HoldsBounds view first 0 (replicate 256 0)
bounds_of_none view first =
    record {
      whole = length-replicate {A = ℕ} 256 0;
      each = λ x inside. let none : x ≡ 0 = omega arith in ap (λ k. get_or (replicate 256 0) k 0) none;
    }

-- the sum of a segment stands at its place
pub sum_at-view_with : (layout : Layout) (sums : List ℤ) (j : ℕ) → j < layout.cuts.segments
    → get_or sums j (pos 0) ≡ sum_at (view_with layout sums) j
sum_at-view_with layout sums j used = sym (get_or-take layout.cuts.segments sums j (pos 0) used)

-- the bounds of the halves of a root number make the bound of its one-bit word
pub bound_of_halves : (view : View) (high low : List ℕ) (root : ℕ) → HoldsHalves view high low
    → root < 2 ^ view.layout.cuts.segments
    → get_or high (root / 2 ^ low_segments view.layout.cuts.segments) 0
    + get_or low (root % 2 ^ low_segments view.layout.cuts.segments) 0
    ≡ word_bound view (one_bit_word root view.layout.cuts.segments)
bound_of_halves view high low root holds fits =
    let w = view.layout.cuts.segments in
    let h = high_segments w in
    let l = low_segments w in
    let whole : h + l ≡ w = omega arith in
    let small : root < 2 ^ (h + l) = subst (λ k. root < 2 ^ k) (sym whole) fits in
    let in_high : get_or high (root / 2 ^ l) 0 ≡ parts_bound view 0 (one_bit_word (root / 2 ^ l) h)
    = holds.in_high.each (root / 2 ^ l) (shr_below root h l small) in
    let in_low : get_or low (root % 2 ^ l) 0 ≡ parts_bound view h (one_bit_word (root % 2 ^ l) l)
    = holds.in_low.each (root % 2 ^ l) (mod_below root (2 ^ l) (pow_pos l)) in
    let both : word_bound view (one_bit_word root (h + l)) ≡ word_bound view (one_bit_word root w)
    = ap (λ k. word_bound view (one_bit_word root k)) whole in
    omega (arith, in_high, in_low, both, root_bound_splits view root h l small)

-- sums that stand at the head of a list make the view of their query
pub view_of_sums : (layout : Layout) (query sums behind : List ℤ)
    → sums ≡ segment_sums layout.cuts query ++ behind → view_with layout sums ≡ view_of layout query
view_of_sums layout query sums behind are =
    let w = layout.cuts.segments in
    let kept : take w sums ≡ segment_sums layout.cuts query
    = ap (λ l. take w l) are
    ∙ take_at (segment_sums layout.cuts query) behind w (length-map-range_with_len _ 0 w) in
    ap (λ s. record { layout = layout; sums = s }) kept

-- they make a view where they are within their bounds
pub IsView-of_sums : (layout : Layout) (query sums behind : List ℤ) → IsDivision layout.cuts
    → sums ≡ segment_sums layout.cuts query ++ behind
    → NoSumBelow layout.cuts query layout.cuts.segments
    → NoSumAbove layout.cuts query layout.cuts.segments → IsView (view_with layout sums)
IsView-of_sums layout query sums behind is are low high =
    subst IsView (sym (view_of_sums layout query sums behind are))
    (IsView-view_of layout query is low high)
