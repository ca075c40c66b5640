-- Gaps and costs: the gap to a prefix is that to the nearest symbol (`gap_nearest`), a wider prefix
-- has no greater gap, and the gap is at most the distance of two sums where the prefix holds the
-- other (`gap_within`).
use Rattle.std.proofs.Common.{◌≡◌, ℕ, zero, suc, ◌+◌, ◌-◌, ◌*◌, ◌<◌, ◌≤◌, eqb, arith, refl, sym, ap, ◌∙◌, ⊎_elim, ◌⊎◌, inl, inr, ℤ, pos, negsuc, neg_ℤ, ◌-ℤ◌, ◌*ℤ◌, ◌<ℤ◌, ◌≤ℤ◌}
use Rattle.std.specs.Prelude.{min, max, unsigned_abs}
use Rattle.std.proofs.lemmas.Int.{ints}
use Rattle.std.proofs.lemmas.Bool.{ne_eqb, cond-false, cases_lt}
use Rattle.std.proofs.lemmas.Nat.{mul-le, div_below}
use Rattle.breakpoints.specs.declared.table.Table.{Table}
use Rattle.breakpoints.specs.Breakpoint.{breakpoint}
use Rattle.breakpoints.proofs.Ascending.{breakpoint_rises, breakpoint_within}
use Rattle.segment_sums.proofs.Places.{quotient_rises}
use Rattle.isax_word.specs.declared.word.Part.{Part}
use Rattle.isax_word.specs.Symbol.{symbol_of}
use Rattle.isax_word.proofs.Words.{part_symbols}
use Rattle.isax_word.specs.Word.{IsPart, first_symbol, end_symbol}
use Rattle.isax_word.proofs.Scaled.{scaled_rises}
use Rattle.isax_word.proofs.Symbols.{symbol_reached, symbol_unreached}
use Rattle.lower_bound.specs.Gap.{excess, gap_below, gap_above, gap, cost_of_gap, part_cost, symbol_cost, nearest_symbol}
use borrow.Author.Differences.{up, down}

-- an excess is a difference that stops at 0
pub excess_is : (z : ℤ) → excess z ≡ up z - down z
excess_is (pos n) = omega arith
excess_is (negsuc n) = omega arith

-- nothing exceeds what is not below it
pub excess_none : (x y : ℤ) → x ≤ℤ y → excess (x -ℤ y) ≡ 0
excess_none x y below = omega (arith, ints, excess_is (x -ℤ y))

-- an excess rises with what exceeds, and falls with what is exceeded
pub excess_rises : (x y x' y' : ℤ) → x ≤ℤ x' → y' ≤ℤ y → excess (x -ℤ y) ≤ excess (x' -ℤ y')
excess_rises x y x' y' more less = omega (arith, ints, excess_is (x -ℤ y), excess_is (x' -ℤ y'))

-- a breakpoint times the length
abbrev pub scaled : Table → ℕ → ℕ → ℤ
scaled t l i = pos l *ℤ breakpoint t i

-- above the open end, the gap below is the excess of the least sum
pub gap_below_at : (t : Table) (l : ℕ) (s : ℤ) (a : ℕ) → 1 ≤ a
    → gap_below t l s a ≡ excess (scaled t l a -ℤ s)
gap_below_at t l s a some = cond-false (eqb a 0) _ _ (ne_eqb a 0 (λ none. absurd (omega arith)))

-- below the open end, the gap above is the excess over the greatest sum
pub gap_above_at : (t : Table) (l : ℕ) (s : ℤ) (b : ℕ) → b ≤ 255
    → gap_above t l s b ≡ excess (s -ℤ (scaled t l b -ℤ pos 1))
gap_above_at t l s b last =
    cond-false (eqb b 256) _ _ (ne_eqb b 256 (λ open_end. absurd (omega arith)))

-- no gap lies below a sum whose symbol is not before the first one
pub gap_below_none : (t : Table) (l : ℕ) (s : ℤ) (a : ℕ) → a ≤ symbol_of t l s
    → gap_below t l s a ≡ 0
gap_below_none t l s zero inside = refl
gap_below_none t l s (suc a) inside =
    gap_below_at t l s (suc a) (omega arith)
    ∙ excess_none (scaled t l (suc a)) s (symbol_reached t l s (suc a) (omega arith) inside)

-- no gap lies above a sum whose symbol is before the end
pub gap_above_none : (t : Table) (l : ℕ) (s : ℤ) (b : ℕ) → symbol_of t l s < b → b ≤ 256
    → gap_above t l s b ≡ 0
gap_above_none t l s b inside last =
    ⊎_elim
    (λ closed.
    let beyond : s <ℤ scaled t l b = symbol_unreached t l s b inside (omega arith) in
    gap_above_at t l s b (omega arith)
    ∙ excess_none s (scaled t l b -ℤ pos 1) (omega (arith, ints, beyond)))
    (λ open_end. let end : b ≡ 256 = omega arith in ap (λ k. gap_above t l s k) end)
    (cases_lt b 256)

-- the gap below does not fall where the first symbol rises
pub gap_below_rises : (t : Table) (l : ℕ) (s : ℤ) (a a' : ℕ) → a ≤ a' → a' ≤ 255
    → gap_below t l s a ≤ gap_below t l s a'
gap_below_rises t l s zero a' before last = omega arith
gap_below_rises t l s (suc a) a' before last =
    let more =
    scaled_rises l (breakpoint t (suc a)) (breakpoint t a')
    (breakpoint_rises t (suc a) a' (omega arith) before last) in
    omega (
      arith,
      gap_below_at t l s (suc a) (omega arith),
      gap_below_at t l s a' (omega arith),
      excess_rises (scaled t l (suc a)) s (scaled t l a') s more (omega (arith, ints)),
    )

-- the gap above does not fall where the end falls
pub gap_above_falls : (t : Table) (l : ℕ) (s : ℤ) (b b' : ℕ) → 1 ≤ b' → b' ≤ b → b ≤ 256
    → gap_above t l s b ≤ gap_above t l s b'
gap_above_falls t l s b b' some before last =
    ⊎_elim
    (λ closed.
    let more : scaled t l b' ≤ℤ scaled t l b
    = scaled_rises l (breakpoint t b') (breakpoint t b) (breakpoint_rises t b' b some before (omega arith)) in
    let less : (scaled t l b' -ℤ pos 1) ≤ℤ (scaled t l b -ℤ pos 1) = omega (arith, ints, more) in
    omega (
      arith,
      gap_above_at t l s b (omega arith),
      gap_above_at t l s b' (omega arith),
      excess_rises s (scaled t l b -ℤ pos 1) s (scaled t l b' -ℤ pos 1) (omega (arith, ints)) less,
    ))
    (λ open_end.
    let end : b ≡ 256 = omega arith in
    let none : gap_above t l s b ≡ 0 = ap (λ k. gap_above t l s k) end in
    omega (arith, none))
    (cases_lt b 256)

-- a prefix within another has no smaller gap
pub gap_rises : (t : Table) (l : ℕ) (s : ℤ) (a b a' b' : ℕ) → a ≤ a' → a' < b' → b' ≤ b → b ≤ 256
    → gap t l s a b ≤ gap t l s a' b'
gap_rises t l s a b a' b' first some end last =
    omega (
      arith,
      gap_below_rises t l s a a' first (omega arith),
      gap_above_falls t l s b b' (omega arith) end last,
    )

-- the nearest to a symbol from one up to another, the latter left out
abbrev pub nearest : ℕ → ℕ → ℕ → ℕ
nearest first end symbol = max first (min (end - 1) symbol)

-- the gap to a prefix is the gap to its symbol that is nearest to the sum's
pub gap_nearest : (t : Table) (l : ℕ) (s : ℤ) (a b : ℕ) → a < b → b ≤ 256
    → gap t l s a b ≡ gap t l s (nearest a b (symbol_of t l s)) (nearest a b (symbol_of t l s) + 1)
gap_nearest t l s a b some last =
    let symbol = symbol_of t l s in
    ⊎_elim
    (λ before.
    let is : nearest a b symbol ≡ a = omega arith in
    let here : gap t l s a b ≡ gap t l s a (a + 1)
    = omega (arith, gap_above_none t l s b (omega arith) last, gap_above_none t l s (a + 1) (omega arith) (omega arith)) in
    here ∙ ap (λ k. gap t l s k (k + 1)) (sym is))
    (λ from. ⊎_elim
    (λ inside.
    let is : nearest a b symbol ≡ symbol = omega arith in
    let here : gap t l s a b ≡ gap t l s symbol (symbol + 1)
    = omega (
      arith,
      gap_above_none t l s b inside last,
      gap_below_none t l s a from,
      gap_above_none t l s (symbol + 1) (omega arith) (omega arith),
      gap_below_none t l s symbol (omega arith),
    ) in
    here ∙ ap (λ k. gap t l s k (k + 1)) (sym is))
    (λ behind.
    let is : nearest a b symbol ≡ b - 1 = omega arith in
    let end : (b - 1) + 1 ≡ b = omega arith in
    let here : gap t l s a b ≡ gap t l s (b - 1) b
    = omega (arith, gap_below_none t l s a from, gap_below_none t l s (b - 1) (omega arith)) in
    here ∙ ap (λ k. gap t l s (b - 1) k) (sym end) ∙ ap (λ k. gap t l s k (k + 1)) (sym is))
    (cases_lt symbol b))
    (cases_lt symbol a)

-- the gap of one sum to a prefix that holds the symbol of another is at most the distance of the
-- two
pub gap_within : (t : Table) (l : ℕ) (q s : ℤ) (a b : ℕ) → a ≤ symbol_of t l s → symbol_of t l s < b
    → b ≤ 256
    → gap t l q a b ≤ unsigned_abs (s -ℤ q)
gap_within t l q s a b first end last =
    let below : gap_below t l q a ≤ excess (s -ℤ q) = below_is a first in
    let above : gap_above t l q b ≤ excess (q -ℤ s) = above_is (cases_lt b 256) in
    omega (arith, ints, below, above, excess_is (s -ℤ q), excess_is (q -ℤ s))
  where
    -- the gap below is at most how far the other sum lies above
    below_is : (a : ℕ) → a ≤ symbol_of t l s → gap_below t l q a ≤ excess (s -ℤ q)
    below_is zero first = omega arith
    below_is (suc a) first =
        omega (
          arith,
          gap_below_at t l q (suc a) (omega arith),
          excess_rises (scaled t l (suc a)) q s q (symbol_reached t l s (suc a) (omega arith) first)
              (omega (arith, ints)),
        )

    -- the gap above is at most how far the other sum lies below
    above_is : (b < 256) ⊎ (256 ≤ b) → gap_above t l q b ≤ excess (q -ℤ s)
    above_is (inl closed) =
        let beyond : s <ℤ scaled t l b = symbol_unreached t l s b end (omega arith) in
        omega (
          arith,
          gap_above_at t l q b (omega arith),
          excess_rises q (scaled t l b -ℤ pos 1) q s (omega (arith, ints))
              (omega (arith, ints, beyond)),
        )
    above_is (inr open_end) =
        let is : b ≡ 256 = omega arith in
        let none : gap_above t l q b ≡ 0 = ap (λ k. gap_above t l q k) is in
        omega (arith, none)

-- a sum within the range of its length has a gap of at most 65280 times the length
pub gap-le : (t : Table) (l : ℕ) (s : ℤ) (a b : ℕ) → 1 ≤ l → a < b → b ≤ 256
    → neg_ℤ (pos (32768 * l)) ≤ℤ s → s ≤ℤ pos (32767 * l) → gap t l s a b ≤ 65280 * l
gap-le t l s a b some before last low high =
    ⊎_elim
    (λ unreached.
    let none = gap_above_none t l s b (omega arith) last in
    let first : 1 ≤ a = omega arith in
    let top : scaled t l a ≤ℤ (pos l *ℤ pos 32512)
    = scaled_rises l (breakpoint t a) (pos 32512) (breakpoint_within t a first (omega arith)).1 in
    omega (arith, ints, none, gap_below_at t l s a first, excess_is (scaled t l a -ℤ s), top, low))
    (λ reached. above_is reached (gap_below_none t l s a reached) (cases_lt b 256))
    (cases_lt (symbol_of t l s) a)
  where
    -- the claim where there is no gap below
    above_is : a ≤ symbol_of t l s → gap_below t l s a ≡ 0 → (b < 256) ⊎ (256 ≤ b)
        → gap t l s a b ≤ 65280 * l
    above_is reached none (inl closed) =
        let bottom : (pos l *ℤ neg_ℤ (pos 32512)) ≤ℤ scaled t l b
        = scaled_rises l (neg_ℤ (pos 32512)) (breakpoint t b) (breakpoint_within t b (omega arith) (omega arith)).0 in
        omega (
          arith,
          ints,
          none,
          gap_above_at t l s b (omega arith),
          excess_is (s -ℤ (scaled t l b -ℤ pos 1)),
          bottom,
          high,
        )
    above_is reached none (inr open_end) =
        let is : b ≡ 256 = omega arith in
        let free : gap_above t l s b ≡ 0 = ap (λ k. gap_above t l s k) is in
        omega (arith, none, free)

-- the cost rises with the gap
pub cost_rises : (l g g' : ℕ) → 1 ≤ l → g ≤ g' → cost_of_gap l g ≤ cost_of_gap l g'
cost_rises l g g' some more =
    quotient_rises (g * g + (l - 1)) (g' * g' + (l - 1)) l some
    (omega (arith, mul-le g g g' g' more more))

-- a cost is at most any number whose multiple by the length reaches the square of the gap
pub cost-le : (l g e : ℕ) → 1 ≤ l → g * g ≤ l * e → cost_of_gap l g ≤ e
cost-le l g e some reached =
    let below : cost_of_gap l g < e + 1
    = div_below (g * g + (l - 1)) l (e + 1) some (omega arith) in
    omega (arith, below)

-- the cost of a gap of at most 65280 times the length
pub cost_bound : (l g : ℕ) → 1 ≤ l → g ≤ 65280 * l → cost_of_gap l g ≤ 4261478400 * l
cost_bound l g some small =
    cost-le l g (4261478400 * l) some
    (omega (arith, mul-le g g (65280 * l) (65280 * l) small small))

-- the cost of a part is that of its symbol nearest to the sum's
pub part_cost_nearest : (t : Table) (l : ℕ) (s : ℤ) (p : Part) → IsPart p
    → part_cost t l s p ≡ symbol_cost t l s (nearest_symbol p (symbol_of t l s))
part_cost_nearest t l s p is =
    let symbols = part_symbols p is in
    ap (λ g. cost_of_gap l g)
    (gap_nearest t l s (first_symbol p) (end_symbol p) symbols.0 symbols.1)
