-- Numbers in a row: one more at the end (`range_push`, `range_next`, `below_next`), and none behind it (`none_at_end`, `none_below`).
use Rattle.std.proofs.Common.{◌≡◌, ℕ, zero, suc, ◌+◌, ◌-◌, ◌<◌, ◌≤◌, List, [], ◌∷◌, ◌++◌, ap, ◌∙◌, ⊎_elim, arith}
use Rattle.std.specs.List.{range_with_len}
use Rattle.list_totals.specs.Totals.{once_below, times}
use Rattle.list_totals.proofs.Totals.{once_below_low}
use Rattle.search_task.proofs.BelowRoots.{times_range}
use Rattle.std.proofs.lemmas.Bool.{cases_lt}

-- one more number at the end
pub range_push : (a n : ℕ) → range_with_len a (suc n) ≡ range_with_len a n ++ (a + n) ∷ []
range_push a zero = let same : a ≡ a + 0 = omega arith in ap (λ (m : ℕ). m ∷ []) same
range_push a (suc n) =
    let same : a + 1 + n ≡ a + suc n = omega arith in
    ap (λ (ms : List ℕ). a ∷ ms) (range_push (a + 1) n)
    ∙ ap (λ (m : ℕ). a ∷ (range_with_len (a + 1) n ++ m ∷ [])) same

-- the numbers from one up to but not including the next but one
pub range_next : (a i : ℕ) → a ≤ i → range_with_len a (i + 1 - a) ≡ range_with_len a (i - a) ++ i ∷ []
range_next a i low =
    let n : i + 1 - a ≡ suc (i - a) = omega arith in
    let last : a + (i - a) ≡ i = omega arith in
    ap (range_with_len a) n ∙ range_push a (i - a)
    ∙ ap (λ (m : ℕ). range_with_len a (i - a) ++ m ∷ []) last

-- what stands there is below the end
pub none_at_end : (a i : ℕ) → a ≤ i → times i (range_with_len a (i - a)) ≡ 0
none_at_end a i low =
    let counts = times_range i a (i - a) low in
    let end : a + (i - a) ≡ i = omega arith in
    let below : once_below i (a + (i - a)) ≡ once_below i i = ap (once_below i) end in
    ⊎_elim
    (λ (h : 0 < once_below i i). let no = once_below_low i i h in absurd (omega arith))
    (λ (h : once_below i i ≤ 0). omega arith)
    (cases_lt 0 (once_below i i))

-- the numbers below the next one
pub below_next : (n : ℕ) → range_with_len 0 (n + 1) ≡ range_with_len 0 n ++ n ∷ []
below_next n =
    let one : n + 1 ≡ suc n = omega arith in
    let same : 0 + n ≡ n = omega arith in
    ap (range_with_len 0) one ∙ range_push 0 n ∙ ap (λ (m : ℕ). range_with_len 0 n ++ m ∷ []) same

-- a number is not below itself
pub none_below : (n : ℕ) → times n (range_with_len 0 n) ≡ 0
none_below n =
    let same : n ≡ n - 0 = omega arith in
    ap (λ (m : ℕ). times n (range_with_len 0 m)) same ∙ none_at_end 0 n (omega arith)
