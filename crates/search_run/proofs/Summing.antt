-- Sums over a list item by item, and the summary of the answers to one more query.
use Rattle.std.proofs.Common.{◌≡◌, ℕ, suc, ◌+◌, ◌*◌, ◌≤◌, ◌<◌, List, length, map, take, get_or, sym, ap, ◌∙◌, arith}
use Rattle.std.specs.Prelude.{ℤ}
use Rattle.std.proofs.lemmas.List.{take_more}
use Rattle.std.proofs.Math.Nat.{suc-mul}
use Rattle.list_totals.specs.Totals.{total}
use Rattle.list_totals.proofs.Totals.{total_push, total_map}
use Rattle.series_core.specs.declared.pair.Pair.{Pair}
use Rattle.search_run.specs.Trials.{summed}
use Rattle.search_run.specs.declared.output.summary.Summary.{Summary}

-- one more item adds its part
pub total_more : {X : Type 0} (f : X → ℕ) (xs : List X) (i : ℕ) (d : X) → i < length xs
    → total f (take (i + 1) xs) ≡ total f (take i xs) + f (get_or xs i d)
total_more f xs i d h = ap (total f) (take_more xs i d h) ∙ total_push f (take i xs) (get_or xs i d)

-- one more item adds its part to a sum that began elsewhere
pub sum_next : {X : Type 0} (f : X → ℕ) (xs : List X) (i first before part next : ℕ) (d : X) → i < length xs
    → before ≡ first + total f (take i xs) → part ≡ f (get_or xs i d) → next ≡ before + part
    → next ≡ first + total f (take (i + 1) xs)
sum_next f xs i first before part next d h here is grown = omega (arith, here, is, grown, total_more f xs i d h)

-- one more item of at most m keeps a sum within i items of m
pub sum_within : (i m first before part next : ℕ) → before ≤ first + i * m → part ≤ m → next ≡ before + part
    → next ≤ first + (i + 1) * m
sum_within i m first before part next here small grown =
    let more : (i + 1) * m ≡ i * m + m = omega (arith, suc-mul i m, ap (λ n. n * m) (suc_is i)) in omega arith
  where
    suc_is : (n : ℕ) → suc n ≡ n + 1
    suc_is n = omega arith

-- a total over what was found for one more query
total_found : (f : List Pair → ℕ) (ask : List ℤ → List Pair) (i : ℕ) (qs : List (List ℤ)) (d : List ℤ) → i < length qs
    → total f (map ask (take (i + 1) qs)) ≡ total f (map ask (take i qs)) + f (ask (get_or qs i d))
total_found f ask i qs d h =
    total_map f ask (take (i + 1) qs)
    ∙ total_more (λ q. f (ask q)) qs i d h
    ∙ ap (λ n. n + f (ask (get_or qs i d))) (sym (total_map f ask (take i qs)))

-- two summaries of the same numbers are the same
same_summary : (s t : Summary) → s.answers ≡ t.answers → s.distances ≡ t.distances → s.numbers ≡ t.numbers → s ≡ t
same_summary s t answers distances numbers =
    ap (λ n. record { answers = n; distances = s.distances; numbers = s.numbers }) answers
    ∙ ap (λ n. record { answers = t.answers; distances = n; numbers = s.numbers }) distances
    ∙ ap (λ n. record { answers = t.answers; distances = t.distances; numbers = n }) numbers

-- the summary after what was found for one more query
pub summed_next : (ask : List ℤ → List Pair) (i : ℕ) (qs : List (List ℤ)) (d : List ℤ) (before next : Summary)
    (pairs : List Pair) → i < length qs → pairs ≡ ask (get_or qs i d) → before ≡ summed (map ask (take i qs))
    → next.answers ≡ before.answers + length pairs
    → next.distances ≡ before.distances + total (λ p. p.distance) pairs
    → next.numbers ≡ before.numbers + total (λ p. p.number) pairs
    → next ≡ summed (map ask (take (i + 1) qs))
summed_next ask i qs d before next pairs h found here answers distances numbers =
    let grow : (f : List Pair → ℕ) (old new : ℕ) → old ≡ total f (map ask (take i qs)) → new ≡ old + f pairs
    → new ≡ total f (map ask (take (i + 1) qs)) =
    λ f old new was is. omega (arith, was, is, ap f found, total_found f ask i qs d h) in
    same_summary next (summed (map ask (take (i + 1) qs)))
    (grow (λ ps. length ps) before.answers next.answers (ap (λ (s : Summary). s.answers) here) answers)
    (grow (total (λ p. p.distance)) before.distances next.distances (ap (λ (s : Summary). s.distances) here) distances)
    (grow (total (λ p. p.number)) before.numbers next.numbers (ap (λ (s : Summary). s.numbers) here) numbers)
