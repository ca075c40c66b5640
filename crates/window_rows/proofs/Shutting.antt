-- How many numbers the chosen pairs shut out: each its own and those nearer than apart, on both
-- sides.
use Rattle.std.proofs.Common.{◌≡◌, ℕ, zero, suc, ◌+◌, ◌-◌, ◌*◌, ◌<◌, ◌≤◌, List, [], ◌∷◌, length, Bool, true, false, None, Some, refl, sym, ap, ◌∙◌, ⊎_elim, arith, map}
use Rattle.std.specs.Prelude.{◌&&◌, not, nat_lt, nat_le, nat_eq, find}
use Rattle.std.specs.List.{list_all, IsDistinct, AllByRecursion}
use Rattle.std.proofs.lemmas.Bool.{cases_Bool, cond-true, cond-false}
use Rattle.std.proofs.lemmas.Bool.Decides.{nat_tests}
use Rattle.std.proofs.lemmas.Option.{none-some}
use Rattle.std.proofs.Math.Nat.{suc-mul}
use Rattle.list_totals.specs.Totals.{total}
use Rattle.series_core.proofs.Tallies.{one_if, one_if_true, one_if_false}
use Rattle.window_rows.specs.Choice.{is_apart, is_apart_from}
use Rattle.series_core.specs.declared.pair.Pair.{Pair}

-- how many of the numbers pass the test
abbrev tally : (ℕ → Bool) → List ℕ → ℕ
tally test ns = total (λ n. one_if (test n)) ns

-- what passes a test passes one of two others
tally_two : (p q r : ℕ → Bool) → ((n : ℕ) → one_if (p n) ≤ one_if (q n) + one_if (r n))
    → (ns : List ℕ) → tally p ns ≤ tally q ns + tally r ns
tally_two p q r each [] = omega arith
tally_two p q r each (n ∷ ns) = omega (arith, each n, tally_two p q r each ns)

-- nothing passes
tally_none : (p : ℕ → Bool) → ((n : ℕ) → p n ≡ false) → (ns : List ℕ) → tally p ns ≡ 0
tally_none p none [] = refl
tally_none p none (n ∷ ns) = omega (arith, one_if_false (p n) (none n), tally_none p none ns)

module _ (far : ℕ) where
  -- numbers other than x are not v, where x is
  none_equal : (v x : ℕ) (ns : List ℕ) → AllByRecursion (λ y. nat_eq x y ≡ false) ns → x + far ≡ v
      → tally (λ n. nat_eq (n + far) v) ns ≡ 0
  none_equal v x [] others same = refl
  none_equal v x (n ∷ ns) others same =
      omega (
        arith,
        one_if_false (nat_eq (n + far) v)
            (other v x n others.0 same),
        none_equal v x ns others.1 same,
      )
    where
      other : (v x n : ℕ) → nat_eq x n ≡ false → x + far ≡ v → nat_eq (n + far) v ≡ false
      other v x n apart same = grind (arith, nat_tests)

  -- of distinct numbers at most one is v
  one_equal : (v : ℕ) (ns : List ℕ) → IsDistinct nat_eq ns → tally (λ n. nat_eq (n + far) v) ns ≤ 1
  unfolding IsDistinct
  one_equal v [] distinct = omega arith
  one_equal v (n ∷ ns) distinct =
      ⊎_elim
      (λ (same : nat_eq (n + far) v ≡ true).
      omega (
        arith,
        one_if_true (nat_eq (n + far) v) same,
        none_equal v n ns distinct.0 (equal
            (n + far) v same),
      ))
      (λ (other : nat_eq (n + far) v ≡ false).
      omega (arith, one_if_false (nat_eq (n + far) v) other, one_equal v ns distinct.1))
      (cases_Bool (nat_eq (n + far) v))
    where
      equal : (a b : ℕ) → nat_eq a b ≡ true → a ≡ b
      equal a b same = grind (arith, nat_tests)

  -- the number, moved up, is one of the w that follow low
  abbrev is_within : ℕ → ℕ → ℕ → Bool
  is_within low w n = nat_lt low (n + far) && nat_le (n + far) (low + w)

  -- of distinct numbers at most w are among w that follow one another
  within_most : (low w : ℕ) (ns : List ℕ) → IsDistinct nat_eq ns → tally (is_within low w) ns ≤ w
  within_most low zero ns distinct =
      omega (arith, tally_none (is_within low 0) (λ n. empty (n + far)) ns)
    where
      empty : (m : ℕ) → (nat_lt low m && nat_le m (low + 0)) ≡ false
      empty m = grind (arith, nat_tests)
  within_most low (suc w) ns distinct =
      omega (
        arith,
        within_most low w ns distinct,
        one_equal (low + suc w) ns distinct,
        tally_two (is_within low (suc w)) (is_within low w) (λ n. nat_eq (n + far) (low + suc w))
            (λ n. one_more (n + far)) ns,
      )
    where
      one_more : (m : ℕ) → one_if (nat_lt low m && nat_le m (low + suc w))
          ≤ one_if (nat_lt low m && nat_le m (low + w)) + one_if (nat_eq m (low + suc w))
      one_more m = grind (arith, nat_tests)

  -- a number that is not apart from c is one of 2 * far - 1
  near_most : (c : ℕ) (ns : List ℕ) → 0 < far → IsDistinct nat_eq ns
      → tally (λ n. not (is_apart far n c)) ns ≤ 2 * far - 1
  near_most c ns some distinct =
      omega (
        arith,
        within_most c (2 * far - 1) ns distinct,
        tally_two (λ n. not (is_apart far n c)) (is_within c (2 * far - 1)) (λ n. false) near ns,
        tally_none (λ n. false) (λ n. refl) ns,
      )
    where
      near : (n : ℕ) → one_if (not (nat_le far ((n - c) + (c - n))))
          ≤ one_if (nat_lt c (n + far) && nat_le (n + far) (c + (2 * far - 1))) + 0
      near n = grind (arith, nat_tests)

  -- the number is not apart from all these pairs
  abbrev is_shut : List Pair → ℕ → Bool
  is_shut chosen n = not (list_all (λ c. is_apart far n c.number) chosen)

  both_or_one : (a b : Bool) → one_if (not (a && b)) ≤ one_if (not a) + one_if (not b)
  both_or_one true true = omega arith
  both_or_one true false = omega arith
  both_or_one false true = omega arith
  both_or_one false false = omega arith

  shut_most : (chosen : List Pair) (ns : List ℕ) → 0 < far → IsDistinct nat_eq ns
      → tally (is_shut chosen) ns ≤ length chosen * (2 * far - 1)
  shut_most [] ns some distinct = omega (arith, tally_none (is_shut []) (λ n. refl) ns)
  shut_most (c ∷ chosen) ns some distinct =
      omega (
        arith,
        near_most c.number ns some distinct,
        shut_most chosen ns some distinct,
        suc-mul (length chosen) (2 * far - 1),
        tally_two (is_shut (c ∷ chosen)) (λ n. not (is_apart far n c.number)) (is_shut chosen)
            (λ n. both_or_one (is_apart far n c.number) (list_all
            (λ d. is_apart far n d.number) chosen)) ns,
      )

  -- where no pair of the list is apart from the chosen ones, all numbers are shut out
  all_shut : (chosen pairs : List Pair) → find (is_apart_from far chosen) pairs ≡ None
      → tally (is_shut chosen) (map (λ p. p.number) pairs) ≡ length pairs
  all_shut chosen [] none = refl
  all_shut chosen (p ∷ pairs) none =
      ⊎_elim
      (λ (ok : is_apart_from far chosen p ≡ true).
      absurd (none-some p (sym none ∙ cond-true (is_apart_from far chosen p) (Some p) (find
      (is_apart_from far chosen) pairs) ok)))
      (λ (bad : is_apart_from far chosen p ≡ false).
      let one : one_if (is_shut chosen p.number) ≡ 1 = ap (λ b. one_if (not b)) bad in
      let rest = all_shut chosen pairs
      (sym (cond-false (is_apart_from far chosen p) (Some p) (find
      (is_apart_from far chosen) pairs) bad) ∙ none) in
      omega (arith, one, rest))
      (cases_Bool (is_apart_from far chosen p))

  -- then there are at most 2 * far - 1 pairs for each chosen one
  pub few_left : (chosen pairs : List Pair) → 0 < far
      → IsDistinct nat_eq (map (λ p. p.number) pairs)
      → find (is_apart_from far chosen) pairs ≡ None → length pairs ≤ length chosen * (2 * far - 1)
  few_left chosen pairs some distinct none =
      omega (
        arith,
        all_shut chosen pairs none,
        shut_most chosen (map
            (λ p. p.number) pairs) some distinct,
      )
