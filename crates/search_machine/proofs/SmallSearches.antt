-- The small searches fit.
use Rattle.std.proofs.Common.{List, Some, [], ap, arith, length, ltb, refl, subst, suc, sym, zero, ℕ, ⊎_elim, ◌+◌, ◌<◌, ◌∙◌, ◌∷◌, ◌≡◌, ◌≤◌}
use Rattle.std.proofs.lemmas.Bool.{cond-true, cond_both, lt-ltb, ltb-true}
use Rattle.std.proofs.lemmas.Bool.Decides.{nat_tests}
use Rattle.std.proofs.lemmas.Option.{none-some, same_Some}
use Rattle.std.specs.Prelude.{slice_get}
use Rattle.list_totals.specs.Totals.{once_below, one_if_same, times, total}
use Rattle.search_machine.specs.Examples.{six_bounds, six_distances, six_members, six_series, three_bounds, three_distances, three_members, three_series, two_bounds, two_members, two_series}
use Rattle.search_machine.specs.Ground.{Fits}
use Rattle.search_machine.proofs.Counts.{same_counts, times_cons}

-- each leaf below n is below some root child, none twice, and no other is
abbrev BelowOnce : List (List ℕ) → ℕ → Type 0
BelowOnce roots n = ((l : ℕ) → l < n → 0 < total (times l) roots) × ((l : ℕ) → total (times l) roots ≤ 1)
    × ((l : ℕ) → 0 < total (times l) roots → l < n)

-- so it is where the leaves below n are counted once each
placed : (roots : List (List ℕ)) (n : ℕ) → ((l : ℕ) → total (times l) roots ≡ once_below l n) → BelowOnce roots n
placed roots n once = (
  λ l low. let a = once l in let b : once_below l n ≡ 1 = grind (arith, nat_tests) in omega arith,
  λ l. let a = once l in let b : once_below l n ≤ 1 = grind (arith, nat_tests) in omega arith,
  λ l h. let a = once l in let b : 0 < once_below l n = omega arith in grind (arith, nat_tests),
)

-- a leaf of the two has its own number as its one member
two_member : (l s : ℕ) → 0 < times s (two_members l) → (l ≡ s) × (l < 2)
two_member zero s h = grind (arith, nat_tests)
two_member (suc zero) s h = grind (arith, nat_tests)
two_member (suc (suc l)) s h = absurd (omega arith)

-- once
two_once : (l s : ℕ) → times s (two_members l) ≤ 1
two_once zero s = grind (arith, nat_tests)
two_once (suc zero) s = grind (arith, nat_tests)
two_once (suc (suc l)) s = omega arith

-- each series has its leaf
two_home : (s : ℕ) → s < 2 → (l : ℕ) × (l < 2) × (0 < times s (two_members l))
two_home zero h = (0, omega arith, omega arith)
two_home (suc zero) h = (1, omega arith, omega arith)
two_home (suc (suc s)) h = absurd (omega arith)

-- no bound is above 1
two_bound : (l : ℕ) → two_bounds l ≤ 1
two_bound zero = omega arith
two_bound (suc l) = omega arith

-- the root children of the two
abbrev two_roots : List (List ℕ)
two_roots = (0 ∷ []) ∷ (1 ∷ []) ∷ []

-- each root child has a leaf
two_some : (c : ℕ) (ls : List ℕ) → slice_get two_roots c ≡ Some ls → 0 < length ls
two_some zero ls e = let a = ap length (same_Some (0 ∷ []) ls e) in omega arith
two_some (suc zero) ls e = let a = ap length (same_Some (1 ∷ []) ls e) in omega arith
two_some (suc (suc c)) ls e = absurd (none-some ls e)

-- how often a leaf is below the two root children
below_two : (l : ℕ) → total (times l) two_roots ≡ one_if_same l 0 + one_if_same l 1
below_two l = omega arith

-- each leaf of the two is below a root child once
two_placed : BelowOnce two_roots 2
two_placed = placed two_roots 2 (λ l. grind (arith, nat_tests))

-- the search of two series fits, whatever the number of workers
pub two_fits : (n : ℕ) → Fits (two_series (suc n))
two_fits n = record {
  some_rank = omega arith;
  some_queue = omega arith;
  some_worker = omega arith;
  distance_limit = λ s h. omega arith;
  member_real = λ l s low h. let a = two_member l s h in let b = a.0 in omega arith;
  has_home = two_home;
  one_home = λ l m s h k. (two_member l s h).0 ∙ sym (two_member m s k).0;
  home_once = two_once;
  bound_low = λ l s low h. two_bound l;
  below_root = two_placed.0;
  below_once = two_placed.1;
  below_real = two_placed.2;
  some_leaf = two_some;
  start_real = λ l e. let a = same_Some 1 l e in omega arith;
}

-- which series is the member of a leaf of the three
abbrev member_of : ℕ → ℕ
member_of zero = 0
member_of (suc zero) = 2
member_of (suc (suc l)) = 1

-- a leaf of the three has one member
three_member : (l s : ℕ) → 0 < times s (three_members l) → (member_of l ≡ s) × (l < 3)
three_member zero s h = grind (arith, nat_tests)
three_member (suc zero) s h = grind (arith, nat_tests)
three_member (suc (suc zero)) s h = grind (arith, nat_tests)
three_member (suc (suc (suc l))) s h = absurd (omega arith)

-- leaves with one member are one
three_apart : (l m : ℕ) → l < 3 → m < 3 → member_of l ≡ member_of m → l ≡ m
three_apart zero zero h k e = refl
three_apart zero (suc zero) h k e = absurd (omega arith)
three_apart zero (suc (suc m)) h k e = absurd (omega arith)
three_apart (suc zero) zero h k e = absurd (omega arith)
three_apart (suc zero) (suc zero) h k e = refl
three_apart (suc zero) (suc (suc m)) h k e = absurd (omega arith)
three_apart (suc (suc l)) zero h k e = absurd (omega arith)
three_apart (suc (suc l)) (suc zero) h k e = absurd (omega arith)
three_apart (suc (suc l)) (suc (suc m)) h k e = omega arith

-- each member once
three_once : (l s : ℕ) → times s (three_members l) ≤ 1
three_once zero s = grind (arith, nat_tests)
three_once (suc zero) s = grind (arith, nat_tests)
three_once (suc (suc zero)) s = grind (arith, nat_tests)
three_once (suc (suc (suc l))) s = omega arith

-- each series has its leaf
three_home : (s : ℕ) → s < 3 → (l : ℕ) × (l < 3) × (0 < times s (three_members l))
three_home zero h = (0, omega arith, omega arith)
three_home (suc zero) h = (2, omega arith, omega arith)
three_home (suc (suc zero)) h = (1, omega arith, omega arith)
three_home (suc (suc (suc s))) h = absurd (omega arith)

-- no distance is above 400000000
three_limit : (s : ℕ) → three_distances s ≤ 400000000
three_limit zero = omega arith
three_limit (suc zero) = omega arith
three_limit (suc (suc s)) = omega arith

-- a leaf's bound is at most the distance of its member
three_low : (l : ℕ) → l < 3 → three_bounds l ≤ three_distances (member_of l)
three_low zero h = omega arith
three_low (suc zero) h = omega arith
three_low (suc (suc l)) h = omega arith

-- the one root child of the three
abbrev three_roots : List (List ℕ)
three_roots = (0 ∷ 1 ∷ 2 ∷ []) ∷ []

-- each leaf of the three is below a root child once
three_placed : BelowOnce three_roots 3
three_placed = placed three_roots 3 (λ l. grind (arith, nat_tests))

-- it has leaves
three_some : (c : ℕ) (ls : List ℕ) → slice_get three_roots c ≡ Some ls → 0 < length ls
three_some zero ls e = let a = ap length (same_Some (0 ∷ 1 ∷ 2 ∷ []) ls e) in omega arith
three_some (suc c) ls e = absurd (none-some ls e)

-- the search of three series fits
pub three_fits : Fits three_series
three_fits = record {
  distance_limit = λ s h. omega (arith, three_limit s);
  some_rank = omega arith;
  some_queue = omega arith;
  some_worker = omega arith;
  member_real = λ l s low h. let a = three_member l s h in real_member l s a.1 a.0;
  has_home = three_home;
  one_home = λ l m s h k.
      let a = three_member l s h in
      let b = three_member m s k in
      three_apart l m a.1 b.1 (a.0 ∙ sym b.0);
  home_once = three_once;
  bound_low = λ l s low h.
      let a = three_member l s h in
      subst (λ (n : ℕ). three_bounds l ≤ three_distances n) a.0 (three_low l a.1);
  below_root = three_placed.0;
  below_once = three_placed.1;
  below_real = three_placed.2;
  some_leaf = three_some;
  start_real = λ l e. let a = same_Some 0 l e in omega arith;
}
  where
    real_member : (l s : ℕ) → l < 3 → member_of l ≡ s → s < 3
    real_member zero s h e = omega arith
    real_member (suc zero) s h e = omega arith
    real_member (suc (suc l)) s h e = omega arith

-- a leaf of the six has its own number as its one member
six_member : (l s : ℕ) → 0 < times s (six_members l) → (l ≡ s) × (l < 6)
six_member l s =
    cond_both (ltb l 6) (l ∷ []) [] (λ ms. 0 < times s ms → (l ≡ s) × (l < 6))
    (λ low h. ⊎_elim
    (λ (e : s ≡ l). (sym e, ltb-true l 6 low))
    (λ (t : 0 < times s []). absurd (omega arith))
    (times_cons s l [] h))
    (λ _ h. absurd (omega arith))

-- once
six_once : (l s : ℕ) → times s (six_members l) ≤ 1
six_once l s =
    cond_both (ltb l 6) (l ∷ []) [] (λ ms. times s ms ≤ 1)
    (λ _. grind (arith, nat_tests)) (λ _. omega arith)

-- each series has its leaf
six_home : (s : ℕ) → s < 6 → (l : ℕ) × (l < 6) × (0 < times s (six_members l))
six_home s low =
    let counts = same_counts s in
    let here = cond-true (ltb s 6) (s ∷ []) [] (lt-ltb s 6 low) in
    (s, low, subst (λ (ms : List ℕ). 0 < times s ms) (sym here) (omega arith))

-- a leaf's bound is at most the distance of its member, and no distance is above 12
six_low : (l : ℕ) → (six_bounds l ≤ six_distances l) × (six_distances l ≤ 12)
six_low zero = (omega arith, omega arith)
six_low (suc zero) = (omega arith, omega arith)
six_low (suc (suc zero)) = (omega arith, omega arith)
six_low (suc (suc (suc zero))) = (omega arith, omega arith)
six_low (suc (suc (suc (suc zero)))) = (omega arith, omega arith)
six_low (suc (suc (suc (suc (suc l))))) = (omega arith, omega arith)

-- the two root children of the six
abbrev six_roots : List (List ℕ)
six_roots = (0 ∷ 1 ∷ 2 ∷ []) ∷ (3 ∷ 4 ∷ 5 ∷ []) ∷ []

-- each leaf of the six is below a root child once
six_placed : BelowOnce six_roots 6
six_placed = placed six_roots 6 (λ l. grind (arith, nat_tests))

-- each has leaves
six_some : (c : ℕ) (ls : List ℕ) → slice_get six_roots c ≡ Some ls → 0 < length ls
six_some zero ls e = let a = ap length (same_Some (0 ∷ 1 ∷ 2 ∷ []) ls e) in omega arith
six_some (suc zero) ls e = let a = ap length (same_Some (3 ∷ 4 ∷ 5 ∷ []) ls e) in omega arith
six_some (suc (suc c)) ls e = absurd (none-some ls e)

-- the search of six series fits
pub six_fits : Fits six_series
six_fits = record {
  some_rank = omega arith;
  some_queue = omega arith;
  some_worker = omega arith;
  distance_limit = λ s h. let a = (six_low s).1 in omega arith;
  member_real = λ l s low h. let a = six_member l s h in let b = a.0 in omega arith;
  has_home = six_home;
  one_home = λ l m s h k. (six_member l s h).0 ∙ sym (six_member m s k).0;
  home_once = six_once;
  bound_low = λ l s low h.
      subst (λ (n : ℕ). six_bounds l ≤ six_distances n) (six_member l s h).0 (six_low l).0;
  below_root = six_placed.0;
  below_once = six_placed.1;
  below_real = six_placed.2;
  some_leaf = six_some;
  start_real = λ l e. let a = same_Some 0 l e in omega arith;
}
