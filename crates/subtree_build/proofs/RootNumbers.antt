-- The root numbers of a collection: they ascend (`roots_ascend`), are below 2 to the number of segments
-- (`roots_fit`), and each member's stands once among them (`root_once`).
use Rattle.std.proofs.Common.{◌≡◌, ℕ, zero, suc, ◌+◌, ◌<◌, ◌≤◌, Bool, true, List, [], ◌∷◌, length, get_or, refl, sym, ap, ◌∙◌, subst, ⊎_elim, arith, All}
use Rattle.std.specs.Prelude.{filter}
use Rattle.std.specs.List.{range_with_len, list_any}
use Rattle.std.specs.List.Sorted.{IsStrictlyIncreasing}
use Rattle.std.proofs.lemmas.Bool.{cond_both, cond-true, cases_eq, or_left, or_right, eq-eqb}
use Rattle.std.proofs.lemmas.Bool.Decides.{nat_tests}
use Rattle.std.proofs.lemmas.List.Sums.{length-filter, count_by-le-length}
use Rattle.std.proofs.lemmas.List.FromFn.{length-range_with_len}
use Rattle.std.proofs.lemmas.List.Elements.{All-nil, All-cons, All-filter}
use Rattle.list_totals.specs.Totals.{times, one_if_same}
use Rattle.isax_word.specs.FullWord.{root_number}
use Rattle.isax_word.specs.declared.member.Member.{Member}
use Rattle.summary_phase.specs.Roots.{has_root}
use Rattle.subtree_build.proofs.Partition.{times_root}

-- each number is from a on, and greater than those before it
abbrev pub AscendFrom : ℕ → List ℕ → Type 0
AscendFrom a [] = Unit {0}
AscendFrom a (x ∷ xs) = (a ≤ x) × AscendFrom (x + 1) xs

-- numbers that ascend from some number ascend from a lesser one
ascend_less : (a b : ℕ) (xs : List ℕ) → a ≤ b → AscendFrom b xs → AscendFrom a xs
ascend_less a b [] less up = tt
ascend_less a b (x ∷ xs) less up = (omega (arith, up.0), up.1)

-- those of the numbers from a on that pass a test ascend
pub ascend_filter : (p : ℕ → Bool) (a n : ℕ) → AscendFrom a (filter p (range_with_len a n))
ascend_filter p a zero = tt
ascend_filter p a (suc n) =
    let rest = ascend_filter p (a + 1) n in
    cond_both (p a) (a ∷ filter p (range_with_len (a + 1) n)) (filter p (range_with_len (a + 1) n))
    (AscendFrom a) (λ _. (omega arith, rest))
    (λ _. ascend_less a (a + 1) (filter p (range_with_len (a + 1) n)) (omega arith) rest)

-- numbers that ascend are strictly increasing
increasing_from_ascend : (a : ℕ) (xs : List ℕ) → AscendFrom a xs → (k : ℕ) → k + 1 < length xs
    → get_or xs k 0 < get_or xs (suc k) 0
increasing_from_ascend a [] up k inside = absurd (omega arith)
increasing_from_ascend a (x ∷ []) up k inside = absurd (omega arith)
increasing_from_ascend a (x ∷ y ∷ xs) up zero inside = omega (arith, up.1.0)
increasing_from_ascend a (x ∷ y ∷ xs) up (suc k) inside =
    increasing_from_ascend (x + 1) (y ∷ xs) up.1 k (omega arith)

-- the same, as the library says it
pub increasing : (a : ℕ) (xs : List ℕ) → AscendFrom a xs → IsStrictlyIncreasing xs
increasing a xs up k inside =
    let P : ℕ → Type 0 = λ j. get_or xs k 0 < get_or xs j 0 in
    let next : suc k ≡ k + 1 = omega arith in
    subst P next (increasing_from_ascend a xs up k inside)

-- the numbers from a on are below a and how many there are
all_in_range : (a n end : ℕ) → a + n ≤ end → All (λ x. x < end) (range_with_len a n)
all_in_range a zero end below = All-nil _
all_in_range a (suc n) end below =
    All-cons (λ x. x < end) a (range_with_len (a + 1) n) (omega arith)
    (all_in_range (a + 1) n end (omega arith))

-- some of the numbers from 0 on are below their count
pub below_count : (p : ℕ → Bool) (n : ℕ) → All (λ x. x < n) (filter p (range_with_len 0 n))
below_count p n = All-filter p (λ x. x < n) (range_with_len 0 n) (all_in_range 0 n n (omega arith))

-- and no more
pub no_more : (p : ℕ → Bool) (n : ℕ) → length (filter p (range_with_len 0 n)) ≤ n
no_more p n =
    omega (
      arith,
      length-filter p (range_with_len 0 n),
      count_by-le-length p (range_with_len 0 n),
      length-range_with_len 0 n,
    )

-- a number below those of an ascending list does not stand in it
not_there : (x a : ℕ) (xs : List ℕ) → x < a → AscendFrom a xs → times x xs ≡ 0
not_there x a [] below up = refl
not_there x a (y ∷ ys) below up =
    let other : one_if_same x y ≡ 0 = apart x y (omega (arith, up.0)) in
    omega (arith, other, not_there x (y + 1) ys (omega (arith, up.0)) up.1)
  where
    apart : (a b : ℕ) → a < b → one_if_same a b ≡ 0
    apart a b less = grind (arith, nat_tests)

-- a number of the range that passes the test stands once among those that do
pub once_filtered : (p : ℕ → Bool) (x a n : ℕ) → a ≤ x → x < a + n → p x ≡ true
    → times x (filter p (range_with_len a n)) ≡ 1
once_filtered p x a zero low high passes = absurd (omega arith)
once_filtered p x a (suc n) low high passes =
    let rest = filter p (range_with_len (a + 1) n) in
    ⊎_elim
    (λ same. ap (times x) (cond-true (p a) (a ∷ rest) rest (ap p same ∙ passes))
    ∙ first x a same (not_there x (a + 1) rest (omega arith) (ascend_filter p (a + 1) n)))
    (λ other.
    let later = once_filtered p x (a + 1) n (omega (arith, other)) (omega arith) passes in
    cond_both (p a) (a ∷ rest) rest (λ (xs : List ℕ). times x xs ≡ 1)
    (λ _. omega (arith, later, apart x a other)) (λ _. later))
    (cases_eq a x)
  where
    first : (x a : ℕ) → a ≡ x → times x (filter p (range_with_len (a + 1) n)) ≡ 0
        → one_if_same x a + times x (filter p (range_with_len (a + 1) n)) ≡ 1
    first x a same none = let one : one_if_same x a ≡ 1 = itself x a (sym same) in omega (arith, one, none)
      where
        itself : (x y : ℕ) → x ≡ y → one_if_same x y ≡ 1
        itself x y e = grind (arith, nat_tests)

    apart : (x a : ℕ) → (a ≡ x → ⊥) → one_if_same x a ≡ 0
    apart x a other = grind (arith, nat_tests)

-- a member of a list has its root number
any_has : (ms : List Member) → All (λ m. list_any (has_root (root_number m.full)) ms ≡ true) ms
any_has ms = each ms ms (λ r h. h)
  where
    -- what some of the later members have, some of all have
    each : (all later : List Member)
        → ((r : ℕ) → list_any (has_root r) later ≡ true → list_any (has_root r) all ≡ true)
        → All (λ m. list_any (has_root (root_number m.full)) all ≡ true) later
    each all [] goes = All-nil _
    each all (m ∷ later) goes =
        All-cons (λ x. list_any (has_root (root_number x.full)) all ≡ true) m later
        (goes (root_number m.full)
        (or_left (has_root (root_number m.full) m) (list_any (has_root (root_number m.full)) later)
        (eq-eqb (root_number m.full) (root_number m.full) refl)))
        (each all later (λ r h. goes r
        (or_right (has_root r m) (list_any (has_root r) later) h)))

-- each member's root number stands once among those that some member has
pub root_once : (ms : List Member) (n : ℕ) → All (λ m. root_number m.full < n) ms
    → All (λ m. times_root (filter (λ r. list_any (has_root r) ms) (range_with_len 0 n)) m ≡ 1) ms
root_once ms n fit k d inside =
    let m = get_or ms k d in
    once_filtered (λ r. list_any (has_root r) ms) (root_number m.full) 0 n (omega arith)
    (omega (arith, fit k d inside)) (any_has ms k d inside)
