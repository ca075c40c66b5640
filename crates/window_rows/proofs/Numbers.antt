-- The numbers of pairs: those of a collection are distinct, also in order and up to a rank.
use Rattle.std.proofs.Common.{◌≡◌, ℕ, zero, suc, ◌+◌, ◌<◌, List, [], ◌∷◌, true, false, take, sym, subst, ⊎_elim, arith, map}
use Rattle.std.specs.Prelude.{ℤ, nat_eq}
use Rattle.std.specs.List.{IsDistinct, AllByRecursion}
use Rattle.std.proofs.lemmas.Bool.{cases_Bool}
use Rattle.std.proofs.lemmas.Bool.Decides.{nat_tests}
use Rattle.series_core.specs.Pairs.{is_before, insert, ascending}
use Rattle.series_core.specs.Answer.{pairs_from}
use Rattle.series_core.specs.declared.pair.Pair.{Pair}
use Rattle.series_core.proofs.Sorting.{insert_front, insert_behind}

-- the numbers of the pairs, in their order
abbrev pub numbers : List Pair → List ℕ
numbers ps = map (λ p. p.number) ps

-- what holds of each number holds of each of the first
all_take : (P : ℕ → Type 0) (m : ℕ) (ps : List Pair) → AllByRecursion P (numbers ps)
    → AllByRecursion P (numbers (take m ps))
all_take P zero ps all = tt
all_take P (suc m) [] all = tt
all_take P (suc m) (p ∷ ps) all = (all.0, all_take P m ps all.1)

-- the first of distinct numbers are distinct
pub distinct_take : (m : ℕ) (ps : List Pair) → IsDistinct nat_eq (numbers ps)
    → IsDistinct nat_eq (numbers (take m ps))
unfolding IsDistinct
distinct_take zero ps distinct = tt
distinct_take (suc m) [] distinct = tt
distinct_take (suc m) (p ∷ ps) distinct =
    (all_take (λ n. nat_eq p.number n ≡ false) m ps distinct.0, distinct_take m ps distinct.1)

-- what holds of each number holds after a pair was put in, if it holds of its number
all_insert : (P : ℕ → Type 0) (p : Pair) (qs : List Pair) → P p.number
    → AllByRecursion P (numbers qs)
    → AllByRecursion P (numbers (insert p qs))
all_insert P p [] here all = (here, tt)
all_insert P p (q ∷ qs) here all =
    ⊎_elim
    (λ (behind : is_before q p ≡ true).
    subst (λ rs. AllByRecursion P (numbers rs)) (sym (insert_behind p q qs behind))
    (all.0, all_insert P p qs here all.1))
    (λ (front : is_before q p ≡ false).
    subst (λ rs. AllByRecursion P (numbers rs)) (sym (insert_front p q qs front)) (here, all))
    (cases_Bool (is_before q p))

all_ascending : (P : ℕ → Type 0) (ps : List Pair) → AllByRecursion P (numbers ps)
    → AllByRecursion P (numbers (ascending ps))
all_ascending P [] all = tt
all_ascending P (p ∷ ps) all = all_insert P p (ascending ps) all.0 (all_ascending P ps all.1)

turned : (a b : ℕ) → nat_eq a b ≡ false → nat_eq b a ≡ false
turned a b other = grind (arith, nat_tests)

-- a number that is not yet there leaves the numbers distinct
distinct_insert : (p : Pair) (qs : List Pair)
    → AllByRecursion (λ n. nat_eq p.number n ≡ false) (numbers qs)
    → IsDistinct nat_eq (numbers qs) → IsDistinct nat_eq (numbers (insert p qs))
unfolding IsDistinct
distinct_insert p [] others distinct = (tt, tt)
distinct_insert p (q ∷ qs) others distinct =
    ⊎_elim
    (λ (behind : is_before q p ≡ true).
    subst (λ rs. IsDistinct nat_eq (numbers rs)) (sym (insert_behind p q qs behind)) (
      all_insert (λ n. nat_eq q.number n ≡ false) p qs
          (turned p.number q.number others.0) distinct.0,
      distinct_insert p qs others.1 distinct.1,
    ))
    (λ (front : is_before q p ≡ false).
    subst (λ rs. IsDistinct nat_eq (numbers rs)) (sym (insert_front p q qs front))
    (others, distinct))
    (cases_Bool (is_before q p))

-- in order they stay distinct
pub distinct_ascending : (ps : List Pair) → IsDistinct nat_eq (numbers ps)
    → IsDistinct nat_eq (numbers (ascending ps))
unfolding IsDistinct
distinct_ascending [] distinct = tt
distinct_ascending (p ∷ ps) distinct =
    distinct_insert p (ascending ps) (all_ascending (λ n. nat_eq p.number n ≡ false) ps distinct.0)
    (distinct_ascending ps distinct.1)

-- later series have other numbers
later : (s t : ℕ) (rows : List (List ℤ)) (q : List ℤ) → s < t
    → AllByRecursion (λ n. nat_eq s n ≡ false) (numbers (pairs_from t rows q))
later s t [] q less = tt
later s t (xs ∷ rows) q less = (other s t less, later s (t + 1) rows q (omega arith))
  where
    other : (s t : ℕ) → s < t → nat_eq s t ≡ false
    other s t less = grind (arith, nat_tests)

-- each series has a number of its own
pub distinct_pairs : (s : ℕ) (rows : List (List ℤ)) (q : List ℤ)
    → IsDistinct nat_eq (numbers (pairs_from s rows q))
unfolding IsDistinct
distinct_pairs s [] q = tt
distinct_pairs s (xs ∷ rows) q = (
  later s (s + 1) rows q (omega arith),
  distinct_pairs
      (s + 1) rows q,
)
