-- Members put into the order of their numbers: what a sort gives (`sorted_is_by_number`), and a list that ascends already
-- (`permuted_by_number`).
use Rattle.std.proofs.Common.{◌≡◌, ℕ, ◌+◌, ◌≤◌, Bool, List, [], ◌∷◌, refl, sym, ap, ◌∙◌, inl, inr, arith}
use Rattle.std.specs.Prelude.{sum_by, filter, nat_lt, IsPermutation}
use Rattle.std.specs.List.Sorted.{IsNonDecreasingBy}
use Rattle.std.proofs.lemmas.Bool.{cond_both, ltb-true, ltb-false}
use Rattle.std.proofs.lemmas.Bool.Decides.{nat_tests}
use Rattle.std.proofs.lemmas.List.Sums.{sum_by-cons}
use Rattle.std.proofs.lemmas.List.Sorted.{IsPermutation-sym, Contains-permutation, sum_by-IsPermutation}
use Rattle.list_totals.specs.Totals.{total, times, one_if_same}
use Rattle.list_totals.specs.Standing.{In}
use Rattle.list_totals.proofs.Standing.{contains_in, in_contains}
use Rattle.list_totals.proofs.Totals.{total_map}
use Rattle.isax_word.specs.declared.member.Member.{Member}
use Rattle.subtree_build.specs.Members.{numbers_of, insert_by_number, by_number, NumbersDiffer}
use Rattle.subtree_build.proofs.Ascending.{AllFrom, IsOrdered, IsAscending, Among, from_less, same_members, ordered_from_sort}

-- a total over the members is that of the list with one of them put in front
total_insert : (f : Member → ℕ) (m : Member) (xs : List Member)
    → total f (insert_by_number m xs) ≡ f m + total f xs
total_insert f m [] = refl
total_insert f m (x ∷ xs) =
    cond_both (nat_lt x.number m.number) (x ∷ insert_by_number m xs) (m ∷ x ∷ xs)
    (λ (ys : List Member). total f ys ≡ f m + (f x + total f xs))
    (λ _. let h = total_insert f m xs in omega arith)
    (λ _. refl)

-- a total over the members does not depend on their order
pub total_by_number : (f : Member → ℕ) (xs : List Member) → total f (by_number xs) ≡ total f xs
total_by_number f [] = refl
total_by_number f (x ∷ xs) =
    let h = total_by_number f xs in
    let front = total_insert f x (by_number xs) in
    omega arith

-- std's sum over a list is the total
pub sum_by_is_total : {X : Type 0} (f : X → ℕ) (xs : List X) → sum_by f xs ≡ total f xs
sum_by_is_total f [] = refl
sum_by_is_total f (x ∷ xs) = sum_by-cons f x xs ∙ ap (λ n. f x + n) (sum_by_is_total f xs)

-- how often a number is that of a member, as a total over the members
pub times_numbers : (i : ℕ) (xs : List Member)
    → times i (numbers_of xs) ≡ total (λ (m : Member). one_if_same i m.number) xs
times_numbers i xs = total_map (one_if_same i) (λ (m : Member). m.number) xs

-- each number is as often that of a member, in whatever order they stand
pub times_by_number : (i : ℕ) (xs : List Member)
    → times i (numbers_of (by_number xs)) ≡ times i (numbers_of xs)
times_by_number i xs =
    times_numbers i (by_number xs)
    ∙ total_by_number (λ (m : Member). one_if_same i m.number) xs
    ∙ sym (times_numbers i xs)

-- an insert of a number from n on into such numbers
from_insert : (n : ℕ) (m : Member) (xs : List Member) → n ≤ m.number → AllFrom n xs
    → AllFrom n (insert_by_number m xs)
from_insert n m [] here all = (here, tt)
from_insert n m (x ∷ xs) here all =
    cond_both (nat_lt x.number m.number) (x ∷ insert_by_number m xs) (m ∷ x ∷ xs) (AllFrom n)
    (λ _. (all.0, from_insert n m xs here all.1))
    (λ _. (here, all))

-- an insert keeps a list ordered
ordered_insert : (m : Member) (xs : List Member) → IsOrdered xs → IsOrdered (insert_by_number m xs)
ordered_insert m [] up = (tt, tt)
ordered_insert m (x ∷ xs) up =
    cond_both (nat_lt x.number m.number) (x ∷ insert_by_number m xs) (m ∷ x ∷ xs) IsOrdered
    (λ less. (
      from_insert x.number m xs (omega (arith, ltb-true x.number m.number less)) up.0,
      ordered_insert m xs up.1,
    ))
    (λ not. let no_less = ltb-false x.number m.number not in
    ((no_less, from_less m.number x.number xs no_less up.0), up))

-- the members in the order of their numbers are ordered
pub ordered_by_number : (xs : List Member) → IsOrdered (by_number xs)
ordered_by_number [] = tt
ordered_by_number (x ∷ xs) = ordered_insert x (by_number xs) (ordered_by_number xs)

-- where a member's number stands but once, none behind it has the number
above_once : (x : Member) (xs : List Member) → AllFrom x.number xs
    → total (λ (m : Member). one_if_same x.number m.number) xs ≡ 0 → AllFrom (x.number + 1) xs
above_once x [] all none = tt
above_once x (y ∷ ys) all none =
    (apart x.number y.number all.0 (omega arith), above_once x ys all.1 (omega arith))
  where
    -- a number that is not below another and is another
    apart : (a b : ℕ) → a ≤ b → one_if_same a b ≡ 0 → a + 1 ≤ b
    apart a b no_less other = grind (arith, nat_tests)

-- a number counts as itself
counts_itself : (a : ℕ) → one_if_same a a ≡ 1
counts_itself a = grind (arith, nat_tests)

-- ordered members of different numbers ascend
pub ascending_from_ordered : (xs : List Member) → IsOrdered xs → NumbersDiffer xs → IsAscending xs
ascending_from_ordered [] up differ = tt
ascending_from_ordered (x ∷ xs) up differ = (
  above_once x xs up.0
      (omega (arith, differ x.number, counts_itself x.number, times_numbers x.number xs)),
  ascending_from_ordered xs up.1 (λ i. omega (arith, differ i)),
)

-- what stands in a list stands in it after an insert, and so does what is inserted
into_insert : (m x : Member) (xs : List Member) → In m (x ∷ xs) → In m (insert_by_number x xs)
into_insert m x [] h = h
into_insert m x (y ∷ ys) h =
    cond_both (nat_lt y.number x.number) (y ∷ insert_by_number x ys) (x ∷ y ∷ ys) (In m)
    (λ _. moved h (λ k. into_insert m x ys k))
    (λ _. h)
  where
    moved : In m (x ∷ y ∷ ys) → (In m (x ∷ ys) → In m (insert_by_number x ys))
        → In m (y ∷ insert_by_number x ys)
    moved (inl first) goes = inr (goes (inl first))
    moved (inr (inl second)) goes = inl second
    moved (inr (inr behind)) goes = inr (goes (inr behind))

-- what stands in a list after an insert stood in it, or is what was inserted
from_the_insert : (m x : Member) (xs : List Member) → In m (insert_by_number x xs) → In m (x ∷ xs)
from_the_insert m x [] h = h
from_the_insert m x (y ∷ ys) h =
    cond_both (nat_lt y.number x.number) (y ∷ insert_by_number x ys) (x ∷ y ∷ ys)
    (λ (zs : List Member). In m zs → In m (x ∷ y ∷ ys))
    (λ _ k. back k (λ j. from_the_insert m x ys j))
    (λ _ k. k)
    h
  where
    back : In m (y ∷ insert_by_number x ys) → (In m (insert_by_number x ys) → In m (x ∷ ys))
        → In m (x ∷ y ∷ ys)
    back (inl first) goes = inr (inl first)
    back (inr behind) goes = place (goes behind)
      where
        place : In m (x ∷ ys) → In m (x ∷ y ∷ ys)
        place (inl inserted) = inl inserted
        place (inr there) = inr (inr there)

-- the members in the order of their numbers are the same members
pub into_by_number : (xs : List Member) → Among xs (by_number xs)
into_by_number [] m h = h
into_by_number (x ∷ xs) m (inl first) = into_insert m x (by_number xs) (inl first)
into_by_number (x ∷ xs) m (inr behind) =
    into_insert m x (by_number xs) (inr (into_by_number xs m behind))

-- and no others
pub from_by_number : (xs : List Member) → Among (by_number xs) xs
from_by_number [] m h = h
from_by_number (x ∷ xs) m h = place (from_the_insert m x (by_number xs) h) (λ k. from_by_number xs m k)
  where
    place : In m (x ∷ by_number xs) → (In m (by_number xs) → In m xs) → In m (x ∷ xs)
    place (inl first) goes = inl first
    place (inr behind) goes = inr (goes behind)

-- a permutation of members of different numbers has different numbers
pub differ_permuted : (xs ys : List Member) → IsPermutation xs ys → NumbersDiffer xs → NumbersDiffer ys
differ_permuted xs ys moved differ i =
    let one : Member → ℕ = λ m. one_if_same i m.number in
    let same : total one ys ≡ total one xs
    = sym (sum_by_is_total one ys) ∙ sum_by-IsPermutation one xs ys moved ∙ sum_by_is_total one xs in
    omega (arith, differ i, same, times_numbers i xs, times_numbers i ys)

-- a permutation has the same members
among_permuted : (xs ys : List Member) → IsPermutation xs ys → Among xs ys
among_permuted xs ys moved m h =
    contains_in ys m (Contains-permutation xs ys m moved (in_contains xs m h))

-- members of different numbers in the order of their numbers strictly ascend
pub ascending_by_number : (xs : List Member) → NumbersDiffer xs → IsAscending (by_number xs)
ascending_by_number xs differ =
    ascending_from_ordered (by_number xs) (ordered_by_number xs)
    (λ i. omega (arith, differ i, times_by_number i xs))

-- what a sort by number gives is the members in the order of their numbers
pub sorted_is_by_number : (xs ys : List Member) → NumbersDiffer xs → IsPermutation xs ys
    → IsNonDecreasingBy (λ (m : Member). m.number) ys → ys ≡ by_number xs
sorted_is_by_number xs ys differ moved up =
    same_members ys (by_number xs)
    (ascending_from_ordered ys (ordered_from_sort ys up) (differ_permuted xs ys moved differ))
    (ascending_by_number xs differ)
    (λ m h. into_by_number xs m (among_permuted ys xs (IsPermutation-sym xs ys moved) m h))
    (λ m h. among_permuted xs ys moved m (from_by_number xs m h))

-- a permutation of members that ascend is put back into their order
pub permuted_by_number : (xs ys : List Member) → IsAscending xs → NumbersDiffer xs → IsPermutation xs ys
    → by_number ys ≡ xs
permuted_by_number xs ys up differ moved =
    same_members (by_number ys) xs (ascending_by_number ys (differ_permuted xs ys moved differ)) up
    (λ m h. among_permuted ys xs (IsPermutation-sym xs ys moved) m (from_by_number ys m h))
    (λ m h. into_by_number ys m (among_permuted xs ys moved m h))

-- a filter of members of different numbers has different numbers
pub differ_filtered : (p : Member → Bool) (xs : List Member) → NumbersDiffer xs
    → NumbersDiffer (filter p xs)
differ_filtered p xs differ i =
    omega (
      arith,
      differ i,
      times_numbers i xs,
      times_numbers i (filter p xs),
      fewer (λ (m : Member). one_if_same i m.number) xs,
    )
  where
    -- a total over a filter is at most that over all
    fewer : (f : Member → ℕ) (ys : List Member) → total f (filter p ys) ≤ total f ys
    fewer f [] = omega arith
    fewer f (y ∷ ys) =
        let h = fewer f ys in
        cond_both (p y) (y ∷ filter p ys) (filter p ys) (λ (zs : List Member). total f zs ≤ f y + total f ys)
        (λ _. omega arith) (λ _. omega arith)
