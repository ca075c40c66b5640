-- Sorted entries whose leaves differ ascend, and so does each row of them.
use Rattle.std.proofs.Common.{◌≡◌, ◌≢◌, ◌⊎◌, ℕ, zero, suc, ◌+◌, ◌<◌, ◌≤◌, List, length, get_or, is_lt, nat_cmp, true, false, IsPermutation, refl, sym, ◌∙◌, subst, ⊎_elim, arith}
use Rattle.std.specs.Ordering.{ordering_then}
use Rattle.std.specs.Prelude.{nat_eq}
use Rattle.std.specs.List.{sum_by}
use Rattle.std.proofs.lemmas.Bool.Decides.{nat_tests}
use Rattle.std.proofs.lemmas.List.Kept.{AllPairs-filter}
use Rattle.std.proofs.lemmas.List.Recursion.{is_sum_by}
use Rattle.std.proofs.lemmas.List.Sorted.{Contains-permutation, IsPermutation-sym, sum_by-IsPermutation}
use Rattle.std.proofs.Math.Numerals.{add-one}
use Rattle.series_core.proofs.EntryOrder.{before_all}
use Rattle.series_core.specs.declared.queue_words.Entry.{Entry}
use Rattle.list_totals.specs.Totals.{total, one_if_same}
use Rattle.list_totals.proofs.Standing.{contains_in, in_contains}
use Rattle.list_totals.proofs.Places.{total_two}
use Rattle.series_core.specs.EntryOrder.{Before, IsAscending}
use Rattle.sealed_runs.specs.Entries.{LeavesDiffer, IsRun}
use Rattle.sealed_runs.specs.Sealing.{is_of, row_of}
use Rattle.sealed_runs.proofs.Members.{contains_filter, filter_contains}

-- of two entries whose leaves differ the first comes before the second where the second is not less
ordered : (a b l m : ℕ) → is_lt (ordering_then (nat_cmp b a) (nat_cmp m l)) ≡ false → l ≢ m
    → Before (record { bound = a; leaf = l }) (record { bound = b; leaf = m })
ordered a b l m not_less differ = grind (arith, nat_tests)

-- each entry of a list is not above the next
abbrev pub InOrder : List Entry → Type 0
InOrder es = (k : ℕ) (d : Entry) → 0 ≤ k → k + 1 < length es
    → is_lt (ordering_then (nat_cmp (get_or es (k + 1) d).bound (get_or es k d).bound)
    (nat_cmp (get_or es (k + 1) d).leaf (get_or es k d).leaf)) ≡ false

-- two leaves of a list are not the same
differ_at : (es : List Entry) → LeavesDiffer es → (i j : ℕ) (d : Entry) → i < j → j < length es
    → (get_or es i d).leaf ≢ (get_or es j d).leaf
differ_at es once i j d less in_list same =
    let leaf = (get_or es i d).leaf in
    let two = total_two (λ (e : Entry). one_if_same leaf e.leaf) es i j d less in_list in
    let most = once leaf in
    let mine = itself leaf (get_or es i d).leaf refl in
    let theirs = itself leaf (get_or es j d).leaf same in
    absurd (omega arith)
  where
    itself : (x y : ℕ) → x ≡ y → one_if_same x y ≡ 1
    itself x y e = grind (arith, nat_tests)

module _ (es : List Entry) (in_order : InOrder es) (once : LeavesDiffer es) where
  -- an entry comes before the next
  step : (k : ℕ) (d : Entry) → suc k < length es → Before (get_or es k d) (get_or es (suc k) d)
  step k d in_list =
      let next = ordered (get_or es k d).bound (get_or es (k + 1) d).bound (get_or es k d).leaf
      (get_or es (k + 1) d).leaf
      (in_order k d (omega arith) (omega arith))
      (differ_at es once k (k + 1) d (omega arith) (omega arith)) in
      subst (λ (n : ℕ). Before (get_or es k d) (get_or es n d)) (add-one k) next

  -- an entry comes before all later ones
  rises : (j i : ℕ) (d : Entry) → i < j → j < length es → Before (get_or es i d) (get_or es j d)
  rises zero i d less in_list = absurd (omega arith)
  rises (suc j) i d less in_list = ⊎_elim
      (λ (before : i < j).
      before_all (get_or es i d) (get_or es j d) (get_or es (suc j) d)
      (rises j i d before (omega arith)) (step j d in_list))
      (λ (same : i ≡ j). subst (λ (k : ℕ). Before (get_or es k d) (get_or es (suc j) d)) (sym same)
      (step j d in_list))
      (less_or_same i j (omega arith))
    where
      less_or_same : (i j : ℕ) → i ≤ j → (i < j) ⊎ (i ≡ j)
      less_or_same i j most = grind arith

  -- sorted entries whose leaves differ ascend
  pub sorted_ascend : IsAscending es
  sorted_ascend i j d less in_list = rises j i d less in_list

-- a total by recursion is std's sum
total_is_sum : (f : Entry → ℕ) (es : List Entry) → total f es ≡ sum_by f es
total_is_sum f es = is_sum_by (total f) f refl (λ x xs. refl) es

-- leaves differ in any order
pub differ_sorted : (es sorted : List Entry) → IsPermutation es sorted → LeavesDiffer es
    → LeavesDiffer sorted
differ_sorted es sorted moved once leaf =
    let f = λ (e : Entry). one_if_same leaf e.leaf in
    let same = total_is_sum f sorted ∙ sum_by-IsPermutation f es sorted moved
    ∙ sym (total_is_sum f es) in
    let most = once leaf in
    omega arith

-- the test of a queue says what it is
of_queue : (a m : ℕ) → nat_eq a m ≡ true → a ≡ m
of_queue a m e = grind (arith, nat_tests)

-- what is of a queue passes its test
queue_of : (a m : ℕ) → a ≡ m → nat_eq a m ≡ true
queue_of a m e = grind (arith, nat_tests)

-- a row of sorted entries is the run of its queue
pub row_is_run : (es sorted : List Entry) (queues m : ℕ) → IsPermutation es sorted
    → IsAscending sorted
    → IsRun es queues m (row_of queues sorted m)
row_is_run es sorted queues m moved ascending = record {
  ascending = AllPairs-filter Before (is_of queues m) sorted ascending;
  exactly = λ e. (
    λ there.
        let found = filter_contains (is_of queues m) sorted e (in_contains row e there) in
        let back = IsPermutation-sym es sorted moved in (
          contains_in es e (Contains-permutation sorted es e back found.0),
          of_queue _ m found.1,
        ),
    λ there.
        let moves = Contains-permutation es sorted e moved (in_contains es e there.0) in
        contains_in row e
        (contains_filter (is_of queues m) sorted e moves (queue_of _ m there.1)),
  );
}
  where
    row : List Entry
    row = row_of queues sorted m
