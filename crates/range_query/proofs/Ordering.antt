-- A list that is sorted is the ascending list of each permutation of it (`sorted_is_ascending`).
use Rattle.std.proofs.Common.{◌≡◌, ◌⊎◌, ℕ, suc, ◌+◌, ◌<◌, ◌≤◌, true, false, cond, List, [], ◌∷◌, ◌++◌, length, get_or, is_lt, nat_cmp, IsPermutation, refl, sym, ap, ◌∙◌, subst, inl, inr, ⊎_elim, arith}
use Rattle.std.specs.Ordering.{ordering_then}
use Rattle.std.specs.List.{sum_by}
use Rattle.std.proofs.lemmas.Bool.{cases_Bool, cond-true, cond-false}
use Rattle.std.proofs.lemmas.Bool.Decides.{nat_tests}
use Rattle.std.proofs.lemmas.List.Recursion.{is_sum_by}
use Rattle.std.proofs.lemmas.List.Sorted.{sum_by-IsPermutation}
use Rattle.list_totals.specs.Totals.{total}
use Rattle.list_totals.proofs.Splitting.{split_at, split_rest}
use Rattle.series_core.specs.declared.pair.Pair.{Pair}
use Rattle.series_core.specs.Pairs.{is_before, insert, ascending}
use Rattle.series_core.proofs.Order.{not_before_trans, same_pair}
use Rattle.series_core.proofs.Smallest.{ascending-append_swap}
use Rattle.series_core.proofs.Sorting.{NoneBefore, IsSorted, ascending_sorted}

-- a total by recursion is std's sum
total_is_sum : (f : Pair → ℕ) (ps : List Pair) → total f ps ≡ sum_by f ps
total_is_sum f ps = is_sum_by (total f) f refl (λ x xs. refl) ps

-- 1 where two pairs are the same, and else 0
pair_count : Pair → Pair → ℕ
pair_count p q = cond (is_before p q) 0 (cond (is_before q p) 0 1)

-- a pair is the same as itself
one_itself : (p : Pair) → pair_count p p ≡ 1
unfolding pair_count
one_itself p = grind (arith, nat_tests)

-- a pair is the same as another, or counts nothing there
same_or_not : (p q : Pair) → (p ≡ q) ⊎ (pair_count p q ≡ 0)
unfolding pair_count
same_or_not p q = ⊎_elim
    (λ (less : is_before p q ≡ true). inr (cond-true _ _ _ less))
    (λ (no : is_before p q ≡ false). ⊎_elim
    (λ (more : is_before q p ≡ true). inr (cond-false _ _ _ no ∙ cond-true _ _ _ more))
    (λ (neither : is_before q p ≡ false). inl (same_pair p q no neither))
    (cases_Bool (is_before q p)))
    (cases_Bool (is_before p q))

-- a pair in the middle is inserted
middle : (p : Pair) (before behind : List Pair)
    → ascending (before ++ p ∷ behind) ≡ insert p (ascending (before ++ behind))
middle p before behind =
    ascending-append_swap before (p ∷ behind)
    ∙ ap (insert p) (ascending-append_swap behind before)

-- lists in which each pair counts the same are put into one order
same_ascending : (ps qs : List Pair) → ((f : Pair → ℕ) → total f ps ≡ total f qs)
    → ascending ps ≡ ascending qs
same_ascending [] [] same = refl
same_ascending [] (q ∷ qs) same = absurd (let e = same (λ _. 1) in omega arith)
same_ascending (p ∷ ps) qs same =
    let one = one_itself p in
    let here = same (pair_count p) in
    let s = split_at (pair_count p) p qs (same_or_not p) (omega arith) in
    ap (insert p) (same_ascending ps (s.before ++ s.behind) (λ f. split_rest f p ps qs s (same f)))
    ∙ sym (middle p s.before s.behind) ∙ sym (ap ascending s.is)

-- a permutation is put into the same order
pub permuted_ascending : (ps qs : List Pair) → IsPermutation ps qs → ascending ps ≡ ascending qs
permuted_ascending ps qs moved =
    same_ascending ps qs
    (λ f. total_is_sum f ps ∙ sym (sum_by-IsPermutation f ps qs moved) ∙ sym (total_is_sum f qs))

-- each pair of a list is not above the next, as a sort says
abbrev pub InOrder : List Pair → Type 0
InOrder ps = (k : ℕ) (d : Pair) → 0 ≤ k → k + 1 < length ps
    → is_lt (ordering_then (nat_cmp (get_or ps (k + 1) d).distance (get_or ps k d).distance)
    (nat_cmp (get_or ps (k + 1) d).number (get_or ps k d).number)) ≡ false

-- of two pairs that a sort leaves in order the second is not the smaller
not_less : (p q : Pair)
    → is_lt (ordering_then (nat_cmp q.distance p.distance) (nat_cmp q.number p.number)) ≡ false
    → is_before q p ≡ false
not_less p q h = grind (arith, nat_tests)

-- what is before no pair of a list that a smaller pair is in front of
none_before : (p q : Pair) (qs : List Pair) → is_before q p ≡ false → NoneBefore q qs
    → NoneBefore p qs
none_before p q [] first none = tt
none_before p q (r ∷ rs) first none =
    (not_before_trans p q r first none.0, none_before p q rs first none.1)

-- a list whose neighbours are in order is sorted
pub sorted_in_order : (ps : List Pair) → InOrder ps → IsSorted ps
sorted_in_order [] up = tt
sorted_in_order (p ∷ []) up = (tt, tt)
sorted_in_order (p ∷ q ∷ qs) up =
    let rest : IsSorted (q ∷ qs) = sorted_in_order (q ∷ qs)
    (λ k d least low.
    let e : suc k + 1 ≡ suc (k + 1) = omega arith in
    let here = get_or (q ∷ qs) k d in
    let next = λ (n : ℕ). get_or (p ∷ q ∷ qs) n d in
    let P : ℕ → Type 0 = λ n.
    is_lt (ordering_then (nat_cmp (next n).distance here.distance)
    (nat_cmp (next n).number here.number)) ≡ false in
    subst P e (up (suc k) d (omega arith) (omega arith))) in
    let first = not_less p q (up 0 p (omega arith) (omega arith)) in
    ((first, none_before p q qs first rest.0), rest)

-- a sorted permutation is the ascending list
pub sorted_is_ascending : (ps sorted : List Pair) → IsPermutation ps sorted → InOrder sorted
    → sorted ≡ ascending ps
sorted_is_ascending ps sorted moved up =
    sym (ascending_sorted sorted (sorted_in_order sorted up))
    ∙ sym (permuted_ascending ps sorted moved)
