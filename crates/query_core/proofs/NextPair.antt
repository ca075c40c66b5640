-- Two ascending lists merged: the smaller of their first pairs comes before all others.
use Rattle.std.proofs.Common.{⊎_elim, ◌≡◌, List, [], ◌∷◌, ◌++◌, true, false, refl, ap, subst, sym, ◌∙◌}
use Rattle.std.proofs.lemmas.Bool.{cases_Bool}
use Rattle.series_core.specs.Pairs.{is_before, insert, ascending}
use Rattle.series_core.specs.declared.pair.Pair.{Pair}
use Rattle.series_core.proofs.Order.{before_self, not_after, not_before_trans, same_pair}
use Rattle.series_core.proofs.Smallest.{ascending-append_swap, insert_insert}
use Rattle.series_core.proofs.Sorting.{IsSorted, NoneBefore, ascending_sorted, insert_behind, insert_front, sorted_ascending}
use Rattle.query_core.specs.Merging.{AreOrdered, is_left_next}

-- a list that is its own ascending order is in order
sorted : (ps : List Pair) → ascending ps ≡ ps → IsSorted ps
sorted ps e = subst IsSorted e (sorted_ascending ps)

-- so is what follows its first pair
pub ordered_rest : (ps : List Pair) (p : Pair) (rest : List Pair) → ps ≡ p ∷ rest → ascending ps ≡ ps → ascending rest ≡ rest
ordered_rest ps p rest e o = ascending_sorted rest (subst IsSorted e (sorted ps o)).1

-- where the first pair of a list in order is not smaller, none is
none_behind : (p q : Pair) (qs : List Pair) → is_before q p ≡ false → IsSorted (q ∷ qs) → NoneBefore p (q ∷ qs)
none_behind p q [] h s = (h, tt)
none_behind p q (r ∷ rs) h s = (h, none_behind p r rs (not_before_trans p q r h s.0.0) s.1)

-- none in two lists
none_both : (p : Pair) (ps qs : List Pair) → NoneBefore p ps → NoneBefore p qs → NoneBefore p (ps ++ qs)
none_both p [] qs a b = b
none_both p (r ∷ rs) qs a b = (a.0, none_both p rs qs a.1 b)

-- what no pair is smaller than comes first
comes_first : (p : Pair) (qs : List Pair) → NoneBefore p qs → insert p (ascending qs) ≡ p ∷ ascending qs
comes_first p [] n = refl
comes_first p (q ∷ qs) n =
    let first = comes_first p qs n.1 in
    insert_insert p q (ascending qs)
    ∙ ap (insert q) first
    ∙ ⊎_elim
    (λ before. insert_behind q p (ascending qs) before)
    (λ not. let same : p ≡ q = same_pair p q not n.0 in
    subst (λ (r : Pair). insert r (p ∷ ascending qs) ≡ p ∷ insert r (ascending qs)) same
    (insert_front p p (ascending qs) (before_self p) ∙ ap (λ (rs : List Pair). p ∷ rs) (sym first)))
    (cases_Bool (is_before p q))

-- the first pair of the first list comes next
left_first : (p : Pair) (ps qs : List Pair) → AreOrdered (p ∷ ps) qs → is_left_next (p ∷ ps) qs ≡ true
    → ascending ((p ∷ ps) ++ qs) ≡ p ∷ ascending (ps ++ qs)
left_first p ps [] o next = comes_first p (ps ++ []) (none_both p ps [] (sorted (p ∷ ps) o.0).0 tt)
left_first p ps (q ∷ qs) o next =
    comes_first p (ps ++ q ∷ qs)
    (none_both p ps (q ∷ qs) (sorted (p ∷ ps) o.0).0 (none_behind p q qs (not_after p q next) (sorted (q ∷ qs) o.1)))

pub left_next : (ps qs : List Pair) (p : Pair) (rest : List Pair) → ps ≡ p ∷ rest → AreOrdered ps qs → is_left_next ps qs ≡ true
    → ascending (ps ++ qs) ≡ p ∷ ascending (rest ++ qs)
left_next ps qs p rest e o next =
    ap (λ (xs : List Pair). ascending (xs ++ qs)) e
    ∙ left_first p rest qs (subst (λ (xs : List Pair). AreOrdered xs qs) e o)
    (ap (λ (xs : List Pair). is_left_next xs qs) (sym e) ∙ next)

-- the first pair of the second list comes next
right_first : (ps : List Pair) (q : Pair) (qs : List Pair) → AreOrdered ps (q ∷ qs) → is_left_next ps (q ∷ qs) ≡ false
    → ascending (ps ++ q ∷ qs) ≡ q ∷ ascending (ps ++ qs)
right_first [] q qs o next = comes_first q qs (sorted (q ∷ qs) o.1).0
right_first (p ∷ ps) q qs o next =
    ascending-append_swap (p ∷ ps) (q ∷ qs)
    ∙ comes_first q (qs ++ p ∷ ps)
    (none_both q qs (p ∷ ps) (sorted (q ∷ qs) o.1).0 (none_behind q p ps next (sorted (p ∷ ps) o.0)))
    ∙ ap (λ (rs : List Pair). q ∷ rs) (ascending-append_swap qs (p ∷ ps))

pub right_next : (ps qs : List Pair) (q : Pair) (rest : List Pair) → qs ≡ q ∷ rest → AreOrdered ps qs → is_left_next ps qs ≡ false
    → ascending (ps ++ qs) ≡ q ∷ ascending (ps ++ rest)
right_next ps qs q rest e o next =
    ap (λ (xs : List Pair). ascending (ps ++ xs)) e
    ∙ right_first ps q rest (subst (AreOrdered ps) e o) (ap (is_left_next ps) (sym e) ∙ next)
