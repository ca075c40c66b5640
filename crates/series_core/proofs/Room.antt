-- The list of the k best: what an insert does while there is room, and what it pushes out once there is none.
use Rattle.std.proofs.Common.{◌≡◌, ℕ, zero, suc, ◌+◌, ◌-◌, ◌≤◌, ◌<◌, List, [], ◌∷◌, ◌++◌, length, take, drop, get_or, true, false, Some, refl, sym, ap, ◌∙◌, subst, ⊎_elim, arith}
use Rattle.std.specs.Prelude.{slice_get}
use Rattle.std.specs.List.{AllWithin}
use Rattle.std.specs.List.Sorted.{IsPartitionedBy, IsPartitionPoint}
use Rattle.std.proofs.lemmas.Bool.{cond_both, cases_Bool, true≢false}
use Rattle.std.proofs.lemmas.Bool.Decides.{nat_tests}
use Rattle.std.proofs.lemmas.List.{nil_from_length}
use Rattle.std.proofs.lemmas.Option.{same_Some, none-some, slice_get-get_or}
use Rattle.series_core.specs.Pairs.{is_before, insert, ascending, smallest}
use Rattle.series_core.specs.declared.pair.Pair.{Pair}
use Rattle.series_core.proofs.Order.{not_after, same_pair}
use Rattle.series_core.proofs.Sorting.{NoneBefore, IsSorted, insert_front, insert_behind, insert_first, sorted_ascending, sorted_take, sorted_insert, ascending_sorted}

-- what is its own ascending order is in order
pub sorted_from : (ps : List Pair) → ascending ps ≡ ps → IsSorted ps
sorted_from ps e = subst (λ (qs : List Pair). IsSorted qs) e (sorted_ascending ps)

-- an insert adds one
pub length-insert : (p : Pair) (qs : List Pair) → length (insert p qs) ≡ suc (length qs)
length-insert p [] = refl
length-insert p (q ∷ qs) =
    cond_both (is_before q p) (q ∷ insert p qs) (p ∷ q ∷ qs) (λ rs. length rs ≡ suc (suc (length qs)))
    (λ _. ap suc (length-insert p qs))
    (λ _. refl)

-- in order, no pair at a place is smaller than the first
none_before_get : (p last : Pair) (qs : List Pair) (n : ℕ) → NoneBefore p qs → slice_get qs n ≡ Some last
    → is_before last p ≡ false
none_before_get p last [] n above e = absurd (none-some last e)
none_before_get p last (q ∷ qs) zero above e =
    subst (λ (r : Pair). is_before r p ≡ false) (same_Some q last e) above.0
none_before_get p last (q ∷ qs) (suc n) above e = none_before_get p last qs n above.1 e

-- a pair is no later than one that it is not after, where that is not after a third which is not after the first
held_between : (p q last : Pair) → is_before q p ≡ false → is_before last q ≡ false → is_before p last ≡ false
    → is_before p q ≡ false
held_between p q last front low far = grind (arith, nat_tests)

-- a full list stays as it is where the new pair is not before the last
pub take_insert_far : (n : ℕ) (p last : Pair) (qs : List Pair) → IsSorted qs → length qs ≡ suc n
    → slice_get qs n ≡ Some last → is_before p last ≡ false → take (suc n) (insert p qs) ≡ qs
take_insert_far n p last [] s size e far = absurd (omega arith)
take_insert_far zero p last (q ∷ qs) s size e far =
    ⊎_elim
    (λ (behind : is_before q p ≡ true).
    ap (take 1) (insert_behind p q qs behind) ∙ ap (λ (rs : List Pair). q ∷ rs) (sym alone))
    (λ (front : is_before q p ≡ false).
    let far_q : is_before p q ≡ false =
    subst (λ (r : Pair). is_before p r ≡ false) (sym (same_Some q last e)) far in
    ap (take 1) (insert_front p q qs front)
    ∙ ap (λ (r : Pair). r ∷ []) (same_pair p q far_q front)
    ∙ ap (λ (rs : List Pair). q ∷ rs) (sym alone))
    (cases_Bool (is_before q p))
  where
    alone : qs ≡ []
    alone = nil_from_length qs (omega arith)
take_insert_far (suc n) p last (q ∷ qs) s size e far =
    ⊎_elim
    (λ (behind : is_before q p ≡ true).
    ap (take (suc (suc n))) (insert_behind p q qs behind)
    ∙ ap (λ (rs : List Pair). q ∷ rs) (take_insert_far n p last qs s.1 (omega arith) e far))
    (λ (front : is_before q p ≡ false).
    let low : is_before last q ≡ false = none_before_get q last qs n s.0 e in
    let same : p ≡ q = same_pair p q (held_between p q last front low far) front in
    let far_q : is_before q last ≡ false = subst (λ (r : Pair). is_before r last ≡ false) same far in
    let rest : take (suc n) (q ∷ qs) ≡ qs =
    ap (take (suc n)) (sym (insert_first q qs s.0))
    ∙ take_insert_far n q last qs s.1 (omega arith) e far_q in
    ap (take (suc (suc n))) (insert_front p q qs front)
    ∙ ap (λ (rs : List Pair). p ∷ rs) rest
    ∙ ap (λ (r : Pair). r ∷ qs) same)
    (cases_Bool (is_before q p))

-- where the new pair is before the last of n + 1, the last goes out
pub take_insert_near : (n : ℕ) (p last : Pair) (qs : List Pair) → slice_get qs n ≡ Some last
    → is_before p last ≡ true → take (suc n) (insert p qs) ≡ insert p (take n qs)
take_insert_near n p last [] e near = absurd (none-some last e)
take_insert_near zero p last (q ∷ qs) e near =
    let same : is_before p q ≡ true = subst (λ (r : Pair). is_before p r ≡ true) (sym (same_Some q last e)) near in
    ap (take 1) (insert_front p q qs (not_after p q same))
take_insert_near (suc n) p last (q ∷ qs) e near =
    ⊎_elim
    (λ (behind : is_before q p ≡ true).
    ap (take (suc (suc n))) (insert_behind p q qs behind)
    ∙ ap (λ (rs : List Pair). q ∷ rs) (take_insert_near n p last qs e near)
    ∙ sym (insert_behind p q (take n qs) behind))
    (λ (front : is_before q p ≡ false).
    ap (take (suc (suc n))) (insert_front p q qs front) ∙ sym (insert_front p q (take n qs) front))
    (cases_Bool (is_before q p))

-- an insert at the place before which all are smaller, and from which on none is
pub insert_at : (p : Pair) (i : ℕ) (qs : List Pair) → i ≤ length qs
    → IsPartitionPoint (λ q. is_before q p ≡ true) (λ q. is_before q p ≡ false) qs i
    → take i qs ++ p ∷ drop i qs ≡ insert p qs
insert_at p zero [] h parts = refl
insert_at p zero (q ∷ qs) h parts = sym (insert_front p q qs (parts.1 zero q (omega arith) (omega arith)))
insert_at p (suc i) [] h parts = absurd (omega arith)
insert_at p (suc i) (q ∷ qs) h parts =
    ap (λ (rs : List Pair). q ∷ rs) (insert_at p i qs (omega arith) rest)
    ∙ sym (insert_behind p q qs (parts.0 zero q (omega arith) (omega arith)))
  where
    rest : IsPartitionPoint (λ r. is_before r p ≡ true) (λ r. is_before r p ≡ false) qs i
    rest = (
      λ k d low high. parts.0 (suc k) d (omega arith) (omega arith),
      λ k d low high. parts.1 (suc k) d (omega arith) (omega arith),
    )

none_before_get_or : (p : Pair) (qs : List Pair) (j : ℕ) (d : Pair) → NoneBefore p qs → j < length qs
    → is_before (get_or qs j d) p ≡ false
none_before_get_or p [] j d above h = absurd (omega arith)
none_before_get_or p (q ∷ qs) zero d above h = above.0
none_before_get_or p (q ∷ qs) (suc j) d above h = none_before_get_or p qs j d above.1 (omega arith)

before_first : (q p x : Pair) → is_before x q ≡ false → is_before x p ≡ true → is_before q p ≡ true
before_first q p x low h = grind (arith, nat_tests)

-- in order, the pairs before a pair come first
pub partitioned : (p : Pair) (qs : List Pair) → IsSorted qs → IsPartitionedBy (λ q. is_before q p) qs
partitioned p [] s i j d low high h = absurd (omega arith)
partitioned p (q ∷ qs) s zero zero d low high h = h
partitioned p (q ∷ qs) s zero (suc j) d low high h =
    before_first q p (get_or qs j d) (none_before_get_or q qs j d s.0 (omega arith)) h
partitioned p (q ∷ qs) s (suc i) zero d low high h = absurd (omega arith)
partitioned p (q ∷ qs) s (suc i) (suc j) d low high h = partitioned p qs s.1 i j d (omega arith) (omega arith) h

-- within a list the default of a look-up does not matter
get_or_any : (qs : List Pair) (k : ℕ) (d e : Pair) → k < length qs → get_or qs k d ≡ get_or qs k e
get_or_any [] k d e h = absurd (omega arith)
get_or_any (q ∷ qs) zero d e h = refl
get_or_any (q ∷ qs) (suc k) d e h = get_or_any qs k d e (omega arith)

-- where the pair at a place is smaller than p, so are all up to it
pub smaller_to : (p held : Pair) (qs : List Pair) (middle : ℕ) → ascending qs ≡ qs → middle < length qs
    → is_before (get_or qs middle held) p ≡ true → AllWithin (λ q. is_before q p ≡ true) qs 0 (middle + 1)
smaller_to p held qs middle e h before k d low high =
    let same : get_or qs k d ≡ get_or qs k held = get_or_any qs k d held (omega arith) in
    subst (λ (q : Pair). is_before q p ≡ true) (sym same)
    (partitioned p qs (sorted_from qs e) k middle held (omega arith) h before)

-- where the pair at a place is not smaller than p, no later one is
pub not_smaller_from : (p held : Pair) (qs : List Pair) (middle : ℕ) → ascending qs ≡ qs → middle < length qs
    → is_before (get_or qs middle held) p ≡ false → AllWithin (λ q. is_before q p ≡ false) qs middle (length qs)
not_smaller_from p held qs middle e h not k d low high =
    ⊎_elim
    (λ (before : is_before (get_or qs k d) p ≡ true).
    let earlier = partitioned p qs (sorted_from qs e) middle k d low high before in
    let same : get_or qs middle d ≡ get_or qs middle held = get_or_any qs middle d held h in
    absurd (true≢false (sym (subst (λ (q : Pair). is_before q p ≡ true) same earlier) ∙ not)))
    (λ (after : is_before (get_or qs k d) p ≡ false). after)
    (cases_Bool (is_before (get_or qs k d) p))

-- the last pair of a full list is the one at place k - 1
pub get_last : (qs : List Pair) (n : ℕ) (last : Pair) → n < length qs → last ≡ get_or qs n last
    → slice_get qs n ≡ Some last
get_last qs n last h e = slice_get-get_or qs n last h ∙ ap (λ (p : Pair). Some p) (sym e)

-- what was read at the last place of a full list is the pair at place k - 1
pub last_of : (k n : ℕ) (qs : List Pair) (last : Pair) → n - 1 ≡ k - 1 → length qs ≡ k → 0 < k
    → last ≡ get_or qs (n - 1) last → (length qs ≡ k) × (slice_get qs (k - 1) ≡ Some last)
last_of k n qs last end size some read =
    (size, get_last qs (k - 1) last (omega (arith, size, some)) (read ∙ ap (λ m. get_or qs m last) end))

-- a full list of k pairs takes a nearer pair, and the last goes out
pub smallest_near : (k : ℕ) (p last : Pair) (qs : List Pair) → ascending qs ≡ qs → length qs ≡ k → 0 < k
    → slice_get qs (k - 1) ≡ Some last → is_before p last ≡ true
    → smallest k (p ∷ qs) ≡ insert p (take (k - 1) qs)
smallest_near zero p last qs e size some get near = absurd (omega arith)
smallest_near (suc n) p last qs e size some get near =
    let less : suc n - 1 ≡ n = omega arith in
    ap (λ (rs : List Pair). take (suc n) (insert p rs)) e
    ∙ take_insert_near n p last qs (rw less at get) near
    ∙ ap (λ m. insert p (take m qs)) (sym less)

-- a full list of k pairs does not take a pair that is not before the last
pub smallest_far : (k : ℕ) (p last : Pair) (qs : List Pair) → ascending qs ≡ qs → length qs ≡ k → 0 < k
    → slice_get qs (k - 1) ≡ Some last → is_before p last ≡ false → smallest k (p ∷ qs) ≡ qs
smallest_far zero p last qs e size some get far = absurd (omega arith)
smallest_far (suc n) p last qs e size some get far =
    let less : suc n - 1 ≡ n = omega arith in
    ap (λ (rs : List Pair). take (suc n) (insert p rs)) e
    ∙ take_insert_far n p last qs (sorted_from qs e) size (rw less at get) far

-- what is left of a list in order is its own ascending order
pub ascending_take : (n : ℕ) (qs : List Pair) → ascending qs ≡ qs → ascending (take n qs) ≡ take n qs
ascending_take n qs e = ascending_sorted (take n qs) (sorted_take n qs (sorted_from qs e))

-- and so is a list in order with one more
pub ascending_insert : (p : Pair) (qs : List Pair) → ascending qs ≡ qs → ascending (insert p qs) ≡ insert p qs
ascending_insert p qs e = ascending_sorted (insert p qs) (sorted_insert p qs (sorted_from qs e))
