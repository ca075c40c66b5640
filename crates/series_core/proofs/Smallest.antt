-- The k smallest pairs: what is cut off may be cut off before or after an insert, and the order of adding says nothing.
use Rattle.std.proofs.Common.{◌≡◌, ℕ, zero, suc, ◌+◌, ◌<◌, List, [], ◌∷◌, ◌++◌, length, take, true, false, refl, sym, ap, ◌∙◌, ⊎_elim, arith, append_assoc, append-nil, get_or}
use Rattle.std.proofs.lemmas.List.{take_more}
use Rattle.std.proofs.lemmas.Bool.{cases_Bool}
use Rattle.std.proofs.lemmas.Bool.Decides.{nat_tests}
use Rattle.series_core.specs.Pairs.{is_before, insert, ascending, smallest}
use Rattle.series_core.specs.declared.pair.Pair.{Pair}
use Rattle.series_core.proofs.Order.{not_after, same_pair}
use Rattle.series_core.proofs.Sorting.{insert_front, insert_behind, ascending_smallest}

-- the first k of the first k
take_twice : (k : ℕ) (ps : List Pair) → take k (take k ps) ≡ take k ps
take_twice zero ps = refl
take_twice (suc k) [] = refl
take_twice (suc k) (p ∷ ps) = ap (λ (rest : List Pair). p ∷ rest) (take_twice k ps)

-- of a pair put in front, one pair less of the rest is taken
take_front : (k : ℕ) (p q : Pair) (qs : List Pair) → take k (q ∷ take k qs) ≡ take k (q ∷ qs)
take_front zero p q qs = refl
take_front (suc k) p q qs = ap (λ (rest : List Pair). q ∷ rest) (take_less k qs)
  where
    take_less : (n : ℕ) (rs : List Pair) → take n (take (suc n) rs) ≡ take n rs
    take_less zero rs = refl
    take_less (suc n) [] = refl
    take_less (suc n) (r ∷ rs) = ap (λ (rest : List Pair). r ∷ rest) (take_less n rs)

-- what is past the k-th pair does not matter to the k first after an insert
pub take_insert : (k : ℕ) (p : Pair) (qs : List Pair) → take k (insert p (take k qs)) ≡ take k (insert p qs)
take_insert zero p qs = refl
take_insert (suc k) p [] = refl
take_insert (suc k) p (q ∷ qs) =
    ⊎_elim
    (λ (before : is_before q p ≡ true).
    ap (take (suc k)) (insert_behind p q (take k qs) before)
    ∙ ap (λ (rest : List Pair). q ∷ rest) (take_insert k p qs)
    ∙ sym (ap (take (suc k)) (insert_behind p q qs before)))
    (λ (not : is_before q p ≡ false).
    ap (take (suc k)) (insert_front p q (take k qs) not)
    ∙ ap (λ (rest : List Pair). p ∷ rest) (take_front k p q qs)
    ∙ sym (ap (take (suc k)) (insert_front p q qs not)))
    (cases_Bool (is_before q p))

-- a pair that is not behind y comes before one that is
before_from : (x y z : Pair) → is_before y x ≡ false → is_before y z ≡ true → is_before x z ≡ true
before_from x y z h i = grind (arith, nat_tests)

-- of two pairs that both go to the front, the smaller ends there
insert_fronts : (x y : Pair) (ts : List Pair) → insert x ts ≡ x ∷ ts → insert y ts ≡ y ∷ ts
    → insert x (y ∷ ts) ≡ insert y (x ∷ ts)
insert_fronts x y ts hx hy =
    ⊎_elim
    (λ (yx : is_before y x ≡ true).
    insert_behind x y ts yx ∙ ap (λ (rest : List Pair). y ∷ rest) hx
    ∙ sym (insert_front y x ts (not_after y x yx)))
    (λ (yx : is_before y x ≡ false).
    ⊎_elim
    (λ (xy : is_before x y ≡ true).
    insert_front x y ts yx
    ∙ sym (insert_behind y x ts xy ∙ ap (λ (rest : List Pair). x ∷ rest) hy))
    (λ (xy : is_before x y ≡ false).
    let same : x ≡ y = same_pair x y xy yx in
    insert_front x y ts yx ∙ swapped x y same ∙ sym (insert_front y x ts xy))
    (cases_Bool (is_before x y)))
    (cases_Bool (is_before y x))
  where
    swapped : (v w : Pair) → v ≡ w → v ∷ w ∷ ts ≡ w ∷ v ∷ ts
    swapped v w e = cc

-- two pairs may be inserted in either order: the step past a first pair
insert_both : (p q r : Pair) (rs : List Pair)
    → insert p (insert q rs) ≡ insert q (insert p rs)
    → insert p (insert q (r ∷ rs)) ≡ insert q (insert p (r ∷ rs))
insert_both p q r rs rest =
    ⊎_elim
    (λ (rp : is_before r p ≡ true).
    ⊎_elim
    (λ (rq : is_before r q ≡ true).
    ap (insert p) (insert_behind q r rs rq) ∙ insert_behind p r (insert q rs) rp
    ∙ ap (λ (ts : List Pair). r ∷ ts) rest
    ∙ sym (ap (insert q) (insert_behind p r rs rp) ∙ insert_behind q r (insert p rs) rq))
    (λ (rq : is_before r q ≡ false). one_front p q rp rq)
    (cases_Bool (is_before r q)))
    (λ (rp : is_before r p ≡ false).
    ⊎_elim
    (λ (rq : is_before r q ≡ true). sym (one_front q p rq rp))
    (λ (rq : is_before r q ≡ false).
    ap (insert p) (insert_front q r rs rq)
    ∙ insert_fronts p q (r ∷ rs) (insert_front p r rs rp) (insert_front q r rs rq)
    ∙ sym (ap (insert q) (insert_front p r rs rp)))
    (cases_Bool (is_before r q)))
    (cases_Bool (is_before r p))
  where
    one_front : (v w : Pair) → is_before r v ≡ true → is_before r w ≡ false
        → insert v (insert w (r ∷ rs)) ≡ insert w (insert v (r ∷ rs))
    one_front v w rv rw' =
        let low : is_before w v ≡ true = before_from w r v rw' rv in
        ap (insert v) (insert_front w r rs rw') ∙ insert_behind v w (r ∷ rs) low
        ∙ ap (λ (ts : List Pair). w ∷ ts) (insert_behind v r rs rv)
        ∙ sym (ap (insert w) (insert_behind v r rs rv) ∙ insert_front w r (insert v rs) rw')

-- two pairs may be inserted in either order
pub insert_insert : (p q : Pair) (rs : List Pair) → insert p (insert q rs) ≡ insert q (insert p rs)
insert_insert p q [] = insert_fronts p q [] refl refl
insert_insert p q (r ∷ rs) = insert_both p q r rs (insert_insert p q rs)

-- a pair may stand anywhere in what is put into order
ascending_middle : (ps : List Pair) (q : Pair) (qs : List Pair)
    → ascending (ps ++ q ∷ qs) ≡ insert q (ascending (ps ++ qs))
ascending_middle [] q qs = refl
ascending_middle (p ∷ ps) q qs =
    ap (insert p) (ascending_middle ps q qs) ∙ insert_insert p q (ascending (ps ++ qs))

-- two lists may be joined in either order
pub ascending-append_swap : (ps qs : List Pair) → ascending (ps ++ qs) ≡ ascending (qs ++ ps)
ascending-append_swap [] qs = ap ascending (sym (append-nil qs))
ascending-append_swap (p ∷ ps) qs =
    ap (insert p) (ascending-append_swap ps qs) ∙ sym (ascending_middle qs p ps)

-- the k smallest do not change where the second list is cut to its own k smallest
smallest-append_right : (k : ℕ) (ps qs : List Pair)
    → smallest k (ps ++ smallest k qs) ≡ smallest k (ps ++ qs)
smallest-append_right k [] qs = ap (take k) (ascending_smallest k qs) ∙ take_twice k (ascending qs)
smallest-append_right k (p ∷ ps) qs =
    sym (take_insert k p (ascending (ps ++ smallest k qs)))
    ∙ ap (λ (rest : List Pair). take k (insert p rest)) (smallest-append_right k ps qs)
    ∙ take_insert k p (ascending (ps ++ qs))

-- the k smallest of two lists are those of their own k smallest
pub smallest-append : (k : ℕ) (ps qs : List Pair)
    → smallest k (smallest k ps ++ smallest k qs) ≡ smallest k (ps ++ qs)
smallest-append k ps qs =
    smallest-append_right k (smallest k ps) qs
    ∙ ap (take k) (ascending-append_swap (smallest k ps) qs)
    ∙ smallest-append_right k qs ps
    ∙ ap (take k) (ascending-append_swap qs ps)

-- a pair added to the k smallest is as good as added to all
pub smallest-add : (k : ℕ) (p : Pair) (qs : List Pair) → smallest k (p ∷ smallest k qs) ≡ smallest k (p ∷ qs)
smallest-add k p qs = smallest-append_right k (p ∷ []) qs

-- the pair that was added last may stand behind those added before
pub smallest-push : (k : ℕ) (p : Pair) (ps qs : List Pair)
    → smallest k (p ∷ ps ++ qs) ≡ smallest k ((ps ++ p ∷ []) ++ qs)
smallest-push k p ps qs =
    ap (take k) (sym (ascending_middle ps p qs)) ∙ ap (smallest k) (sym (append_assoc ps (p ∷ []) qs))

-- one more pair of a list added to the k smallest of the pairs before it and others
pub smallest_next : (k i : ℕ) (xs qs held : List Pair) (d : Pair) → i < length xs
    → held ≡ smallest k (take i xs ++ qs)
    → smallest k (get_or xs i d ∷ held) ≡ smallest k (take (i + 1) xs ++ qs)
smallest_next k i xs qs held d h e =
    ap (λ (rest : List Pair). smallest k (get_or xs i d ∷ rest)) e
    ∙ smallest-add k (get_or xs i d) (take i xs ++ qs)
    ∙ smallest-push k (get_or xs i d) (take i xs) qs
    ∙ ap (λ (front : List Pair). smallest k (front ++ qs)) (sym (take_more xs i d h))
