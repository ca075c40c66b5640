-- A part of an ascending list against the whole: which pairs are among the k smallest of both, and how far the k-th is.
use Rattle.std.proofs.Common.{◌≡◌, ℕ, zero, suc, ◌≤◌, List, [], ◌∷◌, ◌⊎◌, true, false, take, sym, refl, ap, ◌∙◌, subst, inl, inr, ⊎_elim, arith}
use Rattle.std.proofs.lemmas.Bool.{cond_both, cases_Bool}
use Rattle.series_core.specs.Pairs.{is_before, insert}
use Rattle.list_totals.specs.Standing.{In}
use Rattle.list_totals.proofs.Standing.{in_put}
use Rattle.series_core.specs.Order.{Among, Above, Ascending, AllNear, distance_at}
use Rattle.series_core.specs.declared.pair.Pair.{Pair}
use Rattle.series_core.specs.declared.distance.TheConstants.{NONE}
use Rattle.series_core.proofs.Order.{not_self, not_both, before_trans, same_pair, before_distance}
use Rattle.series_core.proofs.Sorting.{said_insert, said_take}

-- what stands in a list above p is greater than p
pub above_has : (p : Pair) (qs : List Pair) → Above p qs → (q : Pair) → In q qs → is_before p q ≡ true
above_has p [] above q has = absurd has
above_has p (r ∷ rs) above q has =
    ⊎_elim
    (λ (e : q ≡ r). subst (λ (x : Pair). is_before p x ≡ true) (sym e) above.0)
    (λ (t : In q rs). above_has p rs above.1 q t)
    has

-- no pair stands in a list above itself
pub not_above : (p : Pair) (qs : List Pair) → Above p qs → In p qs → ⊥
not_above p qs above has = not_self p (above_has p qs above p has)

above_trans : (p q : Pair) (rs : List Pair) → is_before p q ≡ true → Above q rs → Above p rs
above_trans p q [] low above = tt
above_trans p q (r ∷ rs) low above = (before_trans p q r low above.0, above_trans p q rs low above.1)

above_insert : (p x : Pair) (qs : List Pair) → is_before p x ≡ true → Above p qs → Above p (insert x qs)
above_insert p = said_insert (Above p) (λ q. is_before p q ≡ true) tt (λ q qs here rest. (here, rest)) (λ q qs all. all)

-- of two different pairs one is smaller
other_before : (p q : Pair) → (p ≡ q → ⊥) → is_before q p ≡ false → is_before p q ≡ true
other_before p q differ h =
    ⊎_elim
    (λ (e : is_before p q ≡ true). e)
    (λ (e : is_before p q ≡ false). absurd (differ (same_pair p q e h)))
    (cases_Bool (is_before p q))

-- a new pair keeps an ascending list ascending
pub ascending_insert : (x : Pair) (qs : List Pair) → (In x qs → ⊥) → Ascending qs → Ascending (insert x qs)
ascending_insert x [] new up = (tt, tt)
ascending_insert x (q ∷ qs) new up =
    cond_both (is_before q x) (q ∷ insert x qs) (x ∷ q ∷ qs) Ascending
    (λ before. (above_insert q x qs before up.0, ascending_insert x qs (λ has. new (inr has)) up.1))
    (λ not.
    let low = other_before x q (λ e. new (inl e)) not in
    ((low, above_trans x q qs low up.0), up))

-- what stands in the list after an insert
pub has_insert : (p x : Pair) (qs : List Pair) → In p (insert x qs) → (p ≡ x) ⊎ In p qs
has_insert p x [] = λ has. ⊎_elim (λ (e : p ≡ x). inl e) (λ (t : ⊥). absurd t) has
has_insert p x (q ∷ qs) = in_put (is_before q x) p x q qs (insert x qs) (has_insert p x qs)

pub insert_has : (p x : Pair) (qs : List Pair) → (p ≡ x) ⊎ In p qs → In p (insert x qs)
insert_has p x [] has = ⊎_elim (λ (e : p ≡ x). inl e) (λ (t : ⊥). absurd t) has
insert_has p x (q ∷ qs) has =
    cond_both (is_before q x) (q ∷ insert x qs) (x ∷ q ∷ qs) (In p)
    (λ _. ⊎_elim
    (λ (e : p ≡ x). inr (insert_has p x qs (inl e)))
    (λ (t : In p (q ∷ qs)). ⊎_elim
    (λ (e : p ≡ q). inl e)
    (λ (u : In p qs). inr (insert_has p x qs (inr u)))
    t)
    has)
    (λ _. has)

-- what stands among the first n stands in the list
pub has_take : (n : ℕ) (p : Pair) (qs : List Pair) → In p (take n qs) → In p qs
has_take zero p qs has = absurd has
has_take (suc n) p [] has = absurd has
has_take (suc n) p (q ∷ qs) has =
    ⊎_elim (λ (e : p ≡ q). inl e) (λ (t : In p (take n qs)). inr (has_take n p qs t)) has

above_take : (n : ℕ) (p : Pair) (qs : List Pair) → Above p qs → Above p (take n qs)
above_take n p =
    said_take (Above p) (λ q qs. is_before p q ≡ true) tt (λ q qs here rest. (here, rest)) (λ q qs all. all) (λ n q qs here. here) n

pub ascending_take : (n : ℕ) (qs : List Pair) → Ascending qs → Ascending (take n qs)
ascending_take = said_take Ascending Above tt (λ q qs here rest. (here, rest)) (λ q qs all. all) above_take

take_more : (n : ℕ) (p : Pair) (qs : List Pair) → In p (take n qs) → In p (take (suc n) qs)
take_more zero p qs has = absurd has
take_more (suc n) p [] has = absurd has
take_more (suc n) p (q ∷ qs) has =
    ⊎_elim (λ (e : p ≡ q). inl e) (λ (t : In p (take n qs)). inr (take_more n p qs t)) has

-- where a part and the whole begin with the same pair, so do their rests stand to each other
tails_among : (x y : Pair) (xs ys : List Pair) → x ≡ y → Above x xs → Among (x ∷ xs) (y ∷ ys) → Among xs ys
tails_among x y xs ys e above among q has =
    ⊎_elim
    (λ (f : q ≡ y). absurd (not_self x
    (subst (λ (r : Pair). is_before x r ≡ true) (f ∙ sym e) (above_has x xs above q has))))
    (λ (t : In q ys). t)
    (among q (inr has))

-- where the whole begins lower, the part stands in its rest
rest_among : (x y : Pair) (xs ys : List Pair) → Above x xs → Above y ys → In x ys
    → Among (x ∷ xs) (y ∷ ys) → Among (x ∷ xs) ys
rest_among x y xs ys a b low among q has =
    ⊎_elim
    (λ (f : q ≡ y). absurd (not_self y (subst (λ (r : Pair). is_before y r ≡ true) f (higher has))))
    (λ (t : In q ys). t)
    (among q has)
  where
    higher : In q (x ∷ xs) → is_before y q ≡ true
    higher h = ⊎_elim
        (λ (e : q ≡ x). subst (λ (r : Pair). is_before y r ≡ true) (sym e) (above_has y ys b x low))
        (λ (t : In q xs). before_trans y x q (above_has y ys b x low) (above_has x xs a q t))
        h

-- what is among the k smallest of the whole and stands in the part is among the k smallest of the part
pub kept : (k : ℕ) (xs ys : List Pair) → Ascending xs → Ascending ys → Among xs ys
    → (p : Pair) → In p (take k ys) → In p xs → In p (take k xs)
kept zero xs ys a b among p near has = absurd near
kept (suc k) xs [] a b among p near has = absurd near
kept (suc k) [] (y ∷ ys) a b among p near has = absurd has
kept (suc k) (x ∷ xs) (y ∷ ys) a b among p near has =
    ⊎_elim
    (λ (e : x ≡ y). ⊎_elim
    (λ (f : p ≡ x). inl f)
    (λ (t : In p xs). ⊎_elim
    (λ (f : p ≡ y). inl (f ∙ sym e))
    (λ (u : In p (take k ys)).
    inr (kept k xs ys a.1 b.1 (tails_among x y xs ys e a.0 among) p u t))
    near)
    has)
    (λ (low : In x ys).
    let rest : Among (x ∷ xs) ys = rest_among x y xs ys a.0 b.0 low among in
    ⊎_elim
    (λ (f : p ≡ y). absurd (not_self y
    (subst (λ (r : Pair). is_before y r ≡ true) f (above_has y ys b.0 p (rest p has)))))
    (λ (u : In p (take k ys)).
    take_more k p (x ∷ xs) (kept k (x ∷ xs) ys a b.1 rest p u has))
    near)
    (among x (inl refl))

-- a part that has the k smallest of the whole has the same k smallest
pub same_take : (k : ℕ) (xs ys : List Pair) → Ascending xs → Ascending ys → Among xs ys
    → Among (take k ys) xs → take k xs ≡ take k ys
same_take zero xs ys a b among back = refl
same_take (suc k) [] [] a b among back = refl
same_take (suc k) (x ∷ xs) [] a b among back = absurd (among x (inl refl))
same_take (suc k) [] (y ∷ ys) a b among back = absurd (back y (inl refl))
same_take (suc k) (x ∷ xs) (y ∷ ys) a b among back =
    ap (λ (r : Pair). r ∷ take k xs) heads
    ∙ ap (λ (rs : List Pair). y ∷ rs)
    (same_take k xs ys a.1 b.1 (tails_among x y xs ys heads a.0 among) there)
  where
    heads : x ≡ y
    heads = ⊎_elim
        (λ (e : x ≡ y). e)
        (λ (low : In x ys). ⊎_elim
        (λ (e : y ≡ x). sym e)
        (λ (high : In y xs).
        absurd (not_both x y (above_has x xs a.0 y high) (above_has y ys b.0 x low)))
        (back y (inl refl)))
        (among x (inl refl))

    there : Among (take k ys) xs
    there q has = ⊎_elim
        (λ (e : q ≡ x). absurd (not_self y
        (subst (λ (r : Pair). is_before y r ≡ true) (e ∙ heads)
        (above_has y ys b.0 q (has_take k q ys has)))))
        (λ (u : In q xs). u)
        (back q (inr has))

-- past the end or not, no place is farther than NONE
pub distance_small : (n : ℕ) (ps : List Pair) → AllNear ps → distance_at n ps ≤ NONE
distance_small n [] small = omega arith
distance_small zero (p ∷ ps) small = small p (inl refl)
distance_small (suc n) (p ∷ ps) small = distance_small n ps (λ q has. small q (inr has))

-- of an ascending list without its first pair, place n is no nearer
pub distance_rises : (n : ℕ) (x : Pair) (xs : List Pair) → Ascending (x ∷ xs) → AllNear (x ∷ xs)
    → distance_at n (x ∷ xs) ≤ distance_at n xs
distance_rises zero x [] up small = small x (inl refl)
distance_rises zero x (y ∷ ys) up small = before_distance x y up.0.0
distance_rises (suc n) x [] up small = omega arith
distance_rises (suc n) x (y ∷ ys) up small = distance_rises n y ys up.1 (λ q has. small q (inr has))

-- the distance at place n of a part is at least that of the whole
pub distance_part : (n : ℕ) (xs ys : List Pair) → Ascending xs → Ascending ys → AllNear ys → Among xs ys
    → distance_at n ys ≤ distance_at n xs
distance_part n [] ys a b small among = distance_small n ys small
distance_part n (x ∷ xs) [] a b small among = absurd (among x (inl refl))
distance_part zero (x ∷ xs) (y ∷ ys) a b small among =
    ⊎_elim
    (λ (e : x ≡ y). let d : x.distance ≡ y.distance = ap (λ (p : Pair). p.distance) e in omega arith)
    (λ (low : In x ys). before_distance y x (above_has y ys b.0 x low))
    (among x (inl refl))
distance_part (suc n) (x ∷ xs) (y ∷ ys) a b small among =
    ⊎_elim
    (λ (e : x ≡ y). distance_part n xs ys a.1 b.1 small_rest (tails_among x y xs ys e a.0 among))
    (λ (low : In x ys).
    let rest : Among (x ∷ xs) ys = rest_among x y xs ys a.0 b.0 low among in
    let one : distance_at n ys ≤ distance_at n (x ∷ xs) =
    distance_part n (x ∷ xs) ys a b.1 small_rest rest in
    let two : distance_at n (x ∷ xs) ≤ distance_at n xs =
    distance_rises n x xs a (λ q has. small_rest q (rest q has)) in
    omega arith)
    (among x (inl refl))
  where
    small_rest : AllNear ys
    small_rest q has = small q (inr has)

-- no pair of the n + 1 smallest is farther than the one at place n
pub distance_last : (n : ℕ) (ps : List Pair) → Ascending ps → AllNear ps
    → (p : Pair) → In p (take (suc n) ps) → p.distance ≤ distance_at n ps
distance_last n [] up small p has = absurd has
distance_last zero (q ∷ qs) up small p has =
    ⊎_elim
    (λ (e : p ≡ q). let d : p.distance ≡ q.distance = ap (λ (r : Pair). r.distance) e in omega arith)
    (λ (t : ⊥). absurd t)
    has
distance_last (suc n) (q ∷ qs) up small p has =
    ⊎_elim
    (λ (e : p ≡ q).
    let d : p.distance ≡ q.distance = ap (λ (r : Pair). r.distance) e in
    let one : distance_at n (q ∷ qs) ≤ distance_at n qs = distance_rises n q qs up small in
    let two : q.distance ≤ distance_at n (q ∷ qs) = distance_last n (q ∷ qs) up small q (inl refl) in
    omega arith)
    (λ (t : In p (take (suc n) qs)). distance_last n qs up.1 (λ r i. small r (inr i)) p t)
    has
