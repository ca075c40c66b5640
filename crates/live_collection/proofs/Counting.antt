-- The nearest of two parts of a collection are the nearest of what each part gives, where the numbers of the second are counted
-- on (`counted_on`); and each pair of an answer has the number of a series (`answer_below`).
use Rattle.std.proofs.Common.{◌≡◌, ℕ, zero, suc, ◌+◌, ◌<◌, true, false, List, [], ◌∷◌, ◌++◌, All, length, map, take, refl, sym, ap, ap₂, ◌∙◌, subst, ⊎_elim, inl, inr, nat_lt, arith}
use Rattle.std.specs.Prelude.{ℤ}
use Rattle.std.proofs.lemmas.List.{take-map, take_all}
use Rattle.series_core.specs.Best.{Best, IsBest}
use Rattle.std.proofs.lemmas.Bool.{cases_Bool}
use Rattle.std.proofs.lemmas.Bool.Decides.{nat_tests}
use Rattle.list_totals.specs.Standing.{In}
use Rattle.series_core.specs.Collection.{Collection}
use Rattle.series_core.specs.Answer.{answer, pair_of, pairs_from}
use Rattle.series_core.specs.Pairs.{is_before, insert, ascending, smallest}
use Rattle.series_core.specs.declared.pair.Pair.{Pair}
use Rattle.series_core.proofs.Plain.{answer-smallest, has_ascending, number_within}
use Rattle.series_core.proofs.Parts.{has_take}
use Rattle.series_core.proofs.Smallest.{smallest-append, ascending-append_swap}
use Rattle.series_core.proofs.Sorting.{insert_front, insert_behind}
use Rattle.live_collection.specs.Numbers.{counted_from}

-- the pairs of series that are numbered from later on
pairs_later : (s t : ℕ) (rows : List (List ℤ)) (q : List ℤ)
    → pairs_from (s + t) rows q ≡ map (counted_from s) (pairs_from t rows q)
pairs_later s t [] q = refl
pairs_later s t (row ∷ rows) q =
    let e : (s + t) + 1 ≡ s + (t + 1) = omega arith in
    ap (λ (rest : List Pair). pair_of q (s + t) row ∷ rest)
    (ap (λ n. pairs_from n rows q) e ∙ pairs_later s (t + 1) rows q)

-- the pairs of two parts, the second numbered on from the first
pairs_both : (s : ℕ) (xs ys : List (List ℤ)) (q : List ℤ)
    → pairs_from s (xs ++ ys) q ≡ pairs_from s xs q ++ pairs_from (s + length xs) ys q
pairs_both s [] ys q = let e : s ≡ s + 0 = omega arith in ap (λ n. pairs_from n ys q) e
pairs_both s (x ∷ xs) ys q =
    let e : (s + 1) + length xs ≡ s + suc (length xs) = omega arith in
    ap (λ (rest : List Pair). pair_of q s x ∷ rest)
    (pairs_both (s + 1) xs ys q ∙ ap (λ n. pairs_from (s + 1) xs q ++ pairs_from n ys q) e)

lt_later : (s a b : ℕ) → nat_lt (s + a) (s + b) ≡ nat_lt a b
lt_later s a b = grind (arith, nat_tests)

-- counting on changes no order
before_later : (s : ℕ) (p q : Pair) → is_before (counted_from s p) (counted_from s q) ≡ is_before p q
before_later s p q = rw lt_later refl

insert_later : (s : ℕ) (p : Pair) (qs : List Pair)
    → insert (counted_from s p) (map (counted_from s) qs) ≡ map (counted_from s) (insert p qs)
insert_later s p [] = refl
insert_later s p (q ∷ qs) =
    ⊎_elim
    (λ (before : is_before q p ≡ true).
    insert_behind (counted_from s p) (counted_from s q) (map (counted_from s) qs) (before_later s q p ∙ before)
    ∙ ap (λ (rest : List Pair). counted_from s q ∷ rest) (insert_later s p qs)
    ∙ sym (ap (map (counted_from s)) (insert_behind p q qs before)))
    (λ (not : is_before q p ≡ false).
    insert_front (counted_from s p) (counted_from s q) (map (counted_from s) qs) (before_later s q p ∙ not)
    ∙ sym (ap (map (counted_from s)) (insert_front p q qs not)))
    (cases_Bool (is_before q p))

ascending_later : (s : ℕ) (ps : List Pair) → ascending (map (counted_from s) ps) ≡ map (counted_from s) (ascending ps)
ascending_later s [] = refl
ascending_later s (p ∷ ps) =
    ap (insert (counted_from s p)) (ascending_later s ps) ∙ insert_later s p (ascending ps)

smallest_later : (s k : ℕ) (ps : List Pair)
    → smallest k (map (counted_from s) ps) ≡ map (counted_from s) (smallest k ps)
smallest_later s k ps = ap (take k) (ascending_later s ps) ∙ take-map (counted_from s) k (ascending ps)

-- the k nearest of the first series, and those of the next ones with their numbers counted on, make the k nearest of both
pub counted_on : (k : ℕ) (xs ys : List (List ℤ)) (q : List ℤ) (held found : List Pair)
    → held ≡ smallest k (pairs_from 0 xs q) → found ≡ smallest k (pairs_from 0 ys q)
    → smallest k (map (counted_from (length xs)) found ++ held) ≡ smallest k (pairs_from 0 (xs ++ ys) q)
counted_on k xs ys q held found h f =
    let first : List Pair = pairs_from 0 xs q in
    let next : List Pair = map (counted_from (length xs)) (pairs_from 0 ys q) in
    let moved : map (counted_from (length xs)) found ≡ smallest k next
    = ap (map (counted_from (length xs))) f ∙ sym (smallest_later (length xs) k (pairs_from 0 ys q)) in
    let e : length xs + 0 ≡ 0 + length xs = omega arith in
    let numbered : next ≡ pairs_from (0 + length xs) ys q
    = sym (pairs_later (length xs) 0 ys q) ∙ ap (λ n. pairs_from n ys q) e in
    ap₂ (λ (a b : List Pair). smallest k (a ++ b)) moved h
    ∙ smallest-append k next first
    ∙ ap (take k) (ascending-append_swap next first)
    ∙ ap (λ (b : List Pair). smallest k (first ++ b)) numbered
    ∙ sym (ap (smallest k) (pairs_both 0 xs ys q))

all_in : {X : Type 0} (P : X → Type 0) (xs : List X) → ((x : X) → In x xs → P x) → All P xs
all_in P [] h k d i = absurd (omega arith)
all_in P (x ∷ xs) h zero d i = h x (inl refl)
all_in P (x ∷ xs) h (suc k) d i = all_in P xs (λ y t. h y (inr t)) k d (omega arith)

-- each pair of an answer has the number of a series
pub answer_below : (c : Collection) (q : List ℤ) (k : ℕ) → All (λ p. p.number < length c.series) (answer c q k)
answer_below c q k =
    subst (All (λ (p : Pair). p.number < length c.series)) (sym (answer-smallest c q k))
    (all_in (λ (p : Pair). p.number < length c.series) (smallest k (pairs_from 0 c.series q))
    (λ p has. let low = (number_within 0 c.series q p
    (has_ascending p (pairs_from 0 c.series q) (has_take k p (ascending (pairs_from 0 c.series q)) has))).1 in omega arith))

-- the pairs that are held are the best of themselves
pub best_itself : (best : Best) → IsBest best → best.pairs ≡ smallest best.k best.pairs
best_itself best sound = sym (ap (take best.k) sound.ordered ∙ take_all best.k best.pairs sound.size)
