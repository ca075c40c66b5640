-- The first pairs are enough to choose from: what is chosen of them is chosen of all.
use Rattle.std.proofs.Common.{mul-le-mul_right, ◌≡◌, ℕ, zero, suc, ◌+◌, ◌-◌, ◌*◌, ◌<◌, ◌≤◌, List, ◌∷◌, [], ◌++◌, length, take, drop, Some, Bool, refl, sym, ap, ◌∙◌, arith, length-take}
use Rattle.std.specs.Prelude.{ℤ, nat_eq, find}
use Rattle.std.specs.List.{IsDistinct}
use Rattle.std.specs.Option.{option_or}
use Rattle.std.proofs.lemmas.List.{take_all, take-append-drop}
use Rattle.std.proofs.lemmas.List.Folds.{find-append}
use Rattle.series_core.specs.Collection.{Collection}
use Rattle.series_core.specs.Pairs.{ascending}
use Rattle.series_core.specs.Answer.{answer, pairs_of, pairs_from}
use Rattle.series_core.specs.declared.pair.Pair.{Pair}
use Rattle.series_core.proofs.Plain.{answer-smallest, length-ascending}
use Rattle.window_rows.specs.Choice.{is_apart_from, chosen_apart, enough}
use Rattle.window_rows.proofs.Ranking.{found_or_not, chosen_some, chosen_size}
use Rattle.window_rows.proofs.Shutting.{few_left}
use Rattle.window_rows.proofs.Numbers.{numbers, distinct_take, distinct_ascending, distinct_pairs}

-- what is enough for one more rank: 2 * far - 1 for each rank before, and one
enough_next : (far k : ℕ) → enough far (suc k) ≡ k * (2 * far - 1) + 1
enough_next far k = let e : suc k - 1 ≡ k = omega arith in ap (λ m. m * (2 * far - 1) + 1) e

enough_fewer : (far k : ℕ) → enough far k ≤ enough far (suc k)
enough_fewer far k =
    let less : (k - 1) * (2 * far - 1) ≤ k * (2 * far - 1) =
    mul-le-mul_right (2 * far - 1) (omega arith) in
    omega (arith, enough_next far k)

-- what is found in the first pairs is found in all
found_first : (test : Pair → Bool) (m : ℕ) (pairs : List Pair) (p : Pair)
    → find test (take m pairs) ≡ Some p
    → find test pairs ≡ Some p
found_first test m pairs p e =
    ap (find test) (sym (take-append-drop m pairs)) ∙ find-append test (take m pairs) (drop m pairs)
    ∙ ap (λ o. option_or o (find test (drop m pairs))) e

-- one more rank
one_more : (far k m : ℕ) (pairs : List Pair) → 0 < far → IsDistinct nat_eq (numbers pairs)
    → enough far (suc k) ≤ m → chosen_apart far (take m pairs) k ≡ chosen_apart far pairs k
    → chosen_apart far (take m pairs) (suc k) ≡ chosen_apart far pairs (suc k)
one_more far k m pairs some distinct fits same =
    found_or_not (find (is_apart_from far (chosen_apart far (take m pairs) k)) (take m pairs))
    (λ none.
    let few = few_left far (chosen_apart far (take m pairs) k) (take m pairs) some
    (distinct_take m pairs distinct) none in
    let size : length (chosen_apart far (take m pairs) k) * (2 * far - 1) ≤ k * (2 * far - 1) =
    mul-le-mul_right (2 * far - 1) (chosen_size far (take m pairs) k) in
    let all : length pairs ≤ m = omega (
      arith,
      few,
      size,
      fits,
      enough_next far k,
      length-take m pairs,
    ) in
    ap (λ ps. chosen_apart far ps (suc k)) (take_all m pairs all))
    (λ p e.
    chosen_some far (take m pairs) k p e
    ∙ ap (λ c. c ++ p ∷ []) same
    ∙ sym (chosen_some far pairs k p
    (found_first (is_apart_from far (chosen_apart far pairs k)) m pairs p
    (ap (λ c. find (is_apart_from far c) (take m pairs)) (sym same) ∙ e))))

pub first_enough : (far k m : ℕ) (pairs : List Pair) → 0 < far → IsDistinct nat_eq (numbers pairs)
    → enough far k ≤ m → chosen_apart far (take m pairs) k ≡ chosen_apart far pairs k
first_enough far zero m pairs some distinct fits = refl
first_enough far (suc k) m pairs some distinct fits =
    one_more far k m pairs some distinct fits
    (first_enough far k m pairs some distinct (omega (arith, enough_fewer far k)))

-- as many pairs as series
length-pairs_from : (s : ℕ) (rows : List (List ℤ)) (q : List ℤ)
    → length (pairs_from s rows q) ≡ length rows
length-pairs_from s [] q = refl
length-pairs_from s (xs ∷ rows) q = ap suc (length-pairs_from (s + 1) rows q)

-- the answer with all series is all pairs in order
all_pairs : (c : Collection) (q : List ℤ) → answer c q (length c.series) ≡ ascending (pairs_of c q)
all_pairs c q =
    answer-smallest c q (length c.series)
    ∙ take_all (length c.series) (ascending (pairs_of c q))
    (omega (arith, length-ascending (pairs_of c q), length-pairs_from 0 c.series q))

pub nearest_enough : (far k m : ℕ) (c : Collection) (q : List ℤ) → 0 < far → enough far k ≤ m
    → chosen_apart far (answer c q m) k ≡ chosen_apart far (answer c q (length c.series)) k
nearest_enough far k m c q some fits =
    ap (λ ps. chosen_apart far ps k) (answer-smallest c q m)
    ∙ first_enough far k m (ascending (pairs_of c q)) some
    (distinct_ascending (pairs_of c q) (distinct_pairs 0 c.series q)) fits
    ∙ ap (λ ps. chosen_apart far ps k) (sym (all_pairs c q))
