-- The place of a pair in the answer is the number of smaller pairs, and the answer has all that it
-- may have.
use Rattle.std.proofs.Common.{List, Some, [], ap, arith, length, min, refl, suc, sym, take, zero, ℕ, ◌+◌, ◌-◌, ◌<◌, ◌∙◌, ◌∷◌, ◌≡◌}
use Rattle.std.specs.Prelude.{slice_get, ℤ}
use Rattle.series_core.proofs.Plain.{answer-smallest, get_take, length-ascending}
use Rattle.list_totals.proofs.Standing.{in_place as get_has}
use Rattle.series_core.proofs.Ranks.{place_rank}
use Rattle.series_core.proofs.Tallies.{count_by-tally, tally-ascending}
use Rattle.series_core.specs.Answer.{answer as collection_answer, distance_or_none, last as collection_last, pairs_from as collection_pairs}
use Rattle.series_core.specs.Collection.{Collection}
use Rattle.series_core.specs.Distance.{squared_distance}
use Rattle.series_core.specs.Order.{distance_at}
use Rattle.series_core.specs.Pairs.{is_before, smallest}
use Rattle.series_core.specs.declared.pair.Pair.{Pair}
use Rattle.search_machine.specs.Ground.{Ground, HasRank, answer, last, pair_of, pairs, pairs_from, plain}
use Rattle.search_machine.specs.Measures.{Measures}
use Rattle.search_machine.proofs.PlainList.{ascending_plain, plain_has}

-- the pair at a place of the answer has that place as its rank
pub answer_rank : (g : Ground) (n : ℕ) (p : Pair) → slice_get (answer g) n ≡ Some p → HasRank g n p
answer_rank g n p e =
    let place = get_take g.k (plain g) n p e in
    let is = plain_has g p (get_has (plain g) n p place.1) in
    record {
      below = place.0;
      series = is.0;
      pair = is.1;
      rank =
          count_by-tally (λ q. is_before q p) (pairs g)
          ∙ sym (tally-ascending (λ q. is_before q p) (pairs g))
          ∙ place_rank (plain g) n p (ascending_plain g) place.1;
    }

-- the pairs of n series are n
length_pairs : (g : Ground) (s n : ℕ) → length (pairs_from g s n) ≡ n
length_pairs g s zero = refl
length_pairs g s (suc n) = let rest = length_pairs g (s + 1) n in omega arith

-- the first k of a list are the lesser of k and its length
length_taken : (k : ℕ) (qs : List Pair) → length (take k qs) ≡ min k (length qs)
length_taken zero qs = omega arith
length_taken (suc k) [] = omega arith
length_taken (suc k) (q ∷ qs) = let rest = length_taken k qs in omega arith

-- the answer has the lesser of k and the number of series as its length
pub answer_size : (g : Ground) → length (answer g) ≡ min g.k g.count
answer_size g =
    length_taken g.k (plain g)
    ∙ ap (min g.k) (length-ascending (pairs g) ∙ length_pairs g 0 g.count)

-- where the distances are those of a collection's series, so are the pairs
pairs_match : (g : Ground) (q : List ℤ) (s : ℕ) (rows : List (List ℤ))
    → ((i : ℕ) (xs : List ℤ) → slice_get rows i ≡ Some xs
    → g.distance (s + i) ≡ squared_distance xs q)
    → pairs_from g s (length rows) ≡ collection_pairs s rows q
pairs_match g q s [] same = refl
pairs_match g q s (xs ∷ rows) same =
    ap (λ (ps : List Pair). pair_of g s ∷ ps) (pairs_match g q (s + 1) rows later)
    ∙ ap (λ (d : ℕ). record { distance = d; number = s } ∷ collection_pairs (s + 1) rows q) first
  where
    first : g.distance s ≡ squared_distance xs q
    first = let here : s + 0 ≡ s = omega arith in ap g.distance (sym here) ∙ same 0 xs refl

    later : (i : ℕ) (ys : List ℤ) → slice_get rows i ≡ Some ys
        → g.distance (s + 1 + i) ≡ squared_distance ys q
    later i ys e =
        let next : s + 1 + i ≡ s + suc i = omega arith in ap g.distance next ∙ same (suc i) ys e

-- all pairs are those of the collection
pub pairs_same : (g : Ground) (c : Collection) (q : List ℤ) → Measures g c q
    → pairs g ≡ collection_pairs 0 c.series q
pairs_same g c q m =
    ap (pairs_from g 0) m.count
    ∙ pairs_match g q 0 c.series (λ i xs e.
    let none : 0 + i ≡ i = omega arith in ap g.distance none ∙ m.distance i xs e)

-- so the answer is the collection's answer
pub answer_same : (g : Ground) (c : Collection) (q : List ℤ) → Measures g c q
    → answer g ≡ collection_answer c q g.k
answer_same g c q m =
    ap (smallest g.k) (pairs_same g c q m) ∙ sym (answer-smallest c q g.k)

-- the distance at the last of the first places of a list is that of the pair there, or NONE
last_taken : (n : ℕ) (qs : List Pair)
    → distance_at n qs ≡ distance_or_none (slice_get (take (suc n) qs) n)
last_taken zero [] = refl
last_taken (suc n) [] = refl
last_taken zero (q ∷ qs) = refl
last_taken (suc n) (q ∷ qs) = last_taken n qs

-- and the last distance is the collection's
pub last_same : (g : Ground) (c : Collection) (q : List ℤ) → 0 < g.k → Measures g c q
    → last g ≡ collection_last c q g.k
last_same g c q some_rank m =
    let k : suc (g.k - 1) ≡ g.k = omega arith in
    last_taken (g.k - 1) (plain g)
    ∙ ap (λ (n : ℕ). distance_or_none (slice_get (take n (plain g)) (g.k - 1))) k
    ∙ ap (λ (ps : List Pair). distance_or_none (slice_get ps (g.k - 1))) (answer_same g c q m)
