-- The pairs of a whole collection: different series, so that their order is strict.
use Rattle.std.proofs.Common.{◌≡◌, ℕ, zero, suc, ◌+◌, ◌≤◌, ◌<◌, List, [], ◌∷◌, take, Bool, Some, length, refl, sym, ap, ◌∙◌, subst, inl, inr, ⊎_elim, arith}
use Rattle.std.specs.Prelude.{ℤ, slice_get, nat_le}
use Rattle.std.specs.List.{filter}
use Rattle.std.proofs.lemmas.Bool.{cond_both}
use Rattle.std.proofs.lemmas.List.{take_all}
use Rattle.series_core.specs.Collection.{Collection}
use Rattle.series_core.specs.Pairs.{is_before, ascending, smallest, rank_of}
use Rattle.list_totals.specs.Standing.{In}
use Rattle.list_totals.proofs.Standing.{in_place}
use Rattle.series_core.specs.Order.{Ascending}
use Rattle.series_core.specs.Answer.{pair_of, pairs_from, pairs_of, answer, within}
use Rattle.series_core.specs.Distance.{squared_distance}
use Rattle.series_core.specs.declared.pair.Pair.{Pair}
use Rattle.series_core.proofs.Parts.{ascending_insert, has_insert, insert_has}
use Rattle.series_core.proofs.Ranks.{by_rank_smallest, place_rank}
use Rattle.series_core.proofs.Tallies.{count_by-tally, tally-ascending}
use Rattle.std.proofs.lemmas.Option.{none-some}
use Rattle.series_core.proofs.Room.{length-insert}

-- the numbers begin with the first, and each is that of a series
pub number_within : (s : ℕ) (rows : List (List ℤ)) (q : List ℤ) (p : Pair) → In p (pairs_from s rows q)
    → (s ≤ p.number) × (p.number < s + length rows)
number_within s [] q p has = absurd has
number_within s (row ∷ rows) q p has =
    ⊎_elim
    (λ (e : p ≡ pair_of q s row). let n : p.number ≡ s = ap (λ (x : Pair). x.number) e in (omega arith, omega arith))
    (λ (t : In p (pairs_from (s + 1) rows q)). let rest = number_within (s + 1) rows q p t in
    (omega (arith, rest.0), omega (arith, rest.1)))
    has

-- putting a list into order changes nothing in what stands in it
pub has_ascending : (p : Pair) (ps : List Pair) → In p (ascending ps) → In p ps
has_ascending p [] has = absurd has
has_ascending p (q ∷ qs) has =
    ⊎_elim
    (λ (e : p ≡ q). inl e)
    (λ (t : In p (ascending qs)). inr (has_ascending p qs t))
    (has_insert p q (ascending qs) has)

pub ascending_has : (p : Pair) (ps : List Pair) → In p ps → In p (ascending ps)
ascending_has p [] has = absurd has
ascending_has p (q ∷ qs) has =
    insert_has p q (ascending qs)
    (⊎_elim (λ (e : p ≡ q). inl e) (λ (t : In p qs). inr (ascending_has p qs t)) has)

-- what passes a test stands in the list
has_filter : (test : Pair → Bool) (p : Pair) (qs : List Pair) → In p (filter test qs) → In p qs
has_filter test p [] = λ has. has
has_filter test p (q ∷ qs) =
    cond_both (test q) (q ∷ filter test qs) (filter test qs) (λ rs. In p rs → In p (q ∷ qs))
    (λ _ has. ⊎_elim (λ (e : p ≡ q). inl e) (λ (t : In p (filter test qs)). inr (has_filter test p qs t)) has)
    (λ _ has. inr (has_filter test p qs has))

-- putting a list into order keeps its length
pub length-ascending : (ps : List Pair) → length (ascending ps) ≡ length ps
length-ascending [] = refl
length-ascending (p ∷ ps) = length-insert p (ascending ps) ∙ ap suc (length-ascending ps)

-- in order, the pairs of a collection ascend strictly
pub strict_from : (s : ℕ) (rows : List (List ℤ)) (q : List ℤ) → Ascending (ascending (pairs_from s rows q))
strict_from s [] q = tt
strict_from s (row ∷ rows) q =
    ascending_insert (pair_of q s row) (ascending (pairs_from (s + 1) rows q)) new (strict_from (s + 1) rows q)
  where
    new : In (pair_of q s row) (ascending (pairs_from (s + 1) rows q)) → ⊥
    new has =
        let low = (number_within (s + 1) rows q (pair_of q s row)
        (has_ascending (pair_of q s row) (pairs_from (s + 1) rows q) has)).0 in
        omega arith

-- so do those that are within a radius
strict_within : (r s : ℕ) (rows : List (List ℤ)) (q : List ℤ)
    → Ascending (ascending (filter (λ p. nat_le p.distance r) (pairs_from s rows q)))
strict_within r s [] q = tt
strict_within r s (row ∷ rows) q =
    cond_both (nat_le (squared_distance row q) r) (pair_of q s row ∷ near) near
    (λ ps. Ascending (ascending ps))
    (λ _. ascending_insert (pair_of q s row) (ascending near) new (strict_within r (s + 1) rows q))
    (λ _. strict_within r (s + 1) rows q)
  where
    near : List Pair
    near = filter (λ p. nat_le p.distance r) (pairs_from (s + 1) rows q)

    new : In (pair_of q s row) (ascending near) → ⊥
    new has =
        let low = (number_within (s + 1) rows q (pair_of q s row)
        (has_filter (λ p. nat_le p.distance r) (pair_of q s row) (pairs_from (s + 1) rows q)
        (has_ascending (pair_of q s row) near has))).0 in
        omega arith

-- the pairs within a radius are those that pass, ascending
pub within-ascending : (c : Collection) (q : List ℤ) (r : ℕ)
    → within c q r ≡ ascending (filter (λ p. nat_le p.distance r) (pairs_of c q))
within-ascending c q r =
    by_rank_smallest near (length near) (strict_within r 0 c.series q)
    ∙ take_all (length near) (ascending near) (let size = length-ascending near in omega arith)
  where
    near : List Pair
    near = filter (λ p. nat_le p.distance r) (pairs_of c q)

-- what stands at a place of the first k stands there in the whole list
pub get_take : (k : ℕ) (qs : List Pair) (n : ℕ) (p : Pair) → slice_get (take k qs) n ≡ Some p
    → (n < k) × (slice_get qs n ≡ Some p)
get_take zero qs n p e = absurd (none-some p e)
get_take (suc k) [] n p e = absurd (none-some p e)
get_take (suc k) (q ∷ qs) zero p e = (omega arith, e)
get_take (suc k) (q ∷ qs) (suc n) p e = let rest = get_take k qs n p e in (omega arith, rest.1)

-- the answer is the k smallest pairs of the collection
pub answer-smallest : (c : Collection) (q : List ℤ) (k : ℕ) → answer c q k ≡ smallest k (pairs_of c q)
answer-smallest c q k = by_rank_smallest (pairs_of c q) k (strict_from 0 c.series q)

-- the place of a pair in the answer is its rank among all, and it is the pair of a series
pub answer-rank : (c : Collection) (q : List ℤ) (k n : ℕ) (p : Pair) → slice_get (answer c q k) n ≡ Some p
    → (n < k) × (rank_of (pairs_of c q) p ≡ n) × In p (pairs_of c q)
answer-rank c q k n p e =
    let all : List Pair = pairs_of c q in
    let found : slice_get (take k (ascending all)) n ≡ Some p =
    subst (λ ps. slice_get ps n ≡ Some p) (answer-smallest c q k) e in
    let place = get_take k (ascending all) n p found in (
      place.0,
      count_by-tally (λ r. is_before r p) all ∙ sym (tally-ascending (λ r. is_before r p) all)
          ∙ place_rank (ascending all) n p (strict_from 0 c.series q) place.1,
      has_ascending p all (in_place (ascending all) n p place.1),
    )
