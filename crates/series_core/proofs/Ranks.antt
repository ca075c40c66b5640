-- Ranks: in an ascending list the place of a pair is its rank, so the pairs by rank are the smallest ones.
use Rattle.std.proofs.Common.{◌≡◌, ℕ, zero, suc, ◌+◌, ◌≤◌, List, [], ◌∷◌, ◌++◌, take, Bool, true, false, cond, Some, None, Option, length, refl, sym, ap, ◌∙◌, subst, arith, zero-add}
use Rattle.std.specs.Prelude.{slice_get, nat_eq}
use Rattle.std.specs.List.{filter}
use Rattle.std.specs.Option.{option_to_list}
use Rattle.std.proofs.lemmas.Bool.{cond-true, cond-false}
use Rattle.std.proofs.lemmas.Bool.Decides.{nat_tests}
use Rattle.std.proofs.lemmas.Option.{same_Some, none-some}
use Rattle.std.proofs.lemmas.List.Sums.{length-filter}
use Rattle.series_core.specs.Pairs.{is_before, ascending, smallest, rank_of, at_rank, by_rank}
use Rattle.list_totals.proofs.Standing.{in_place}
use Rattle.series_core.specs.Order.{Above, Ascending}
use Rattle.series_core.specs.declared.pair.Pair.{Pair}
use Rattle.series_core.proofs.Order.{before_self, not_after}
use Rattle.series_core.proofs.Parts.{above_has}
use Rattle.series_core.proofs.Tallies.{one_if, one_if_true, one_if_false, tally, count_by-tally, tally-ascending, filter-ascending}

-- nothing in a list above p is smaller than p
none_smaller : (p : Pair) (qs : List Pair) → Above p qs → tally (λ q. is_before q p) qs ≡ 0
none_smaller p [] above = refl
none_smaller p (q ∷ qs) above =
    let rest = none_smaller p qs above.1 in
    let none : one_if (is_before q p) ≡ 0 = one_if_false (is_before q p) (not_after p q above.0) in
    omega arith

-- in an ascending list as many pairs are smaller as stand before
pub place_rank : (qs : List Pair) (n : ℕ) (p : Pair) → Ascending qs → slice_get qs n ≡ Some p
    → tally (λ q. is_before q p) qs ≡ n
place_rank [] n p up e = absurd (none-some p e)
place_rank (q ∷ qs) zero p up e =
    let same : q ≡ p = same_Some q p e in
    let rest = none_smaller p qs (subst (λ (r : Pair). Above r qs) same up.0) in
    let self : is_before q p ≡ false = subst (λ (r : Pair). is_before r p ≡ false) (sym same) (before_self p) in
    let none : one_if (is_before q p) ≡ 0 = one_if_false (is_before q p) self in
    omega arith
place_rank (q ∷ qs) (suc n) p up e =
    let rest = place_rank qs n p up.1 e in
    let one : one_if (is_before q p) ≡ 1 =
    one_if_true (is_before q p) (above_has q qs up.0 p (in_place qs n p e)) in
    omega arith

-- where no place of the list passes, nothing passes
filter_none : (test : Pair → Bool) (qs : List Pair)
    → ((n : ℕ) (p : Pair) → slice_get qs n ≡ Some p → test p ≡ false) → filter test qs ≡ []
filter_none test [] fails = refl
filter_none test (q ∷ qs) fails =
    cond-false (test q) (q ∷ filter test qs) (filter test qs) (fails zero q refl)
    ∙ filter_none test qs (λ n p e. fails (suc n) p e)

-- where a number of each pair is its place, from a first one on, one place has the number
filter_place : (f : Pair → ℕ) (first : ℕ) (qs : List Pair) (r : ℕ)
    → ((n : ℕ) (p : Pair) → slice_get qs n ≡ Some p → f p ≡ first + n)
    → filter (λ p. nat_eq (f p) (first + r)) qs ≡ option_to_list (slice_get qs r)
filter_place f first [] r places = refl
filter_place f first (q ∷ qs) zero places =
    let here : nat_eq (f q) (first + 0) ≡ true = let e = places zero q refl in grind (arith, nat_tests) in
    cond-true (nat_eq (f q) (first + 0)) (q ∷ filter (λ p. nat_eq (f p) (first + 0)) qs) _ here
    ∙ ap (λ rest. q ∷ rest) (filter_none (λ p. nat_eq (f p) (first + 0)) qs
    (λ n p e. let place = places (suc n) p e in grind (arith, nat_tests)))
filter_place f first (q ∷ qs) (suc r) places =
    let here : nat_eq (f q) (first + suc r) ≡ false = let e = places zero q refl in grind (arith, nat_tests) in
    let next : first + suc r ≡ suc first + r = omega arith in
    cond-false (nat_eq (f q) (first + suc r)) (q ∷ filter (λ p. nat_eq (f p) (first + suc r)) qs) _ here
    ∙ ap (λ m. filter (λ p. nat_eq (f p) m) qs) next
    ∙ filter_place f (suc first) qs r (λ n p e. let place = places (suc n) p e in omega arith)

-- where two tests agree, the same pairs pass
filter_agree : (test other : Pair → Bool) (qs : List Pair) → ((p : Pair) → test p ≡ other p)
    → filter test qs ≡ filter other qs
filter_agree test other [] same = refl
filter_agree test other (q ∷ qs) same =
    ap (λ b. cond b (q ∷ filter test qs) (filter test qs)) (same q)
    ∙ ap (λ rest. cond (other q) (q ∷ rest) rest) (filter_agree test other qs same)

-- a value that is there or not makes a list of one at most
at_most_one : (o : Option Pair) → length (option_to_list o) ≤ 1
at_most_one None = omega arith
at_most_one (Some p) = omega arith

-- where the order is strict, the pair of a rank is the one at that place of the ascending list
pub at_rank_place : (ps : List Pair) (r : ℕ) → Ascending (ascending ps)
    → at_rank ps r ≡ option_to_list (slice_get (ascending ps) r)
at_rank_place ps r up =
    sym (filter-ascending (λ p. nat_eq (rank_of ps p) r) ps few)
    ∙ passing
  where
    qs : List Pair
    qs = ascending ps

    place : Pair → ℕ
    place p = tally (λ q. is_before q p) qs

    rank_place : (p : Pair) → rank_of ps p ≡ place p
    rank_place p = count_by-tally (λ q. is_before q p) ps ∙ sym (tally-ascending (λ q. is_before q p) ps)

    passing : filter (λ p. nat_eq (rank_of ps p) r) qs ≡ option_to_list (slice_get qs r)
    passing =
        filter_agree (λ p. nat_eq (rank_of ps p) r) (λ p. nat_eq (place p) (0 + r)) qs
        (λ p. ap (λ n. nat_eq n r) (rank_place p) ∙ ap (nat_eq (place p)) (sym (zero-add r)))
        ∙ filter_place place 0 qs r (λ n p e. place_rank qs n p up e ∙ sym (zero-add n))

    few : tally (λ p. nat_eq (rank_of ps p) r) ps ≤ 1
    few =
        let test : Pair → Bool = λ p. nat_eq (rank_of ps p) r in
        let sorted : tally test qs ≡ tally test ps = tally-ascending test ps in
        let count : tally test qs ≡ length (option_to_list (slice_get qs r)) =
        sym (count_by-tally test qs) ∙ sym (length-filter test qs) ∙ ap length passing in
        let one = at_most_one (slice_get qs r) in
        omega arith

-- one more of the first pairs
take_next : (n : ℕ) (qs : List Pair) → take n qs ++ option_to_list (slice_get qs n) ≡ take (suc n) qs
take_next zero [] = refl
take_next zero (q ∷ qs) = refl
take_next (suc n) [] = refl
take_next (suc n) (q ∷ qs) = ap (λ rest. q ∷ rest) (take_next n qs)

-- where the order is strict, the first k by rank are the k smallest
pub by_rank_smallest : (ps : List Pair) (k : ℕ) → Ascending (ascending ps) → by_rank ps k ≡ smallest k ps
by_rank_smallest ps zero up = refl
by_rank_smallest ps (suc k) up =
    ap (λ before. before ++ at_rank ps k) (by_rank_smallest ps k up)
    ∙ ap (λ more. smallest k ps ++ more) (at_rank_place ps k up)
    ∙ take_next k (ascending ps)
