-- How many pairs pass a test: the same before and after a list is put into order.
use Rattle.std.proofs.Common.{◌≡◌, ℕ, suc, ◌+◌, ◌≤◌, List, [], ◌∷◌, Bool, true, false, cond, length, refl, sym, ap, ◌∙◌, ⊎_elim, arith}
use Rattle.std.specs.List.{filter, count_by}
use Rattle.std.proofs.lemmas.Bool.{cond_both, cases_Bool, cond-true, cond-false}
use Rattle.std.proofs.lemmas.List.{nil_from_length}
use Rattle.std.proofs.lemmas.List.Sums.{length-filter}
use Rattle.series_core.specs.Pairs.{is_before, insert, ascending}
use Rattle.series_core.specs.declared.pair.Pair.{Pair}

-- one where the test holds, and else none
abbrev pub one_if : Bool → ℕ
one_if b = cond b 1 0

pub one_if_true : (b : Bool) → b ≡ true → one_if b ≡ 1
one_if_true b h = cond-true b 1 0 h

pub one_if_false : (b : Bool) → b ≡ false → one_if b ≡ 0
one_if_false b h = cond-false b 1 0 h

-- how many pairs of the list pass the test
abbrev pub tally : (Pair → Bool) → List Pair → ℕ
tally test [] = 0
tally test (p ∷ ps) = one_if (test p) + tally test ps

-- std's count is the tally
pub count_by-tally : (test : Pair → Bool) (ps : List Pair) → count_by test ps ≡ tally test ps
count_by-tally test ps = sym (length-filter test ps) ∙ kept_count ps
  where
    kept_count : (qs : List Pair) → length (filter test qs) ≡ tally test qs
    kept_count [] = refl
    kept_count (q ∷ qs) =
        ⊎_elim
        (λ (ok : test q ≡ true).
        let rest = kept_count qs in
        let size : length (filter test (q ∷ qs)) ≡ suc (length (filter test qs)) =
        ap length (cond-true (test q) (q ∷ filter test qs) (filter test qs) ok) in
        let one : one_if (test q) ≡ 1 = one_if_true (test q) ok in
        omega arith)
        (λ (bad : test q ≡ false).
        let rest = kept_count qs in
        let size : length (filter test (q ∷ qs)) ≡ length (filter test qs) =
        ap length (cond-false (test q) (q ∷ filter test qs) (filter test qs) bad) in
        let none : one_if (test q) ≡ 0 = one_if_false (test q) bad in
        omega arith)
        (cases_Bool (test q))

tally-insert : (test : Pair → Bool) (p : Pair) (qs : List Pair)
    → tally test (insert p qs) ≡ one_if (test p) + tally test qs
tally-insert test p [] = refl
tally-insert test p (q ∷ qs) =
    cond_both (is_before q p) (q ∷ insert p qs) (p ∷ q ∷ qs)
    (λ rs. tally test rs ≡ one_if (test p) + tally test (q ∷ qs))
    (λ _. let rest = tally-insert test p qs in omega arith)
    (λ _. refl)

-- as many pairs pass once they are in order
pub tally-ascending : (test : Pair → Bool) (ps : List Pair) → tally test (ascending ps) ≡ tally test ps
tally-ascending test [] = refl
tally-ascending test (p ∷ ps) =
    tally-insert test p (ascending ps) ∙ ap (λ n. one_if (test p) + n) (tally-ascending test ps)

filter_yes : (test : Pair → Bool) (p : Pair) (qs : List Pair) → test p ≡ true
    → filter test (p ∷ qs) ≡ p ∷ filter test qs
filter_yes test p qs ok = cond-true (test p) (p ∷ filter test qs) (filter test qs) ok

filter_no : (test : Pair → Bool) (p : Pair) (qs : List Pair) → test p ≡ false
    → filter test (p ∷ qs) ≡ filter test qs
filter_no test p qs bad = cond-false (test p) (p ∷ filter test qs) (filter test qs) bad

-- an inserted pair that fails the test changes nothing in what passes
filter-insert_no : (test : Pair → Bool) (p : Pair) (qs : List Pair) → test p ≡ false
    → filter test (insert p qs) ≡ filter test qs
filter-insert_no test p [] bad = filter_no test p [] bad
filter-insert_no test p (q ∷ qs) bad =
    cond_both (is_before q p) (q ∷ insert p qs) (p ∷ q ∷ qs)
    (λ rs. filter test rs ≡ filter test (q ∷ qs))
    (λ _. ap (λ rest. cond (test q) (q ∷ rest) rest) (filter-insert_no test p qs bad))
    (λ _. filter_no test p (q ∷ qs) bad)

-- an inserted pair that alone passes the test is all that passes
filter-insert_only : (test : Pair → Bool) (p : Pair) (qs : List Pair) → test p ≡ true → filter test qs ≡ []
    → filter test (insert p qs) ≡ p ∷ []
filter-insert_only test p [] ok none = filter_yes test p [] ok
filter-insert_only test p (q ∷ qs) ok none =
    cond_both (is_before q p) (q ∷ insert p qs) (p ∷ q ∷ qs)
    (λ rs. filter test rs ≡ p ∷ [])
    (λ _. filter_no test q (insert p qs) fails ∙ filter-insert_only test p qs ok rest)
    (λ _. filter_yes test p (q ∷ qs) ok ∙ ap (λ rs. p ∷ rs) none)
  where
    fails : test q ≡ false
    fails = ⊎_elim
        (λ (t : test q ≡ true).
        let kept : q ∷ filter test qs ≡ [] = sym (filter_yes test q qs t) ∙ none in cc)
        (λ (f : test q ≡ false). f)
        (cases_Bool (test q))

    rest : filter test qs ≡ []
    rest = sym (filter_no test q qs fails) ∙ none

-- where no more than one pair passes, the order of the list says nothing
pub filter-ascending : (test : Pair → Bool) (ps : List Pair) → tally test ps ≤ 1
    → filter test (ascending ps) ≡ filter test ps
filter-ascending test [] few = refl
filter-ascending test (p ∷ ps) few =
    ⊎_elim
    (λ (ok : test p ≡ true).
    let one : one_if (test p) ≡ 1 = one_if_true (test p) ok in
    let none : filter test ps ≡ [] = nil_from_length (filter test ps)
    (length-filter test ps ∙ count_by-tally test ps ∙ omega arith) in
    let rest : tally test ps ≤ 1 = omega arith in
    filter-insert_only test p (ascending ps) ok (filter-ascending test ps rest ∙ none)
    ∙ sym (filter_yes test p ps ok ∙ ap (λ rs. p ∷ rs) none))
    (λ (bad : test p ≡ false).
    let zero_more : one_if (test p) ≡ 0 = one_if_false (test p) bad in
    let rest : tally test ps ≤ 1 = omega arith in
    filter-insert_no test p (ascending ps) bad ∙ filter-ascending test ps rest
    ∙ sym (filter_no test p ps bad))
    (cases_Bool (test p))
