-- What is found of queries, each filled up: one place more is filled (`fill_more`), one query more is answered (`next_query`), and all have
-- as many pairs as are wanted of each (`length_filled_all`, `found_fill`).
use Rattle.std.proofs.Common.{◌≡◌, ℕ, true, zero, suc, ◌+◌, ◌-◌, ◌*◌, ◌/◌, ◌≤◌, ℤ, List, [], ◌∷◌, ◌++◌, length, take, drop, sym, ap, ◌∙◌, append_assoc, length-append, arith}
use Rattle.std.specs.Prelude.{replicate}
use Rattle.std.specs.List.{flat_map}
use Rattle.std.specs.Prelude.{Option, None, Some, find}
use Rattle.std.specs.Option.{option_to_list}
use Rattle.std.proofs.lemmas.List.{length-replicate, length-take, replicate-append-replicate}
use Rattle.series_core.specs.declared.pair.Pair.{Pair}
use Rattle.isearch_c.specs.Faults.{places_fit}
use Rattle.series_core.specs.Flat.{rows_of}
use Rattle.series_core.specs.Collection.{Collection}
use Rattle.series_core.specs.Answer.{answer, pairs_of}
use Rattle.series_core.specs.Pairs.{ascending}
use Rattle.series_core.proofs.Plain.{answer-smallest}
use Rattle.window_rows.specs.Choice.{chosen_apart, is_apart_from}
use Rattle.isearch_c.specs.declared.answers.Asked.{Asked}
use Rattle.isearch_c.specs.Found.{answers, filled, found_by, nothing, queries_in, wanted_of}

-- one place more
pub fill_more : (had pairs found more : List Pair) (n m : ℕ) → m ≡ n + 1 → found ≡ had ++ (pairs ++ replicate n nothing)
    → more ≡ found ++ nothing ∷ [] → more ≡ had ++ (pairs ++ replicate m nothing)
fill_more had pairs found more n m next was put =
    put
    ∙ ap (λ (ps : List Pair). ps ++ nothing ∷ []) was
    ∙ append_assoc had (pairs ++ replicate n nothing) (nothing ∷ [])
    ∙ ap (λ (ps : List Pair). had ++ ps) (append_assoc pairs (replicate n nothing) (nothing ∷ []))
    ∙ ap (λ (ps : List Pair). had ++ (pairs ++ ps)) (replicate-append-replicate n 1 nothing)
    ∙ ap (λ k. had ++ (pairs ++ replicate k nothing)) (sym next)

module _ (f : List ℤ → List Pair) (k : ℕ) where
  -- the pairs of all queries, each filled up
  abbrev pub all_filled : List (List ℤ) → List Pair
  all_filled queries = flat_map (λ q. filled k (f q)) queries

  -- one query more
  pub next_query : (n m left : ℕ) (rest query behind : List ℤ) (found more : List Pair) → left ≡ suc m → query ≡ take n rest
      → behind ≡ drop n rest → more ≡ found ++ filled k (f query)
      → more ++ all_filled (rows_of n m behind) ≡ found ++ all_filled (rows_of n left rest)
  next_query n m left rest query behind found more next front back put =
      ap (λ (ps : List Pair). ps ++ all_filled (rows_of n m behind)) put
      ∙ append_assoc found (filled k (f query)) (all_filled (rows_of n m behind))
      ∙ ap (λ (q : List ℤ). found ++ (filled k (f q) ++ all_filled (rows_of n m behind))) front
      ∙ ap (λ (qs : List ℤ). found ++ (filled k (f (take n rest)) ++ all_filled (rows_of n m qs))) back
      ∙ ap (λ c. found ++ all_filled (rows_of n c rest)) (sym next)

  module _ (few : (q : List ℤ) → length (f q) ≤ k) where
    -- of one query
    length_filled : (q : List ℤ) → length (filled k (f q)) ≡ k
    length_filled q =
        let no_more = few q in
        omega (arith, no_more, length-append (f q) (replicate (k - length (f q)) nothing), length-replicate (k - length (f q)) nothing)

    -- of all
    length_filled_all : (n count : ℕ) (values : List ℤ) → length (all_filled (rows_of n count values)) ≡ count * k
    length_filled_all n zero values = omega arith
    length_filled_all n (suc count) values =
        let here = length_filled (take n values) in
        let rest = length_filled_all n count (drop n values) in
        length-append (filled k (f (take n values))) (all_filled (rows_of n count (drop n values)))
        ∙ omega (arith, here, rest)

-- what is left of whole rows behind one of them
pub shorter : (n m left size : ℕ) → left ≡ suc m → size ≡ left * n → size - n ≡ m * n
shorter n m left size next is = omega (arith, is, ap (λ k. k * n) next)

-- as many places as are wanted
places_are : (queries k distances numbers : ℕ) → true ≡ places_fit queries k distances numbers
    → (distances ≡ queries * k) × (numbers ≡ queries * k)
places_are queries k distances numbers fit = grind arith

-- one pair at most
few_of_option : (o : Option Pair) → length (option_to_list o) ≤ 1
few_of_option None = omega arith
few_of_option (Some p) = omega arith

-- no more are chosen than there are ranks
few_chosen : (far : ℕ) (pairs : List Pair) (k : ℕ) → length (chosen_apart far pairs k) ≤ k
few_chosen far pairs zero = omega arith
few_chosen far pairs (suc k) =
    let before = few_chosen far pairs k in
    let next = find (is_apart_from far (chosen_apart far pairs k)) pairs in
    let one_more = few_of_option next in
    let both = length-append (chosen_apart far pairs k) (option_to_list next) in
    omega (arith, before, one_more, both)

-- no answer has more pairs than are wanted
few_answers : (c : Collection) (q : List ℤ) (k : ℕ) → length (answer c q k) ≤ k
few_answers c q k =
    let is = ap (λ (ps : List Pair). length ps) (answer-smallest c q k) ∙ length-take k (ascending (pairs_of c q)) in
    omega (arith, is)

-- of one query no more are found than are wanted
few_found : (o : Option ℕ) (k : ℕ) (c : Collection) (q : List ℤ) → length (found_by o k c q) ≤ k
few_found None k c q = few_answers c q k
few_found (Some far) k c q = few_chosen far (answer c q (length c.series)) k

pub few_wanted : (asked : Asked) (c : Collection) (q : List ℤ) → length (wanted_of asked c q) ≤ asked.k
few_wanted asked c q = few_found asked.apart asked.k c q

-- where there are as many places as are wanted of all queries, there are as many as pairs that were found, as they are seen
pub found_fill : (asked : Asked) (c : Collection) (n count : ℕ) (queries : List ℤ) (found seen : List Pair) (distances numbers : ℕ)
    → true ≡ places_fit count asked.k distances numbers → count ≡ length queries / n
    → found ≡ answers asked c (queries_in n queries) → seen ≡ found
    → (distances ≡ length seen) × (numbers ≡ length seen)
found_fill asked c n count queries found seen distances numbers fit whole is same =
    let wanted = places_are count asked.k distances numbers fit in
    let filled : count * asked.k ≡ length seen
    = ap (λ m. m * asked.k) whole
    ∙ sym (length_filled_all (wanted_of asked c) asked.k (few_wanted asked c) n (length queries / n) queries)
    ∙ ap (λ (ps : List Pair). length ps) (sym is ∙ sym same) in
    (wanted.0 ∙ filled, wanted.1 ∙ filled)
