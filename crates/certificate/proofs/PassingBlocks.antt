-- A block that certifies the answers to a query fails no test (`certified_passes`).
use Rattle.std.proofs.Common.{◌≡◌, ℕ, zero, suc, ◌+◌, ◌-◌, ◌<◌, ◌≤◌, ⊎_elim, inl, inr, List, [], ◌∷◌, length, map, take, Option, Some, None, Bool, true, false, refl, sym, ap, ◌∙◌, subst, arith, zero-add}
use Rattle.std.specs.Prelude.{ℤ, ◌==◌, IsSomeAnd, not, nat_lt, nat_le, slice_get, slice_index, slice_index_or}
use Rattle.std.specs.List.{list_any}
use Rattle.std.proofs.lemmas.Bool.{and_from, and_left, and_right, cases_Bool, cases_lt, cond-false, cond-true, eq-eqb, le-leb, lt-ltb, or_left, or_right}
use Rattle.std.proofs.lemmas.List.{take_all}
use Rattle.std.proofs.lemmas.Option.{none-some, same_Some, slice_get-get_or, slice_get_within, get_or_from_slice_get}
use Rattle.list_totals.specs.Standing.{In}
use Rattle.list_totals.proofs.Standing.{in_place}
use Rattle.series_core.specs.Answer.{answer, distance_or_none, pair_of, pairs_of}
use Rattle.series_core.specs.Collection.{Collection}
use Rattle.series_core.specs.Distance.{squared_distance}
use Rattle.series_core.specs.Order.{Ascending}
use Rattle.series_core.specs.Pairs.{ascending, is_before}
use Rattle.series_core.specs.declared.pair.Pair.{Pair}
use Rattle.series_core.proofs.Order.{not_both}
use Rattle.series_core.proofs.Parts.{above_has, ascending_take}
use Rattle.series_core.proofs.Plain.{answer-smallest, ascending_has, length-ascending, strict_from}
use Rattle.subtree_build.specs.Index.{IndexParts}
use Rattle.lower_bound.specs.Bound.{view_of, word_bound}
use Rattle.search_task.specs.Questions.{Question, leaf_bound, search_over, view_in}
use Rattle.certificate.specs.declared.block.Block.{Block}
use Rattle.certificate.specs.declared.block.Said.{Said}
use Rattle.certificate.specs.declared.block.Said.TheVariants.{Scanned, Bound}
use Rattle.certificate.specs.declared.error.Reject.{Reject}
use Rattle.certificate.specs.declared.error.Reject.TheVariants as reject
use Rattle.certificate.specs.Certified.{Asked, CertifiesQuery, IsAsked, labels_of, question_in}
use Rattle.certificate.specs.Printed.{IsRight, IsRightlySaid, search_in}
use Rattle.certificate.specs.Refusals.{first_of, first_refusal, unless, when}
use Rattle.certificate.specs.Verdict.{answer_refusal, answers_refusal, block_refusal, bound_refusal, bounds_refusal, is_above, is_among, is_before_last, is_label, is_missed, is_real, last_answer, leaf_bound_refusal, leaf_low_refusal, low_refusal, lows_refusal, missed_refusal, misses_refusal, wanted}
use Rattle.certificate.proofs.Certifying.{answer_real, answer_size, length-pairs_of, word_at_leaf}
use Rattle.certificate.proofs.Series.{series_has}
use Rattle.certificate.proofs.Wanted.{answer_passed, none_missing}

-- a test that holds refuses nothing, and so does one that has to fail and does
holds : (b : Bool) (r : Reject) → b ≡ true → unless b r ≡ None
holds b r e = cond-true b None (Some r) e

fails : (b : Bool) (r : Reject) → b ≡ false → when b r ≡ None
fails b r e = cond-false b (Some r) None e

-- two of which neither refuses
both_pass : (a b : Option Reject) → a ≡ None → b ≡ None → first_of a b ≡ None
both_pass a b first second = ap (λ r. first_of r b) first ∙ second

-- where no item of a list is refused, nothing is
none_refused : {X : Type 0} (test : ℕ → X → Option Reject) (at : ℕ) (xs : List X)
    → ((i : ℕ) (x : X) → slice_get xs i ≡ Some x → test (at + i) x ≡ None) → first_refusal test at xs ≡ None
none_refused test at [] each = refl
none_refused test at (x ∷ xs) each =
    let here : at ≡ at + 0 = omega arith in
    both_pass (test at x) (first_refusal test (at + 1) xs) (ap (λ n. test n x) here ∙ each zero x refl)
    (none_refused test (at + 1) xs (λ i y e.
    let place : at + 1 + i ≡ at + suc i = omega arith in ap (λ n. test n y) place ∙ each (suc i) y e))

-- the same of items that are counted from 0
pub all_pass : {X : Type 0} (test : ℕ → X → Option Reject) (xs : List X)
    → ((i : ℕ) (x : X) → slice_get xs i ≡ Some x → test i x ≡ None) → first_refusal test 0 xs ≡ None
all_pass test xs each = none_refused test 0 xs (λ i x e. ap (λ n. test n x) (zero-add i) ∙ each i x e)

-- each pair of an ascending list is smaller than the one behind it
rises : (ps : List Pair) → Ascending ps → (i : ℕ) (p r : Pair) → slice_get ps i ≡ Some p → slice_get ps (suc i) ≡ Some r
    → is_before p r ≡ true
rises [] up i p r here next = absurd (none-some p here)
rises (q ∷ ps) up zero p r here next =
    subst (λ (x : Pair). is_before x r ≡ true) (same_Some q p here) (above_has q ps up.0 r (in_place ps zero r next))
rises (q ∷ ps) up (suc i) p r here next = rises ps up.1 i p r here next

-- what is smaller than the last of the first pairs is one of them
among_first : (n : ℕ) (ws : List Pair) (last p : Pair) → Ascending ws → slice_get (take (suc n) ws) n ≡ Some last → In p ws
    → is_before p last ≡ true → In p (take (suc n) ws)
among_first n [] last p up at has before = absurd has
among_first zero (w ∷ ws) last p up at has before =
    ⊎_elim
    (λ (e : p ≡ w). inl e)
    (λ (t : In p ws).
    let same : w ≡ last = same_Some w last at in
    absurd (not_both p last before (subst (λ (x : Pair). is_before x p ≡ true) same (above_has w ws up.0 p t))))
    has
among_first (suc n) (w ∷ ws) last p up at has before =
    ⊎_elim (λ (e : p ≡ w). inl e) (λ (t : In p ws). inr (among_first n ws last p up.1 at t before)) has

-- a series whose pair stands among answers is among them
among_has : (ps : List Pair) (p : Pair) → In p ps → is_among ps p.number ≡ true
among_has [] p has = absurd has
among_has (q ∷ ps) p has =
    ⊎_elim
    (λ (e : p ≡ q). or_left (q.number == p.number) (list_any (λ r. r.number == p.number) ps)
    (eq-eqb q.number p.number (ap (λ (x : Pair). x.number) (sym e))))
    (λ (t : In p ps). or_right (q.number == p.number) (list_any (λ r. r.number == p.number) ps) (among_has ps p t))
    has

-- the labels of pairs, one by one
label_at : (ls : List ℕ) (ps : List Pair) (i : ℕ) (p : Pair) → slice_get ps i ≡ Some p
    → slice_index (map (λ (r : Pair). slice_index ls r.number) ps) i ≡ slice_index ls p.number
label_at ls [] i p here = absurd (none-some p here)
label_at ls (q ∷ ps) zero p here = ap (λ (r : Pair). slice_index ls r.number) (same_Some q p here)
label_at ls (q ∷ ps) (suc i) p here = label_at ls ps i p here

module _ (x : Asked) (leaf_size queues : ℕ) (q : List ℤ) (n : ℕ) (b : Block) (asked : IsAsked x)
    (certifies : CertifiesQuery x leaf_size queues q b) where
  abbrev rows : Collection
  rows = x.rows

  abbrev k : ℕ
  k = x.k

  abbrev ps : List Pair
  ps = b.answers

  abbrev whole : List Pair
  whole = ascending (pairs_of rows q)

  up : Ascending whole
  up = strict_from 0 rows.series q

  same : ps ≡ take k whole
  same = certifies.answers ∙ answer-smallest rows q k

  size : length ps ≡ wanted rows k
  size = ap (λ (rs : List Pair). length rs) certifies.answers ∙ answer_size rows q k

  -- each answer is right
  real_answer : (p : Pair) → In p ps → is_real rows q p ≡ true
  real_answer p has =
      let real = answer_real rows q k p (subst (λ (rs : List Pair). In p rs) certifies.answers has) in
      let low = slice_get_within rows.series real.0 real.1 real.2 in
      let number : p.number ≡ real.0 = ap (λ (z : Pair). z.number) real.3 ∙ zero-add real.0 in
      let series : slice_index_or rows.series p.number [] ≡ real.1 =
      ap (λ m. slice_index_or rows.series m []) number ∙ get_or_from_slice_get rows.series real.0 real.1 [] real.2 in
      and_from (nat_lt p.number (length rows.series))
      (p.distance == squared_distance (slice_index_or rows.series p.number []) q)
      (lt-ltb p.number (length rows.series) (omega (arith, low, number)))
      (eq-eqb p.distance _
      (ap (λ (z : Pair). z.distance) real.3 ∙ ap (λ (xs : List ℤ). squared_distance xs q) (sym series)))

  labelled_answer : (i : ℕ) (p : Pair) → slice_get ps i ≡ Some p → is_label x.labels b.labels i p ≡ true
  labelled_answer i p here = by_labels x.labels certifies.labels
    where
      by_labels : (o : Option (List ℕ)) → b.labels ≡ labels_of o ps → is_label o b.labels i p ≡ true
      by_labels None e = refl
      by_labels (Some ls) e =
          eq-eqb (slice_index b.labels i) (slice_index ls p.number)
          (ap (λ (zs : List ℕ). slice_index zs i) e ∙ label_at ls ps i p here)

  above_answer : (i : ℕ) (p : Pair) → slice_get ps i ≡ Some p → is_above ps i p ≡ true
  above_answer zero p here = refl
  above_answer (suc i) p here =
      let low = slice_get_within ps (suc i) p here in
      let place : suc i - 1 ≡ i = omega arith in
      let before : is_before (slice_index_or ps i p) p ≡ true =
      rises ps (subst Ascending (sym same) (ascending_take k whole up)) i (slice_index_or ps i p) p
      (slice_get-get_or ps i p (omega arith)) here in
      or_right (suc i == 0) (is_before (slice_index_or ps (suc i - 1) p) p)
      (ap (λ m. is_before (slice_index_or ps m p) p) place ∙ before)

  pub answers_pass : answers_refusal rows x.labels k n q b ≡ None
  answers_pass =
      sym (none_missing (first_refusal (answer_refusal rows x.labels k n q b) 0 ps) (wanted rows k) (length ps)
      (reject.Answers n (length ps + 1))
      (sym (all_pass (answer_refusal rows x.labels k n q b) ps (λ i p here.
      let low = slice_get_within ps i p here in
      answer_passed rows x.labels k n q b i (wanted rows k) p refl (omega (arith, size))
      (and_from (is_real rows q p) _ (real_answer p (in_place ps i p here))
      (and_from (is_label x.labels b.labels i p) (is_above ps i p) (labelled_answer i p here) (above_answer i p here))))))
      (omega (arith, size)))

  abbrev a : Question
  a = question_in x q

  abbrev ix : IndexParts
  ix = certifies.search.index

  right : IsRight a queues ix (search_in b)
  right = certifies.search.right

  -- the last answer, where there is a pair of rank k
  last_there : (last : Pair) → slice_get (answer rows q k) (k - 1) ≡ Some last → last_answer rows k ps ≡ Some last
  last_there last at =
      let low = slice_get_within (answer rows q k) (k - 1) last at in
      let few = answer_size rows q k in
      let some = asked.some_rank in
      cond-true (nat_le k (length rows.series)) (slice_get ps (k - 1)) None (le-leb k (length rows.series) (omega arith))
      ∙ ap (λ (rs : List Pair). slice_get rs (k - 1)) certifies.answers ∙ at

  pub bounds_pass : bounds_refusal n (view_of x.layout q) b.leaves ≡ None
  bounds_pass = all_pass (leaf_bound_refusal n (view_of x.layout q)) b.leaves (λ l line here.
      let word = word_at_leaf ix.leaves b.leaves l line right.words here in
      by_said l line.said (word_bound (view_of x.layout q) line.word)
      (ap (word_bound (view_of x.layout q)) word.1) (right.said l line here))
    where
      by_said : (l : ℕ) (s : Said) (real : ℕ) → real ≡ leaf_bound (view_in a) ix l
          → IsRightlySaid a (search_over a ix 1 queues) b.lines l s → bound_refusal n l s real ≡ None
      by_said l Scanned real e rightly = refl
      by_said l (Bound bound) real e rightly = holds (bound == real) _ (eq-eqb bound real (rightly.2 ∙ sym e))

  pub lows_pass : lows_refusal n (distance_or_none (last_answer rows k ps)) b.leaves ≡ None
  lows_pass = all_pass (leaf_low_refusal n (distance_or_none (last_answer rows k ps))) b.leaves (λ l line here.
      by_said l line.said (right.said l line here))
    where
      by_last : (o : Option Pair) → slice_get (answer rows q k) (k - 1) ≡ o → (bound : ℕ)
          → IsSomeAnd o (λ p. p.distance < bound) → distance_or_none (last_answer rows k ps) < bound
      by_last None at bound above = absurd above
      by_last (Some last) at bound above =
          subst (λ (o : Option Pair). distance_or_none o < bound) (sym (last_there last at)) above

      by_said : (l : ℕ) (s : Said) → IsRightlySaid a (search_over a ix 1 queues) b.lines l s
          → low_refusal n l s (distance_or_none (last_answer rows k ps)) ≡ None
      by_said l Scanned rightly = refl
      by_said l (Bound bound) rightly =
          holds (nat_lt (distance_or_none (last_answer rows k ps)) bound) _
          (lt-ltb (distance_or_none (last_answer rows k ps)) bound
          (by_last (slice_get (answer rows q k) (k - 1)) refl bound rightly.3))

  -- no series is missed
  not_missed : (i : ℕ) (xs : List ℤ) → slice_get rows.series i ≡ Some xs → is_missed q (last_answer rows k ps) ps i xs ≡ false
  not_missed i xs here =
      ⊎_elim
      (λ (few : length rows.series < k).
      let all : take k whole ≡ whole =
      take_all k whole (omega (arith, length-ascending (pairs_of rows q), length-pairs_of 0 rows.series q)) in
      among (subst (λ (rs : List Pair). In p rs) (sym (same ∙ all)) stands))
      (λ (enough : k ≤ length rows.series). by_last enough)
      (cases_lt (length rows.series) k)
    where
      p : Pair
      p = pair_of q i xs

      stands : In p whole
      stands =
          let place : 0 + i ≡ i = omega arith in
          ascending_has p (pairs_of rows q)
          (subst (λ m. In (pair_of q m xs) (pairs_of rows q)) place (series_has 0 rows.series q i xs here))

      among : In p ps → is_missed q (last_answer rows k ps) ps i xs ≡ false
      among has =
          and_right (is_before_last (last_answer rows k ps) p) (not (is_among ps i))
          (ap not (among_has ps p has))

      by_last : k ≤ length rows.series → is_missed q (last_answer rows k ps) ps i xs ≡ false
      by_last enough =
          let some = asked.some_rank in
          let d : Pair = record { distance = 0; number = 0 } in
          let low : k - 1 < length ps = omega (arith, size) in
          let last : Pair = slice_index_or ps (k - 1) d in
          let at : slice_get ps (k - 1) ≡ Some last = slice_get-get_or ps (k - 1) d low in
          let is_last : last_answer rows k ps ≡ Some last =
          cond-true (nat_le k (length rows.series)) (slice_get ps (k - 1)) None (le-leb k (length rows.series) enough) ∙ at in
          let first : k ≡ suc (k - 1) = omega arith in
          let at_first : slice_get (take (suc (k - 1)) whole) (k - 1) ≡ Some last =
          ap (λ m. slice_get (take m whole) (k - 1)) (sym first) ∙ ap (λ (rs : List Pair). slice_get rs (k - 1)) (sym same) ∙ at in
          ⊎_elim
          (λ (before : is_before p last ≡ true).
          among (subst (λ (rs : List Pair). In p rs) (ap (λ m. take m whole) (sym first) ∙ sym same)
          (among_first (k - 1) whole last p up at_first stands before)))
          (λ (far : is_before p last ≡ false).
          and_left (is_before_last (last_answer rows k ps) p) (not (is_among ps i))
          (ap (λ (o : Option Pair). is_before_last o p) is_last ∙ far))
          (cases_Bool (is_before p last))

  pub misses_pass : misses_refusal rows n q (last_answer rows k ps) ps ≡ None
  misses_pass = all_pass (missed_refusal n q (last_answer rows k ps) ps) rows.series (λ i xs here.
      fails (is_missed q (last_answer rows k ps) ps i xs) _ (not_missed i xs here))

  -- a block that certifies the answers to a query fails no test
  pub certified_passes : block_refusal rows x.labels k x.layout n q b ≡ None
  certified_passes =
      both_pass (answers_refusal rows x.labels k n q b) _ answers_pass
      (both_pass (bounds_refusal n (view_of x.layout q) b.leaves) _ bounds_pass
      (both_pass (lows_refusal n (distance_or_none (last_answer rows k ps)) b.leaves) _ lows_pass misses_pass))
