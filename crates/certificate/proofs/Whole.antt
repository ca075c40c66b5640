-- A block that fails no test of answers and misses no series has the answer of its query.
use Rattle.std.proofs.Common.{◌≡◌, ℕ, zero, suc, ◌+◌, ◌-◌, ◌<◌, ◌≤◌, List, [], ◌∷◌, ◌++◌, length, take, Bool, true, false, Option, Some, None, refl, sym, ap, ◌∙◌, subst, ⊎_elim, inl, inr, arith, zero-add}
use Rattle.std.specs.Prelude.{ℤ, ◌⊎◌, ◌==◌, ◌&&◌, not, nat_lt, nat_le, slice_get, slice_index_or}
use Rattle.std.specs.List.{list_any}
use Rattle.std.proofs.lemmas.Bool.{cases_Bool, cases_lt, and_parts, and_cases, or_cases, not-false, ltb-true, eqb-true, eq-eqb, leb-true, cond-true, cond-false, le-leb, lt-leb, false≢true}
use Rattle.std.proofs.lemmas.List.{take_at, take_all}
use Rattle.std.proofs.lemmas.Option.{same_Some, slice_get-get_or, get_or_from_slice_get}
use Rattle.series_core.specs.Collection.{Collection}
use Rattle.series_core.specs.Distance.{squared_distance}
use Rattle.series_core.specs.Pairs.{is_before, ascending}
use Rattle.list_totals.specs.Standing.{In}
use Rattle.list_totals.proofs.Standing.{in_place}
use Rattle.series_core.specs.Order.{Among, Ascending}
use Rattle.series_core.specs.Answer.{answer, pair_of, pairs_of, distance_or_none}
use Rattle.series_core.specs.declared.pair.Pair.{Pair}
use Rattle.series_core.proofs.Order.{same_pair}
use Rattle.series_core.proofs.Parts.{has_take, kept, same_take}
use Rattle.series_core.proofs.Plain.{has_ascending, ascending_has, strict_from, answer-smallest}
use Rattle.isax_word.specs.declared.layout.Layout.{Layout}
use Rattle.lower_bound.specs.Bound.{view_of}
use Rattle.certificate.specs.declared.block.Block.{Block}
use Rattle.certificate.specs.declared.error.Reject.TheVariants as reject
use Rattle.certificate.specs.Refusals.{unless, first_of, first_refusal}
use Rattle.certificate.specs.Verdict.{wanted, is_real, is_label, is_above, is_right, answer_refusal, answers_refusal, last_answer, is_before_last, is_among, is_missed, missed_refusal, misses_refusal, bounds_refusal, lows_refusal, block_refusal, query_refusal, verdict}
use Rattle.certificate.proofs.Told.{neither, holds_unless, fails_when, each_none}
use Rattle.certificate.proofs.Rising.{Rising, rising_ascends, ascending_more, has_more, has_last}
use Rattle.certificate.proofs.Series.{series_has, has_series}

-- a real pair is that of its series
pub real_series : (rows : Collection) (q : List ℤ) (p : Pair) → is_real rows q p ≡ true
    → (xs : List ℤ) × (slice_get rows.series p.number ≡ Some xs) × (p ≡ pair_of q p.number xs)
real_series rows q p real =
    let parts = and_parts (nat_lt p.number (length rows.series))
    (p.distance == squared_distance (slice_index_or rows.series p.number []) q) real in
    let below : p.number < length rows.series = ltb-true p.number (length rows.series) parts.0 in
    let far : p.distance ≡ squared_distance (slice_index_or rows.series p.number []) q = eqb-true _ _ parts.1 in
    let pair : ℕ → Pair = λ d. record { distance = d; number = p.number } in
    (slice_index_or rows.series p.number [], slice_get-get_or rows.series p.number [] below, ap pair far)

-- what answers that fail no test are: no more than wanted and no fewer, each real, each above the one before it
pub record AreRight (rows : Collection) (q : List ℤ) (k : ℕ) (ps : List Pair) : Type 0 where
  pub size : length ps ≡ wanted rows k
  pub real : (i : ℕ) (p : Pair) → slice_get ps i ≡ Some p → is_real rows q p ≡ true
  pub rising : Rising ps

-- one answer that is not refused
one_right : (rows : Collection) (labels : Option (List ℕ)) (k b : ℕ) (q : List ℤ) (block : Block) (i : ℕ) (p : Pair)
    → answer_refusal rows labels k b q block i p ≡ None
    → (i < wanted rows k) × (is_real rows q p ≡ true) × (is_above block.answers i p ≡ true)
one_right rows labels k b q block i p none =
    let both = and_parts (nat_lt i (wanted rows k)) (is_right rows labels q block i p)
    (holds_unless _ (reject.Answers b (i + 1)) none) in
    let right = and_parts (is_real rows q p) (is_label labels block.labels i p && is_above block.answers i p) both.1 in
    let placed = and_parts (is_label labels block.labels i p) (is_above block.answers i p) right.1 in
    (ltb-true i (wanted rows k) both.0, right.0, placed.1)

-- a pair behind the first is above the one before it
above_before : (ps : List Pair) (i : ℕ) (p r : Pair) → slice_get ps i ≡ Some p → is_above ps (suc i) r ≡ true
    → is_before p r ≡ true
above_before ps i p r here above =
    let place : suc i - 1 ≡ i = omega arith in
    let before : slice_index_or ps (suc i - 1) r ≡ p =
    ap (λ n. slice_index_or ps n r) place ∙ get_or_from_slice_get ps i p r here in
    ⊎_elim
    (λ (e : suc i == 0 ≡ true). let none : suc i ≡ 0 = eqb-true (suc i) 0 e in absurd (omega arith))
    (λ (e : is_before (slice_index_or ps (suc i - 1) r) r ≡ true).
    subst (λ (x : Pair). is_before x r ≡ true) before e)
    (or_cases (suc i == 0) (is_before (slice_index_or ps (suc i - 1) r) r) above)

-- answers that are not refused are right
pub are_right : (rows : Collection) (labels : Option (List ℕ)) (k b : ℕ) (q : List ℤ) (block : Block)
    → answers_refusal rows labels k b q block ≡ None → AreRight rows q k block.answers
are_right rows labels k b q block none = record {
  size = same_size;
  real = λ i p here. (right i p here).1;
  rising = λ i p r here next. above_before ps i p r here (right (suc i) r next).2;
}
  where
    ps : List Pair
    ps = block.answers

    parts : (first_refusal (answer_refusal rows labels k b q block) 0 ps ≡ None)
        × (unless (nat_le (wanted rows k) (length ps)) (reject.Answers b (length ps + 1)) ≡ None)
    parts = neither _ _ none

    right : (i : ℕ) (p : Pair) → slice_get ps i ≡ Some p
        → (i < wanted rows k) × (is_real rows q p ≡ true) × (is_above ps i p ≡ true)
    right i p here =
        let one : answer_refusal rows labels k b q block i p ≡ None =
        subst (λ n. answer_refusal rows labels k b q block n p ≡ None) (zero-add i)
        (each_none (answer_refusal rows labels k b q block) 0 ps parts.0 i p here) in
        one_right rows labels k b q block i p one

    enough : wanted rows k ≤ length ps
    enough = leb-true _ _ (holds_unless _ _ parts.1)

    same_size : length ps ≡ wanted rows k
    same_size = ⊎_elim
        (λ (more : wanted rows k < length ps).
        let p : Pair = record { distance = 0; number = 0 } in
        let past = (right (wanted rows k) _ (slice_get-get_or ps (wanted rows k) p more)).0 in
        absurd (omega arith))
        (λ (few : length ps ≤ wanted rows k). let all = enough in omega arith)
        (cases_lt (wanted rows k) (length ps))

-- what stands in a list stands at a place of it
has_place : (ps : List Pair) (p : Pair) → In p ps → (i : ℕ) × (slice_get ps i ≡ Some p)
has_place [] p has = absurd has
has_place (q ∷ qs) p has =
    ⊎_elim
    (λ (e : p ≡ q). (zero, ap Some (sym e)))
    (λ (t : In p qs). let place = has_place qs p t in (suc place.0, place.1))
    has

-- where some pair of a list passes a test, one stands there that does
any_has : (test : Pair → Bool) (ps : List Pair) → list_any test ps ≡ true → (p : Pair) × In p ps × (test p ≡ true)
any_has test [] any = absurd (false≢true any)
any_has test (p ∷ ps) any =
    ⊎_elim
    (λ (e : test p ≡ true). (p, inl refl, e))
    (λ (e : list_any test ps ≡ true). let found = any_has test ps e in (found.0, inr found.1, found.2))
    (or_cases (test p) (list_any test ps) any)

-- right answers stand among the pairs of all series
right_among : (rows : Collection) (q : List ℤ) (k : ℕ) (ps : List Pair) → AreRight rows q k ps
    → Among ps (ascending (pairs_of rows q))
right_among rows q k ps right p has =
    let place = has_place ps p has in
    let own = real_series rows q p (right.real place.0 p place.1) in
    let stands : In (pair_of q (0 + p.number) own.0) (pairs_of rows q) = series_has 0 rows.series q p.number own.0 own.1 in
    let same : pair_of q (0 + p.number) own.0 ≡ p =
    ap (λ n. pair_of q n own.0) (zero-add p.number) ∙ sym own.2 in
    ascending_has p (pairs_of rows q) (subst (λ (x : Pair). In x (pairs_of rows q)) same stands)

-- a series whose number is among right answers has its pair there
among_has : (rows : Collection) (q : List ℤ) (k : ℕ) (ps : List Pair) → AreRight rows q k ps
    → (number : ℕ) (xs : List ℤ) → slice_get rows.series number ≡ Some xs → is_among ps number ≡ true
    → In (pair_of q number xs) ps
among_has rows q k ps right number xs here among =
    let found = any_has (λ p. p.number == number) ps among in
    let place = has_place ps found.0 found.1 in
    let own = real_series rows q found.0 (right.real place.0 found.0 place.1) in
    let same : found.0.number ≡ number = eqb-true _ _ found.2 in
    let series : own.0 ≡ xs = same_Some own.0 xs
    (sym own.1 ∙ ap (slice_get rows.series) same ∙ here) in
    let pair : found.0 ≡ pair_of q number xs =
    own.2 ∙ ap (λ n. pair_of q n own.0) same ∙ ap (pair_of q number) series in
    subst (λ (x : Pair). In x ps) pair found.1

-- where no series is missed, a pair of a series is among the answers or not smaller than the last
covered : (rows : Collection) (q : List ℤ) (k b : ℕ) (ps : List Pair) → AreRight rows q k ps
    → misses_refusal rows b q (last_answer rows k ps) ps ≡ None
    → (p : Pair) → In p (pairs_of rows q) → In p ps ⊎ (is_before_last (last_answer rows k ps) p ≡ false)
covered rows q k b ps right none p has =
    ⊎_elim
    (λ (far : is_before_last last own_pair ≡ false).
    inr (subst (λ (x : Pair). is_before_last last x ≡ false) (sym same) far))
    (λ (held : not (is_among ps own.0) ≡ false).
    inl (subst (λ (x : Pair). In x ps) (sym same)
    (among_has rows q k ps right own.0 own.1 own.2 (not-false (is_among ps own.0) held))))
    (and_cases (is_before_last last own_pair) (not (is_among ps own.0)) not_missed)
  where
    last : Option Pair
    last = last_answer rows k ps

    own : (i : ℕ) × (xs : List ℤ) × (slice_get rows.series i ≡ Some xs) × (p ≡ pair_of q (0 + i) xs)
    own = has_series 0 rows.series q p has

    own_pair : Pair
    own_pair = pair_of q own.0 own.1

    same : p ≡ own_pair
    same = own.3 ∙ ap (λ n. pair_of q n own.1) (zero-add own.0)

    not_missed : is_missed q last ps own.0 own.1 ≡ false
    not_missed =
        fails_when (is_missed q last ps own.0 own.1) (reject.Missed b own.0)
        (subst (λ n. missed_refusal b q last ps n own.1 ≡ None) (zero-add own.0)
        (each_none (missed_refusal b q last ps) 0 rows.series none own.0 own.1 own.2))

-- the answers that are all and cover the k smallest are these
same_as_smallest : (k : ℕ) (ps whole : List Pair) → Ascending ps → Ascending whole → Among ps whole → length ps ≤ k
    → Among (take k whole) ps → ps ≡ take k whole
same_as_smallest k ps whole up all among few back =
    sym (take_all k ps few) ∙ same_take k ps whole up all among back

-- the last answer, where there are at least k series, is the pair at place k - 1
last_pair : (rows : Collection) (k : ℕ) (ps : List Pair) → 0 < k → length ps ≡ wanted rows k → k ≤ length rows.series
    → (last : Pair) × (slice_get ps (k - 1) ≡ Some last) × (last_answer rows k ps ≡ Some last) × (length ps ≡ suc (k - 1))
last_pair rows k ps some size enough =
    let d : Pair = record { distance = 0; number = 0 } in
    let below : k - 1 < length ps = omega arith in
    let here = slice_get-get_or ps (k - 1) d below in
    let test : nat_le k (length rows.series) ≡ true = le-leb k (length rows.series) enough in
    (_, here, cond-true (nat_le k (length rows.series)) (slice_get ps (k - 1)) None test ∙ here, omega arith)

-- a pair among the k smallest that is not smaller than the last answer is among the answers too
not_smaller : (rows : Collection) (q : List ℤ) (k : ℕ) (ps : List Pair) → 0 < k → AreRight rows q k ps
    → (p : Pair) → In p (take k (ascending (pairs_of rows q))) → is_before_last (last_answer rows k ps) p ≡ false
    → k ≤ length rows.series → In p ps
not_smaller rows q k ps some right p near far enough =
    ⊎_elim
    (λ (behind : is_before last p ≡ true). more behind)
    (λ (e : is_before last p ≡ false).
    subst (λ (x : Pair). In x ps) (sym (same_pair p last not_before e)) (in_place ps (k - 1) last here))
    (cases_Bool (is_before last p))
  where
    whole : List Pair
    whole = ascending (pairs_of rows q)

    found : (last : Pair) × (slice_get ps (k - 1) ≡ Some last) × (last_answer rows k ps ≡ Some last)
        × (length ps ≡ suc (k - 1))
    found = last_pair rows k ps some right.size enough

    last : Pair
    last = found.0

    here : slice_get ps (k - 1) ≡ Some last
    here = found.1

    not_before : is_before p last ≡ false
    not_before = subst (λ (o : Option Pair). is_before_last o p ≡ false) found.2 far

    more : is_before last p ≡ true → In p ps
    more behind =
        let joined = ps ++ p ∷ [] in
        let up = ascending_more ps (k - 1) last p (rising_ascends ps right.rising) found.3 here behind in
        let among : Among joined whole =
        λ r has. ⊎_elim
        (λ (t : In r ps). right_among rows q k ps right r t)
        (λ (e : r ≡ p). subst (λ (x : Pair). In x whole) (sym e) (has_take k p whole near))
        (has_more r p ps has) in
        let size : length ps ≡ k = let s = found.3 in omega arith in
        subst (λ (rs : List Pair). In p rs) (take_at ps (p ∷ []) k size)
        (kept k joined whole up (strict_from 0 rows.series q) among p near (has_last p ps))

-- a block that fails no test of answers and misses no series has the answer of its query
pub block_answer : (rows : Collection) (labels : Option (List ℕ)) (k b : ℕ) (q : List ℤ) (block : Block) → 0 < k
    → answers_refusal rows labels k b q block ≡ None
    → misses_refusal rows b q (last_answer rows k block.answers) block.answers ≡ None
    → block.answers ≡ answer rows q k
block_answer rows labels k b q block some tested complete =
    same_as_smallest k ps whole (rising_ascends ps right.rising) (strict_from 0 rows.series q)
    (right_among rows q k ps right) few back
    ∙ sym (answer-smallest rows q k)
  where
    ps : List Pair
    ps = block.answers

    whole : List Pair
    whole = ascending (pairs_of rows q)

    right : AreRight rows q k ps
    right = are_right rows labels k b q block tested

    few : length ps ≤ k
    few = let size = right.size in omega arith

    no_last : length rows.series < k → (p : Pair) → is_before_last (last_answer rows k ps) p ≡ false → In p ps
    no_last small p far =
        let test : nat_le k (length rows.series) ≡ false = lt-leb k (length rows.series) small in
        let none : last_answer rows k ps ≡ None = cond-false (nat_le k (length rows.series)) (slice_get ps (k - 1)) None test in
        absurd (false≢true (sym (subst (λ (o : Option Pair). is_before_last o p ≡ false) none far)))

    back : Among (take k whole) ps
    back p near =
        ⊎_elim
        (λ (t : In p ps). t)
        (λ (far : is_before_last (last_answer rows k ps) p ≡ false).
        ⊎_elim
        (λ (small : length rows.series < k). no_last small p far)
        (λ (enough : k ≤ length rows.series). not_smaller rows q k ps some right p near far enough)
        (cases_lt (length rows.series) k))
        (covered rows q k b ps right complete p (has_ascending p (pairs_of rows q) (has_take k p whole near)))

-- where no test of a block fails, its answers are those of its query
pub passed_answer : (rows : Collection) (labels : Option (List ℕ)) (k : ℕ) (layout : Layout) (b : ℕ) (q : List ℤ) (block : Block)
    → 0 < k → block_refusal rows labels k layout b q block ≡ None → block.answers ≡ answer rows q k
passed_answer rows labels k layout b q block some none =
    let last = last_answer rows k block.answers in
    let answers = neither (answers_refusal rows labels k b q block) _ none in
    let bounds = neither (bounds_refusal b (view_of layout q) block.leaves) _ answers.1 in
    let lows = neither (lows_refusal b (distance_or_none last) block.leaves) _ bounds.1 in
    block_answer rows labels k b q block some answers.0 lows.1

-- where no test fails, the answers of each block are those of its query
pub verdict_answers : (rows : Collection) (labels : Option (List ℕ)) (queries : Collection) (k : ℕ) (layout : Layout)
    (blocks : List Block) → 0 < k → verdict rows labels queries k layout blocks ≡ None
    → (b : ℕ) (block : Block) → slice_get blocks b ≡ Some block
    → block.answers ≡ answer rows (slice_index_or queries.series b []) k
verdict_answers rows labels queries k layout blocks some none b block here =
    let test = query_refusal rows labels queries k layout in
    let parts = neither (unless (length blocks == length queries.series) (reject.Blocks (length blocks) (length queries.series)))
    (first_refusal test 0 blocks) none in
    let one : test b block ≡ None =
    subst (λ n. test n block ≡ None) (zero-add b) (each_none test 0 blocks parts.1 b block here) in
    passed_answer rows labels k layout b (slice_index_or queries.series b []) block some one

-- where there are as many blocks as queries, the verdict is that of the blocks
pub verdict_blocks : (rows : Collection) (labels : Option (List ℕ)) (queries : Collection) (k : ℕ) (layout : Layout)
    (blocks : List Block) → length blocks ≡ length queries.series
    → verdict rows labels queries k layout blocks ≡ first_refusal (query_refusal rows labels queries k layout) 0 blocks
verdict_blocks rows labels queries k layout blocks as_many =
    let r = reject.Blocks (length blocks) (length queries.series) in
    ap (λ t. first_of (unless t r) (first_refusal (query_refusal rows labels queries k layout) 0 blocks))
    (eq-eqb (length blocks) (length queries.series) as_many)
