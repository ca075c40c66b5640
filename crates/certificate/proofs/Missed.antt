-- Series that no block misses, group by group, and the two parts of a block's tests.
use Rattle.std.proofs.Common.{◌≡◌, ℕ, zero, suc, ◌+◌, ◌<◌, ◌≤◌, List, [], ◌∷◌, drop, Option, Some, None, false, refl, sym, ap, ◌∙◌, subst, ⊎_elim, arith}
use Rattle.std.specs.Prelude.{ℤ, slice_get, slice_index_or}
use Rattle.std.proofs.lemmas.Bool.{cases_lt}
use Rattle.std.proofs.lemmas.Option.{get_or_from_slice_get, same_Some}
use Rattle.isax_word.specs.declared.layout.Layout.{Layout}
use Rattle.lower_bound.specs.Bound.{view_of}
use Rattle.series_core.specs.Answer.{distance_or_none}
use Rattle.series_core.specs.Collection.{Collection}
use Rattle.series_core.specs.declared.pair.Pair.{Pair}
use Rattle.certificate.specs.declared.block.Block.{Block}
use Rattle.certificate.specs.declared.error.Reject.{Reject}
use Rattle.certificate.specs.declared.error.Reject.TheVariants.{Missed}
use Rattle.certificate.specs.Missing.{MissesNoneOf, block_misses, lines_refusal}
use Rattle.certificate.specs.Refusals.{first_of, first_refusal, when}
use Rattle.certificate.specs.Verdict.{answers_refusal, block_refusal, bounds_refusal, is_missed, last_answer, lows_refusal, missed_refusal, misses_refusal, query_refusal}
use Rattle.certificate.proofs.Stepping.{refused}

-- of three refusals the first is the first of the first two and the third
first_of_three : (a b c d : Option Reject) → first_of a (first_of b (first_of c d)) ≡ first_of (first_of a (first_of b c)) d
first_of_three None None None d = refl
first_of_three None None (Some r) d = refl
first_of_three None (Some r) c d = refl
first_of_three (Some r) b c d = refl

-- a block's tests are those of its lines, and then that it misses no series
pub block_parts : (rows : Collection) (labels : Option (List ℕ)) (k : ℕ) (layout : Layout) (b : ℕ) (q : List ℤ) (block : Block)
    → block_refusal rows labels k layout b q block
    ≡ first_of (lines_refusal rows labels k layout b q block) (block_misses rows k b q block)
block_parts rows labels k layout b q block =
    first_of_three (answers_refusal rows labels k b q block) (bounds_refusal b (view_of layout q) block.leaves)
    (lows_refusal b (distance_or_none (last_answer rows k block.answers)) block.leaves) (block_misses rows k b q block)

-- both parts pass, or one of them refuses
pub block_passes : (rows : Collection) (labels : Option (List ℕ)) (k : ℕ) (layout : Layout) (b : ℕ) (q : List ℤ) (block : Block)
    → lines_refusal rows labels k layout b q block ≡ None → block_misses rows k b q block ≡ None
    → block_refusal rows labels k layout b q block ≡ None
block_passes rows labels k layout b q block lines misses =
    block_parts rows labels k layout b q block
    ∙ ap (λ o. first_of o (block_misses rows k b q block)) lines ∙ misses

pub lines_refuse : (rows : Collection) (labels : Option (List ℕ)) (k : ℕ) (layout : Layout) (b : ℕ) (q : List ℤ) (block : Block)
    (r : Reject) → lines_refusal rows labels k layout b q block ≡ Some r → block_refusal rows labels k layout b q block ≡ Some r
lines_refuse rows labels k layout b q block r lines =
    block_parts rows labels k layout b q block
    ∙ ap (λ o. first_of o (block_misses rows k b q block)) lines

pub misses_refuse : (rows : Collection) (labels : Option (List ℕ)) (k : ℕ) (layout : Layout) (b : ℕ) (q : List ℤ) (block : Block)
    (r : Reject) → lines_refusal rows labels k layout b q block ≡ None → block_misses rows k b q block ≡ Some r
    → block_refusal rows labels k layout b q block ≡ Some r
misses_refuse rows labels k layout b q block r lines misses =
    block_parts rows labels k layout b q block
    ∙ ap (λ o. first_of o (block_misses rows k b q block)) lines ∙ misses

-- what is refused of the block that a walk has come to is what the walk refuses
pub block_refused : (rows : Collection) (labels : Option (List ℕ)) (queries : Collection) (k : ℕ) (layout : Layout)
    (whole : Option Reject) (b : ℕ) (blocks : List Block) (block : Block) (q : List ℤ) (r : Reject)
    → whole ≡ first_refusal (query_refusal rows labels queries k layout) b (drop b blocks)
    → slice_get blocks b ≡ Some block → slice_get queries.series b ≡ Some q
    → block_refusal rows labels k layout b q block ≡ Some r → Some r ≡ whole
block_refused rows labels queries k layout whole b blocks block q r before here query fails =
    refused (query_refusal rows labels queries k layout) whole b blocks block r before here
    (ap (λ q. block_refusal rows labels k layout b q block) (get_or_from_slice_get queries.series b q [] query) ∙ fails)

-- where no series is missed none is refused
none_refused : (b : ℕ) (q : List ℤ) (last : Option Pair) (ps : List Pair) (at : ℕ) (series : List (List ℤ))
    → ((n : ℕ) (xs : List ℤ) → slice_get series n ≡ Some xs → is_missed q last ps (at + n) xs ≡ false)
    → first_refusal (missed_refusal b q last ps) at series ≡ None
none_refused b q last ps at [] none = refl
none_refused b q last ps at (xs ∷ series) none =
    let here : at + 0 ≡ at = omega arith in
    ap (λ o. first_of o (first_refusal (missed_refusal b q last ps) (at + 1) series))
    (ap (λ m. when m (Missed b at)) (ap (λ n. is_missed q last ps n xs) (sym here) ∙ none zero xs refl))
    ∙ none_refused b q last ps (at + 1) series
    (λ n ys found. let next : at + suc n ≡ at + 1 + n = omega arith in
    ap (λ i. is_missed q last ps i ys) (sym next) ∙ none (suc n) ys found)

-- where none of all series is missed no test for missed series fails
pub none_missed : (rows : Collection) (b : ℕ) (q : List ℤ) (last : Option Pair) (ps : List Pair) (end : ℕ)
    → ((n : ℕ) (xs : List ℤ) → slice_get rows.series n ≡ Some xs → n < end)
    → MissesNoneOf rows q last ps 0 end → misses_refusal rows b q last ps ≡ None
none_missed rows b q last ps end within none =
    none_refused b q last ps 0 rows.series
    (λ n xs found. let here : 0 + n ≡ n = omega arith in
    ap (λ i. is_missed q last ps i xs) here ∙ none n (omega arith) (within n xs found) xs found)

-- none of no series
pub none_yet : (rows : Collection) (q : List ℤ) (last : Option Pair) (ps : List Pair) (first : ℕ)
    → MissesNoneOf rows q last ps first first
none_yet rows q last ps first n above below xs found = absurd (omega arith)

-- one more series that is not missed
pub one_more : (rows : Collection) (q : List ℤ) (last : Option Pair) (ps : List Pair) (first i : ℕ) (ys : List ℤ)
    → MissesNoneOf rows q last ps first i → slice_get rows.series i ≡ Some ys → is_missed q last ps i ys ≡ false
    → MissesNoneOf rows q last ps first (i + 1)
one_more rows q last ps first i ys before here holds n above below xs found =
    ⊎_elim
    (λ (less : n < i). before n above less xs found)
    (λ (no_less : i ≤ n).
    let same : n ≡ i = omega arith in
    let row : ys ≡ xs = same_Some ys xs (sym here ∙ ap (slice_get rows.series) (sym same) ∙ found) in
    subst (λ (zs : List ℤ). is_missed q last ps n zs ≡ false) row
    (ap (λ m. is_missed q last ps m ys) same ∙ holds))
    (cases_lt n i)

-- one more block that misses none of these series
pub one_more_block : (rows queries : Collection) (k first end b : ℕ) (blocks : List Block) (here : Block) (query : List ℤ)
    (last : Option Pair) (ps : List Pair)
    → ((i : ℕ) (block : Block) → i < b → slice_get blocks i ≡ Some block
    → MissesNoneOf rows (slice_index_or queries.series i []) (last_answer rows k block.answers) block.answers first end)
    → slice_get blocks b ≡ Some here → slice_index_or queries.series b [] ≡ query → last ≡ last_answer rows k ps
    → ps ≡ here.answers → MissesNoneOf rows query last ps first end
    → (i : ℕ) (block : Block) → i < b + 1 → slice_get blocks i ≡ Some block
    → MissesNoneOf rows (slice_index_or queries.series i []) (last_answer rows k block.answers) block.answers first end
one_more_block rows queries k first end b blocks here query last ps before is asked worst answers holds i block below found =
    ⊎_elim
    (λ (less : i < b). before i block less found)
    (λ (no_less : b ≤ i).
    let same : b ≡ i = omega arith in
    let block_is : here ≡ block = same_Some here block (sym is ∙ ap (slice_get blocks) same ∙ found) in
    let query_is : query ≡ slice_index_or queries.series i [] = sym asked ∙ ap (λ n. slice_index_or queries.series n []) same in
    let answers_are : ps ≡ block.answers = answers ∙ ap (λ (x : Block). x.answers) block_is in
    subst (λ (q : List ℤ). MissesNoneOf rows q (last_answer rows k block.answers) block.answers first end) query_is
    (subst (λ (xs : List Pair). MissesNoneOf rows query (last_answer rows k xs) xs first end) answers_are
    (subst (λ (o : Option Pair). MissesNoneOf rows query o ps first end) worst holds)))
    (cases_lt i b)
