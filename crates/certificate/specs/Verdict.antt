-- The tests of a certificate against the plain list of all series, in their order. They look at the answers and the
-- leaf lines of each block, and at no start and no queue.
use Rattle.std.specs.Prelude.{◌≡◌, ◌≤◌, ◌^◌, ℕ, ◌+◌, ◌-◌, ◌==◌, ◌&&◌, ◌||◌, Bool, true, not, nat_lt, nat_le, min, if◌then◌else◌, ℤ, List, [], length, Option, None, Some, slice_get, slice_index, slice_index_or}
use Rattle.std.specs.List.{All, list_any}
use Rattle.series_core.specs.Collection.{Collection}
use Rattle.series_core.specs.Distance.{squared_distance}
use Rattle.series_core.specs.Pairs.{is_before}
use Rattle.series_core.specs.Answer.{answer, pair_of, distance_or_none}
use Rattle.series_core.specs.declared.pair.Pair.{Pair}
use Rattle.isax_word.specs.declared.layout.Layout.{Layout}
use Rattle.lower_bound.specs.Bound.{View, view_of, word_bound}
use Rattle.certificate.specs.declared.block.Block.{Block}
use Rattle.certificate.specs.declared.block.LeafLine.{LeafLine}
use Rattle.certificate.specs.declared.block.Said.{Said}
use Rattle.certificate.specs.declared.block.Said.TheVariants as said
use Rattle.certificate.specs.declared.error.Reject.{Reject}
use Rattle.certificate.specs.declared.error.Reject.TheVariants as reject
use Rattle.certificate.specs.Refusals.{when, unless, first_of, first_refusal}

-- how many pairs an answer has: the lesser of k and the number of series
abbrev pub wanted : Collection → ℕ → ℕ
wanted rows k = min k (length rows.series)

-- whether a pair is that of a series, with its real distance
abbrev pub is_real : Collection → List ℤ → Pair → Bool
is_real rows q p =
    nat_lt p.number (length rows.series)
    && p.distance == squared_distance (slice_index_or rows.series p.number []) q

-- whether the label at place i is that of the pair's series, where the series have labels
abbrev pub is_label : Option (List ℕ) → List ℕ → ℕ → Pair → Bool
is_label None written i p = true
is_label (Some labels) written i p = slice_index written i == slice_index labels p.number

-- whether the pair at place i of the list is greater than the one before it, where there is one
abbrev pub is_above : List Pair → ℕ → Pair → Bool
is_above ps i p = i == 0 || is_before (slice_index_or ps (i - 1) p) p

-- whether the answer at place i is real, with the right label, and above the one before it
abbrev pub is_right : Collection → Option (List ℕ) → List ℤ → Block → ℕ → Pair → Bool
is_right rows labels q block i p =
    is_real rows q p && (is_label labels block.labels i p && is_above block.answers i p)

-- refuses the answer at place i, of rank i + 1, where it is not wanted or not right
abbrev pub answer_refusal : Collection → Option (List ℕ) → ℕ → ℕ → List ℤ → Block → ℕ → Pair → Option Reject
answer_refusal rows labels k b q block i p =
    unless (nat_lt i (wanted rows k) && is_right rows labels q block i p) (reject.Answers b (i + 1))

-- the least rank that is wrong: its answer is refused, or it is wanted and has none
abbrev pub answers_refusal : Collection → Option (List ℕ) → ℕ → ℕ → List ℤ → Block → Option Reject
answers_refusal rows labels k b q block =
    first_of
    (first_refusal (answer_refusal rows labels k b q block) 0 block.answers)
    (unless (nat_le (wanted rows k) (length block.answers)) (reject.Answers b (length block.answers + 1)))

-- refuses a bound that is said of leaf l and is not the real one
abbrev pub bound_refusal : ℕ → ℕ → Said → ℕ → Option Reject
bound_refusal b l said.Scanned real = None
bound_refusal b l (said.Bound bound) real = unless (bound == real) (reject.Bound b l bound real)

-- refuses a leaf line with a bound that is not that of its word
abbrev pub leaf_bound_refusal : ℕ → View → ℕ → LeafLine → Option Reject
leaf_bound_refusal b view l leaf = bound_refusal b l leaf.said (word_bound view leaf.word)

-- the first leaf line whose bound is not that of its word
abbrev pub bounds_refusal : ℕ → View → List LeafLine → Option Reject
bounds_refusal b view leaves = first_refusal (leaf_bound_refusal b view) 0 leaves

-- refuses a bound that is said of leaf l and is not strictly above the last distance
abbrev pub low_refusal : ℕ → ℕ → Said → ℕ → Option Reject
low_refusal b l said.Scanned last = None
low_refusal b l (said.Bound bound) last = unless (nat_lt last bound) (reject.Low b l bound last)

-- refuses a leaf line with a bound that is not strictly above the last distance
abbrev pub leaf_low_refusal : ℕ → ℕ → ℕ → LeafLine → Option Reject
leaf_low_refusal b last l leaf = low_refusal b l leaf.said last

-- the first leaf line whose bound is not strictly above the last distance
abbrev pub lows_refusal : ℕ → ℕ → List LeafLine → Option Reject
lows_refusal b last leaves = first_refusal (leaf_low_refusal b last) 0 leaves

-- the answer of rank k, where there are at least k series; else there is none
abbrev pub last_answer : Collection → ℕ → List Pair → Option Pair
last_answer rows k ps = if nat_le k (length rows.series) then slice_get ps (k - 1) else None

-- whether a pair is smaller than the last answer; where there is no last answer, each pair is
abbrev pub is_before_last : Option Pair → Pair → Bool
is_before_last None p = true
is_before_last (Some last) p = is_before p last

-- whether the series with this number is among the answers
abbrev pub is_among : List Pair → ℕ → Bool
is_among ps number = list_any (λ p. p.number == number) ps

-- whether the pair of a series is smaller than the last answer, and the series is not among the answers
abbrev pub is_missed : List ℤ → Option Pair → List Pair → ℕ → List ℤ → Bool
is_missed q last ps number xs = is_before_last last (pair_of q number xs) && not (is_among ps number)

-- refuses the series with this number where it is missed
abbrev pub missed_refusal : ℕ → List ℤ → Option Pair → List Pair → ℕ → List ℤ → Option Reject
missed_refusal b q last ps number xs = when (is_missed q last ps number xs) (reject.Missed b number)

-- the first series that is missed
abbrev pub misses_refusal : Collection → ℕ → List ℤ → Option Pair → List Pair → Option Reject
misses_refusal rows b q last ps = first_refusal (missed_refusal b q last ps) 0 rows.series

-- the first failing test of block b, whose query is q
abbrev pub block_refusal : Collection → Option (List ℕ) → ℕ → Layout → ℕ → List ℤ → Block → Option Reject
block_refusal rows labels k layout b q block =
    let last = last_answer rows k block.answers in
    first_of (answers_refusal rows labels k b q block)
    (first_of (bounds_refusal b (view_of layout q) block.leaves)
    (first_of (lows_refusal b (distance_or_none last) block.leaves)
    (misses_refusal rows b q last block.answers)))

-- the first failing test of block b, whose query has the same number
abbrev pub query_refusal : Collection → Option (List ℕ) → Collection → ℕ → Layout → ℕ → Block → Option Reject
query_refusal rows labels queries k layout b block =
    block_refusal rows labels k layout b (slice_index_or queries.series b []) block

-- the first failing test of the blocks, of which there has to be one a query; none where all hold
abbrev pub verdict : Collection → Option (List ℕ) → Collection → ℕ → Layout → List Block → Option Reject
verdict rows labels queries k layout blocks =
    first_of
    (unless (length blocks == length queries.series) (reject.Blocks (length blocks) (length queries.series)))
    (first_refusal (query_refusal rows labels queries k layout) 0 blocks)

-- the answers of each block are the answer of its query
abbrev pub HaveAnswers : Collection → Collection → ℕ → List Block → Type 0
HaveAnswers rows queries k blocks = (b : ℕ) (block : Block) → slice_get blocks b ≡ Some block
    → block.answers ≡ answer rows (slice_index_or queries.series b []) k

-- A block that may be checked under a layout of `segments` segments: it has at most 2^32 leaf lines, each with a word of
-- as many segments, and where the series have labels it has one label an answer.
pub record IsFor (segments : ℕ) (labelled : Bool) (block : Block) : Type 0 where
  pub leaves : length block.leaves ≤ 2 ^ 32
  pub words : All (λ leaf. length leaf.word ≡ segments) block.leaves
  pub labels : labelled ≡ true → length block.labels ≡ length block.answers
