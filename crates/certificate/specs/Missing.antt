-- The two parts of a block's tests: those of its lines, and that it misses no series.
use Rattle.std.specs.Prelude.{◌≡◌, ℕ, ◌<◌, ◌≤◌, false, ℤ, List, [], Option, None, Some, slice_get, slice_index_or}
use Rattle.series_core.specs.Answer.{distance_or_none}
use Rattle.series_core.specs.Collection.{Collection}
use Rattle.series_core.specs.declared.pair.Pair.{Pair}
use Rattle.isax_word.specs.declared.layout.Layout.{Layout}
use Rattle.lower_bound.specs.Bound.{view_of}
use Rattle.certificate.specs.Refusals.{first_of}
use Rattle.certificate.specs.Verdict.{answers_refusal, bounds_refusal, is_missed, last_answer, lows_refusal, misses_refusal}
use Rattle.certificate.specs.declared.block.Block.{Block}
use Rattle.certificate.specs.declared.error.Reject.{Reject}

-- the first failing test of the answers and leaf lines of block b, whose query is q
abbrev pub lines_refusal : Collection → Option (List ℕ) → ℕ → Layout → ℕ → List ℤ → Block → Option Reject
lines_refusal rows labels k layout b q block =
    first_of (answers_refusal rows labels k b q block)
    (first_of (bounds_refusal b (view_of layout q) block.leaves)
    (lows_refusal b (distance_or_none (last_answer rows k block.answers)) block.leaves))

-- the first series that block b misses, whose query is q
abbrev pub block_misses : Collection → ℕ → ℕ → List ℤ → Block → Option Reject
block_misses rows k b q block = misses_refusal rows b q (last_answer rows k block.answers) block.answers

-- no series from the first number up to the end is missed by these answers
abbrev pub MissesNoneOf : Collection → List ℤ → Option Pair → List Pair → ℕ → ℕ → Type 0
MissesNoneOf rows q last ps first end = (n : ℕ) → first ≤ n → n < end
    → (xs : List ℤ) → slice_get rows.series n ≡ Some xs → is_missed q last ps n xs ≡ false

-- no block misses one of these series
abbrev pub MissNoneOf : Collection → Collection → ℕ → ℕ → ℕ → List Block → Type 0
MissNoneOf rows queries k first end blocks = (b : ℕ) (block : Block) → slice_get blocks b ≡ Some block
    → MissesNoneOf rows (slice_index_or queries.series b []) (last_answer rows k block.answers) block.answers first end

-- no block misses a series
abbrev pub MissNone : Collection → Collection → ℕ → List Block → Type 0
MissNone rows queries k blocks = (b : ℕ) (block : Block) → slice_get blocks b ≡ Some block
    → block_misses rows k b (slice_index_or queries.series b []) block ≡ None
