-- Reading a certificate line by line: what has been read, and what one more line makes of it.
use Rattle.std.specs.Prelude.{◌≡◌, ℕ, ◌+◌, ◌^◌, ◌==◌, ◌&&◌, Bool, true, false, nat_lt, List, [], ◌∷◌, ◌++◌, length, Option, None, Some, Result, Ok, Err}
use Rattle.certificate.specs.declared.block.Block.{Block}
use Rattle.series_core.specs.declared.pair.Pair.{Pair}
use Rattle.series_core.specs.declared.queue_words.Entry.{Entry}
use Rattle.search_machine.specs.declared.outcome.Start.{Start}
use Rattle.certificate.specs.declared.block.LeafLine.{LeafLine}
use Rattle.certificate.specs.declared.reader.Reader.{Reader}
use Rattle.certificate.specs.declared.reader.Stage.{Stage}
use Rattle.certificate.specs.declared.reader.Stage.TheVariants.{Between, Answers, Lines}
use Rattle.certificate.specs.Fields.{◌>>=◌}
use Rattle.certificate.specs.LineForms.{query_of, answer_of, start_of, queue_of, leaf_of}
use Rattle.search_limits.specs.declared.numbers.TheConstants.{MOST_QUEUES}
use Rattle.series_core.specs.declared.best.TheConstants.{MAX_BEST}

-- the finished blocks, what is read next, and the open block as far as it is read
pub record Reading : Type 0 where
  pub done : List Block
  pub stage : Stage
  pub block : Block

-- what a reader has read
abbrev pub reading_of : Reader → Reading
reading_of r = record { done = r.done.items; stage = r.stage; block = r.block }

-- a block of which nothing is read
abbrev pub empty_block : Block
empty_block = record { answers = []; labels = []; start = None; lines = []; leaves = [] }

-- nothing is read
abbrev pub nothing_read : Reading
nothing_read = record { done = []; stage = Between; block = empty_block }

-- all blocks so far, the open one too
abbrev pub blocks_of : Stage → List Block → Block → List Block
blocks_of Between done block = done
blocks_of Answers done block = done ++ block ∷ []
blocks_of Lines done block = done ++ block ∷ []

-- all blocks of a reading
abbrev pub blocks_read : Reading → List Block
blocks_read r = blocks_of r.stage r.done r.block

-- how many blocks there are, the open one too
abbrev pub count_of : Stage → ℕ → ℕ
count_of Between n = n
count_of Answers n = n + 1
count_of Lines n = n + 1

-- whether no block is unfinished
abbrev pub whole_at : Stage → Block → Bool
whole_at Between block = true
whole_at Answers block = false
whole_at Lines block = nat_lt 0 (length block.lines)

-- whether no block of a reading is unfinished
abbrev pub is_whole : Reading → Bool
is_whole r = whole_at r.stage r.block

-- with a new block open behind the blocks so far
abbrev pub opened : Stage → Reading → Reading
opened Between r = record r { stage = Answers }
opened Answers r = record { done = r.done ++ r.block ∷ []; stage = Answers; block = empty_block }
opened Lines r = record { done = r.done ++ r.block ∷ []; stage = Answers; block = empty_block }

-- with one more answer, and its label where there is one
abbrev pub with_answer : Reading → Pair × List ℕ → Reading
with_answer r x = record r {
  block = record r.block { answers = r.block.answers ++ x.0 ∷ []; labels = r.block.labels ++ x.1 };
}

-- with the start, which ends the answers
abbrev pub with_start : Reading → Option Start → Reading
with_start r start = record r { stage = Lines; block = record r.block { start = start } }

-- with one more queue
abbrev pub with_queue : Reading → List Entry → Reading
with_queue r entries = record r { block = record r.block { lines = r.block.lines ++ entries ∷ [] } }

-- with one more leaf
abbrev pub with_leaf : Reading → LeafLine → Reading
with_leaf r leaf = record r { block = record r.block { leaves = r.block.leaves ++ leaf ∷ [] } }

-- reads on where a test holds
abbrev pub where_holds : Bool → Option Reading → Option Reading
where_holds true read = read
where_holds false read = None

-- the line of the next query opens a block where none is unfinished
unfoldable pub query_step : Reading → List ℕ → Option Reading
query_step r line =
    where_holds (is_whole r)
    (query_of (count_of r.stage (length r.done)) line >>= λ i. Some (opened r.stage r))

-- an answer goes to the answers, of which there are at most 1024
unfoldable pub answer_step : Bool → Reading → List ℕ → Option Reading
answer_step labelled r line =
    where_holds (nat_lt (length r.block.answers) MAX_BEST)
    (answer_of labelled (length r.block.answers + 1) line >>= λ x. Some (with_answer r x))

-- the start
unfoldable pub start_step : Reading → List ℕ → Option Reading
start_step r line = start_of line >>= λ start. Some (with_start r start)

-- a queue goes to the queues, of which there are at most 64, where there is no leaf yet
unfoldable pub queue_step : Reading → List ℕ → Option Reading
queue_step r line =
    where_holds (length r.block.leaves == 0 && nat_lt (length r.block.lines) MOST_QUEUES)
    (queue_of (length r.block.lines) line >>= λ entries. Some (with_queue r entries))

-- a leaf goes to the leaves, of which there are at most 2^32, where there is a queue
unfoldable pub leaf_step : ℕ → Reading → List ℕ → Option Reading
leaf_step segments r line =
    where_holds (nat_lt 0 (length r.block.lines) && nat_lt (length r.block.leaves) (2 ^ 32))
    (leaf_of segments (length r.block.leaves) line >>= λ leaf. Some (with_leaf r leaf))

-- the first of two that is there
abbrev pub or_else : Option Reading → Option Reading → Option Reading
or_else None later = later
or_else (Some r) later = Some r

-- a line before the start of a block: an answer, or else the start
abbrev pub head_step : Bool → Reading → List ℕ → Option Reading
head_step labelled r line = or_else (answer_step labelled r line) (start_step r line)

-- a line behind the start: a queue, or else a leaf, or else the next query
abbrev pub rest_step : ℕ → Reading → List ℕ → Option Reading
rest_step segments r line = or_else (queue_step r line) (or_else (leaf_step segments r line) (query_step r line))

-- one more line, by what is read next
unfoldable pub step_at : Stage → ℕ → Bool → Reading → List ℕ → Option Reading
step_at Between segments labelled r line = query_step r line
step_at Answers segments labelled r line = head_step labelled r line
step_at Lines segments labelled r line = rest_step segments r line

-- one more line
abbrev pub step : ℕ → Bool → Reading → List ℕ → Option Reading
step segments labelled r line = step_at r.stage segments labelled r line

-- what a reader answered to a line: that it took it, or that it did not and is as before, or that memory ran out
abbrev pub Takes : {E : Type 0} → Result Bool E → Reading → Reading → Option Reading → Type 0
Takes (Ok true) old new next = next ≡ Some new
Takes (Ok false) old new next = (next ≡ None) × (new ≡ old)
Takes (Err e) old new next = Unit {0}

-- the same where no memory is taken
abbrev pub TakesNow : Bool → Reading → Reading → Option Reading → Type 0
TakesNow true old new next = next ≡ Some new
TakesNow false old new next = (next ≡ None) × (new ≡ old)
