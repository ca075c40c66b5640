-- A batch of queries: what they are asked of, the answers that are found ahead, and teams that search one query together.
use Rattle.std.specs.Prelude.{◌≡◌, ℕ, ℤ, ◌+◌, ◌*◌, ◌<◌, ◌≤◌, ⊤, List, [], length, Option, None, Result, IfOk}
use Rattle.std.specs.Borrow.{Bor}
use Rattle.outside.specs.declared.faults.NoMemory.{NoMemory}
use Rattle.command_words.specs.Limits.{IsWithin}
use Rattle.search_limits.specs.declared.numbers.TheConstants.{MOST_QUEUES, MOST_WORKERS}
use Rattle.command_words.specs.declared.options.Options.{Options}
use Rattle.claim_word.specs.Passes.{Claim, fresh_pass}
use Rattle.group_answer.specs.Asking.{IsAsked}
use Rattle.series_core.specs.Answer.{answer}
use Rattle.series_core.specs.Collection.{Collection}
use Rattle.series_core.specs.declared.best.TheConstants.{MAX_BEST}
use Rattle.series_core.specs.declared.pair.Pair.{Pair}
use Rattle.search_machine.specs.Legal.{IsStraight, Legal}
use Rattle.search_machine.specs.declared.outcome.Outcome.{Outcome}
use Rattle.search_task.specs.Questions.{IsQuestion, search_over}
use Rattle.search_run.specs.Finding.{IsTreeFor, asked_of}
use Rattle.search_run.specs.declared.tree.Tree.{Tree}
use Rattle.search_run.specs.declared.finding.Asking.{Asking}
use Rattle.search_run.specs.declared.batch.Batch.{Batch}
use Rattle.search_run.specs.declared.dealing.Deal.{Deal}
use Rattle.search_run.specs.declared.dealing.Share.{Share}
use Rattle.search_run.specs.declared.tuning.TheConstants.{MOST_QUERIES_OF_DRAW}
use Rattle.search_run.specs.declared.answers.Telling.{Telling}
use Rattle.search_run.specs.declared.answers.Telling.TheVariants.{Nearest, Apart}
use Rattle.search_run.specs.Texts.{AppendsPieces, query_text}
use Rattle.window_rows.specs.Choice.{chosen_apart}

-- what these options ask for
abbrev pub asking_of : Options → Asking
asking_of o = record { k = o.k; workers = o.workers; queues = o.queues }

-- what is asked is within its limits
pub record IsAsking (a : Asking) : Type 0 where
  pub some : 0 < a.k
  pub limit : a.k ≤ MAX_BEST
  pub some_worker : 1 ≤ a.workers
  pub few_workers : a.workers ≤ MOST_WORKERS
  pub some_queue : 1 ≤ a.queues
  pub few_queues : a.queues ≤ MOST_QUEUES

-- what the queries are asked of can be searched for them, and there are workers, within their limits
pub record IsBatch {R : Type 0} (collection : R → Collection) (b : Batch R) : Type 0 where
  pub asked : IsAsked collection b.asked
  pub workers : IsWithin 1 MOST_WORKERS b.workers

-- it asks these queries of these rows, each for k of the nearest
pub record Asks {R : Type 0} (rows : Bor R) (queries : Bor Collection) (k : ℕ) (b : Batch R) : Type 0 where
  pub rows_are : b.asked.rows ≡ rows
  pub queries_are : b.asked.queries ≡ queries
  pub k_is : b.asked.k ≡ k

-- a worker that has drawn no query of these and found nothing
pub record IsFresh (claims : Claim) (share : Share) : Type 0 where
  pub pass : share.pass ≡ fresh_pass claims
  pub found : share.found.items ≡ []

-- so many draws of some queries each, and each of them has a query of those that are dealt
pub record IsDeal (d : Deal) (draws queries : ℕ) : Type 0 where
  pub some : 1 ≤ d.each
  pub few : d.each ≤ MOST_QUERIES_OF_DRAW
  pub end : d.end ≤ queries
  pub real : (n : ℕ) → n < draws → d.first + n * d.each < d.end

-- the k nearest may be asked for: the tree is one of the collection, and the query is as long as its series
pub record CanAsk (c : Collection) (tree : Tree) (query : List ℤ) (a : Asking) : Type 0 where
  pub tree_for : IsTreeFor c tree
  pub same_length : length query ≡ c.points
  pub within : IsAsking a

-- an outcome that ended well is legal and straight for what was asked, and has the answer
pub record HasRightOutcome (c : Collection) (tree : Tree) (query : List ℤ) (a : Asking) (r : Result Outcome NoMemory)
    : Type 0 where
  pub question : IfOk r (λ _. IsQuestion (asked_of c query a.k tree))
  pub legal : IfOk r (Legal (search_over (asked_of c query a.k tree) tree.index a.workers a.queues))
  pub straight : IfOk r IsStraight
  pub answers : IfOk r (λ o. o.pairs ≡ answer c query a.k)

-- a call that may be made wherever the nearest may be asked for, and whose outcomes are right
pub record IsTeam {R : Type 0} (collection : R → Collection)
    (pre : Bor R → Bor Tree → Bor (List ℤ) → Asking → Type 0)
    (post : Bor R → Bor Tree → Bor (List ℤ) → Asking → Result Outcome NoMemory → Type 0) : Type 0 where
  pub callable : (rows : Bor R) (tree : Bor Tree) (query : Bor (List ℤ)) (a : Asking)
      → CanAsk (collection rows.now) tree.now query.now a → pre rows tree query a
  pub right : (rows : Bor R) (tree : Bor Tree) (query : Bor (List ℤ)) (a : Asking) (r : Result Outcome NoMemory)
      → post rows tree query a r → HasRightOutcome (collection rows.now) tree.now query.now a r

-- the text of query i with these pairs
abbrev pub told : Telling → ℕ → List Pair → List ℕ
told (Nearest labels) i pairs = query_text labels.now i pairs
told (Apart apart k) i pairs = query_text None i (chosen_apart apart pairs k)

-- the piece of query i is what is written of the k series nearest to it
abbrev pub IsTold : Telling → Collection → ℕ → ℕ → List ℤ → List ℕ → Type 0
IsTold telling c k i query piece = piece ≡ told telling i (answer c query k)

-- a text with such a piece for each of these queries was appended
abbrev pub AppendsTold : Telling → Collection → ℕ → List (List ℤ) → Option (List ℕ) → Option (List ℕ) → Type 0
AppendsTold telling c k = AppendsPieces (IsTold telling c k)

-- where windows are chosen, they lie apart
abbrev pub CanBeTold : Telling → Type 0
CanBeTold (Nearest labels) = ⊤
CanBeTold (Apart apart k) = 0 < apart
