-- What a worker keeps and finds by a scan of a leaf without a mark (`scan_keeps`), what it finds and may offer by it (`scan_finds`,
-- `scan_offers`), that what it searches is a search (`working_fits`), and that a leaf is one of its index (`leaf_of_same`).
use Rattle.std.proofs.Common.{◌≡◌, ℕ, ◌-◌, ◌<◌, List, Bool, true, false, Option, length, sym, ◌∙◌, subst, arith}
use Rattle.std.specs.Prelude.{slice_set}
use Rattle.std.proofs.lemmas.List.{length-set}
use Rattle.series_core.specs.Best.{Best}
use Rattle.series_core.specs.Order.{distance_at}
use Rattle.series_core.specs.declared.pair.Pair.{Pair}
use Rattle.search_machine.specs.Ground.{Fits, scan}
use Rattle.search_machine.specs.declared.phase.Phase.{Phase}
use Rattle.query_core.specs.Portions.{CanLimit, Keeps, Limited, portion_of, portion_rank}
use Rattle.search_task.specs.Questions.{leaf_series, search_over, view_in}
use Rattle.query_core.specs.declared.stage.Stage.{Stage}
use Rattle.query_core.specs.Walks.{Walked}
use Rattle.query_core.specs.Turning.{search_of}
use Rattle.query_core.specs.Working.{Working, IsFound, IsWorking, StageInRange, is_marked, phase_of}
use Rattle.query_core.proofs.Found.{found_scanned}
use Rattle.search_task.proofs.OfIndex.{search_fits}
use Rattle.query_core.proofs.LimitsKept.{can_limit}

-- a leaf of a worker that is seen as another one
pub leaf_of_same : (w old : Working) (l : ℕ) → w ≡ old → l < length old.index.leaves → l < length w.index.leaves
leaf_of_same w old l same real = subst (λ (o : Working). l < length o.index.leaves) (sym same) real

-- and so of its portion
pub portion_of_same : (w old : Working) (l portion : ℕ) → w ≡ old → portion ≡ portion_of (search_of old 1) l
    → portion ≡ portion_of (search_of w 1) l
portion_of_same w old l portion same of = subst (λ (o : Working). portion ≡ portion_of (search_of o 1) l) (sym same) of

-- what a worker searches is a search
pub working_fits : {start : Option ℕ} {walk : Walked} {best : Best} {stage : Stage} {w : Working}
    → IsWorking start walk best stage w → Fits (search_over w.question w.index 1 w.queues)
working_fits {w = w} kept = search_fits w.question w.index 1 w.queues kept.searched (omega arith) kept.some_queue

-- after a scan of a leaf without a mark, the list holds what was found in leaves with marks
pub scan_finds : (start : Option ℕ) (walk : Walked) (best : Best) (stage : Stage) (w : Working) (l v : ℕ) (ps : List Pair)
    → IsWorking start walk best stage w → l < length w.index.leaves → is_marked w.marks l ≡ false
    → ps ≡ scan (search_over w.question w.index 1 w.queues) v (leaf_series w.index l) best.pairs
    → IsFound (search_over w.question w.index 1 w.queues) (slice_set w.marks l true) ps
scan_finds start walk best stage w l v ps kept real unmarked pairs =
    let g = search_over w.question w.index 1 w.queues in
    let fits = working_fits kept in
    let marked : l < length w.marks = subst (λ (n : ℕ). l < n) (sym kept.marks) real in
    subst (λ (ps : List Pair). IsFound g (slice_set w.marks l true) ps) (sym pairs)
    (found_scanned g fits w.marks best.pairs kept.found l v real marked unmarked)

-- what a worker keeps with another list and other marks, at another stage
keeps_with : (start : Option ℕ) (walk : Walked) (best after : Best) (before stage : Stage) (w : Working) (phase : Phase) (list : List Pair)
    (marks : List Bool) (shares : Bool) → IsWorking start walk best before w → after.k ≡ w.question.k
    → IsFound (search_over w.question w.index 1 w.queues) marks after.pairs → length marks ≡ length w.index.leaves
    → StageInRange (view_in w.question) w.index w.queues stage
    → IsWorking start walk after stage (record w { phase = phase; list = list; marks = marks; shares = shares })
keeps_with start walk best after before stage w phase list marks shares kept wanted found count range = record {
  searched = kept.searched;
  number_limit = kept.number_limit;
  some_queue = kept.some_queue;
  few_queues = kept.few_queues;
  start_is = kept.start_is;
  walk_index = kept.walk_index;
  wanted = wanted;
  found = found;
  marks = count;
  range = range;
}

-- what a worker keeps does not hang on whether it shares limits
pub keeps_sharing : (start : Option ℕ) (walk : Walked) (best : Best) (stage : Stage) (w : Working) (shares : Bool)
    → IsWorking start walk best stage w → IsWorking start walk best stage (record w { shares = shares })
keeps_sharing start walk best stage w shares kept =
    keeps_with start walk best best stage stage w w.phase w.list w.marks shares kept kept.wanted kept.found kept.marks kept.range

-- a scan of a leaf without a mark keeps what a worker keeps
pub scan_keeps : (start : Option ℕ) (walk : Walked) (best after : Best) (before stage : Stage) (w : Working) (l v : ℕ)
    → IsWorking start walk best before w → best.pairs ≡ w.list
    → l < length w.index.leaves → is_marked w.marks l ≡ false
    → after.k ≡ w.question.k
    → after.pairs ≡ scan (search_over w.question w.index 1 w.queues) v (leaf_series w.index l) best.pairs
    → StageInRange (view_in w.question) w.index w.queues stage
    → IsWorking start walk after stage
    (record w { phase = phase_of stage; list = after.pairs; marks = slice_set w.marks l true })
scan_keeps start walk best after before stage w l v kept same real unmarked wanted pairs range =
    keeps_with start walk best after before stage w (phase_of stage) after.pairs (slice_set w.marks l true) w.shares kept wanted
    (scan_finds start walk best before w l v after.pairs kept real unmarked pairs) (length-set w.marks l true ∙ kept.marks) range

-- and what the worker may offer then for the portion of the leaf
pub scan_offers : (start : Option ℕ) (walk : Walked) (best : Best) (stage : Stage) (w : Working) (l v : ℕ) (ps : List Pair)
    → IsWorking start walk best stage w → l < length w.index.leaves → is_marked w.marks l ≡ false
    → ps ≡ scan (search_over w.question w.index 1 w.queues) v (leaf_series w.index l) best.pairs
    → (portion rank : ℕ) (o : Option Limited) → Keeps (search_over w.question w.index 1 w.queues) w.marks o
    → portion ≡ portion_of (search_over w.question w.index 1 w.queues) l
    → rank ≡ portion_rank (search_over w.question w.index 1 w.queues)
    → CanLimit (search_over w.question w.index 1 w.queues) portion (distance_at (rank - 1) ps) o
scan_offers start walk best stage w l v ps kept real unmarked pairs portion rank o keeps of wanted =
    can_limit (search_over w.question w.index 1 w.queues)
    (working_fits kept) l portion w.marks of rank ps o wanted keeps
    (scan_finds start walk best stage w l v ps kept real unmarked pairs)
