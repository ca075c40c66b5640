-- What searchers that have drained say together with the queues, whatever these are: the search has a legal and straight outcome
-- (`ends_right`), where each queue closes.
use Rattle.std.proofs.Common.{◌≡◌, ℕ, ◌<◌, List, Some, All, length, map, sym, ap, ◌∙◌, subst, arith}
use Rattle.std.specs.Prelude.{slice_get}
use Rattle.std.proofs.lemmas.List.{length-map}
use Rattle.list_totals.specs.Standing.{In}
use Rattle.best_word.specs.Passes.{Best}
use Rattle.leaf_queues.specs.PlainQueue.{PlainQueue}
use Rattle.subtree_build.specs.Index.{IndexParts}
use Rattle.subtree_build.specs.Outline.{leaf_numbers}
use Rattle.search_machine.specs.declared.phase.Phase.TheVariants.{Done}
use Rattle.search_machine.specs.declared.outcome.QueueLine.{QueueLine}
use Rattle.search_machine.specs.Basics.{Between, Ordered}
use Rattle.search_machine.specs.Closes.{AllStand, Closes, ClosesStraight, QueueCloses}
use Rattle.search_machine.specs.Ground.{Fits, Ground}
use Rattle.search_machine.specs.Outcome.{line_of}
use Rattle.search_machine.specs.OwnRecord.{PopMade, RecordedWorker}
use Rattle.search_machine.specs.Stands.{StandsFor}
use Rattle.search_machine.proofs.AnyWorkers.{stands_any}
use Rattle.search_machine.proofs.Places.{get_some}
use Rattle.search_task.specs.Questions.{Question, search_over}
use Rattle.query_core.specs.Working.{IsOf, Working}
use Rattle.search_task.proofs.OfIndex.{last_is, search_fits}
use Rattle.live_query.specs.DrainHands.{DrainKept}
use Rattle.live_query.specs.Knowing.{IsLater}
use Rattle.live_query.specs.Parts.{Drainer, EndsRight, Resting}
use Rattle.live_query.proofs.DrainGather.{Came, Outset, Worked, came_at, team_count}
use Rattle.live_query.proofs.Endings.{ends_as}
use Rattle.live_query.proofs.Openers.{moved, search_at}
use Rattle.live_query.proofs.Places.{Chosen, all_at, choose}
use Rattle.live_query.proofs.PutsKept.{AreBehind, all_claimed, once, placed_all}
use Rattle.live_query.proofs.WordTies.{in_range as within_word}

-- what is known after the drain part of a search by n workers: each has made its turns and is done
pub record AllDone {Q : Type 0} (team : List Resting) (later : List (Drainer Q)) (n : ℕ) : Type 0 where
  pub some_worker : 0 < n
  pub as_many : length team ≡ n
  pub done : All (λ (e : Drainer Q). e.worker.phase ≡ Done) later

module _ {Q : Type 0} {count : Q → ℕ} {Agrees : Q → List PopMade → Type 0} {IsNew : ℕ → Q → Type 0} {a : Question} {ix : IndexParts}
    {m : ℕ} {best : Best} {team : List Resting} {roots : ℕ} {cells : List (Drainer Q)}
    (outset : Outset count Agrees IsNew a ix m best team roots cells) {Same : Q → Q → Type 0} {later : List (Drainer Q)}
    (worked : Worked Same Agrees cells later) {n : ℕ} (all_done : AllDone team later n) where
  abbrev one : Ground
  one = search_over a ix 1 m

  abbrev g : Ground
  g = search_over a ix n m

  pub fits : Fits g
  fits = search_fits a ix n m outset.filled.searches all_done.some_worker outset.filled.some

  -- a searcher that is done, with the record of all its calls
  pub record Ended (i : ℕ) (y : RecordedWorker) : Type 0 where
    pub cell : Drainer Q
    pub at : slice_get later i ≡ Some cell
    pub way : Came outset worked i cell
    pub later_is : IsLater Agrees way.began.was.record_of cell.worker cell.hand y

  ended : (i : ℕ) → i < length later → (y : RecordedWorker) × Ended i y
  ended i low =
      let e = get_some later i low in
      let w = came_at outset worked i e.0 e.1 in
      let y = w.goes.on w.began.was.record_of w.known in
      (y.0, record { cell = e.0; at = e.1; way = w; later_is = y.1 })

  pub all : Chosen (length later) Ended
  all = choose (length later) Ended ended

  -- the records of all calls, one for each searcher
  abbrev pub ended_records : List RecordedWorker
  ended_records = all.items

  pub ended_at : (i : ℕ) (y : RecordedWorker) → slice_get ended_records i ≡ Some y → Ended i y
  ended_at = all.each

  pub record_count : length ended_records ≡ length later
  record_count = all.count

  pub later_count : length later ≡ n
  later_count = team_count outset worked ∙ all_done.as_many

  stands : AllStand g ended_records
  stands i y at =
      let e = ended_at i y at in
      let place = moved a ix m i e.way.first.worker e.cell.worker
      (subst (λ (w : Working). IsOf a ix m i w) (sym e.way.began.is.worker) e.way.began.was.has.place) e.way.goes.place in
      stands_any one n i y
      (subst (λ (j : ℕ). StandsFor one j y) place.number
      (subst (λ (h : Ground). StandsFor h e.cell.worker.number y) (search_at a ix m i e.cell.worker place)
      e.later_is.known.stands))

  pub worker_done : (i : ℕ) (y : RecordedWorker) → slice_get ended_records i ≡ Some y → y.worker.phase ≡ Done
  worker_done i y at =
      let e = ended_at i y at in
      e.later_is.known.shows.phase ∙ all_at (λ (e : Drainer Q). e.worker.phase ≡ Done) later i e.cell all_done.done e.at

  in_range : (i : ℕ) (y : RecordedWorker) (v : ℕ) → slice_get ended_records i ≡ Some y → In v y.own.reads → Between g v
  in_range i y v at read =
      let e = ended_at i y at in
      let r = within_word e.cell.hand.seen y.own e.later_is.known.tied.word v read in
      let hand = e.way.began.is.hand in
      let has = e.way.began.was.has in
      let low = e.way.goes.floor ∙ ap (λ (h : DrainKept Q). h.seen.floor) hand ∙ has.floor
      ∙ sym (last_is a ix n m outset.filled.searches.question) in
      let high = ap (λ (b : Best). b.start) (e.way.goes.best ∙ ap (λ (h : DrainKept Q). h.seen.best) hand ∙ has.word) ∙ outset.filled.start in
      (omega (arith, r.0, low), omega (arith, r.1, high))

  -- the records have the claims and puts of the fill part
  pub behind : AreBehind outset.filled n ended_records
  behind = record {
    fits = fits;
    count = record_count ∙ team_count outset worked;
    each = λ i y at.
        let e = ended_at i y at in
        record { was = e.way.began.was; claims = e.later_is.claims; puts = e.later_is.puts };
    stands = stands;
  }

  -- queues that close, with what was taken from each in order
  pub ends_right : (qs : List PlainQueue) → length qs ≡ m
      → ((j : ℕ) (q : PlainQueue) → slice_get qs j ≡ Some q → QueueCloses g ended_records j q × Ordered q.taken)
      → (ws : List Working) (ls : List QueueLine) → ws ≡ map (λ (e : Drainer Q). e.worker) later → ls ≡ map line_of qs
      → EndsRight g ws ls
  ends_right qs queue_count close ws ls ws_are ls_are =
      ends_as g fits ended_records qs closes_straight (λ (e : Drainer Q). e.worker) later record_count
      (λ i y at. let e = ended_at i y at in (e.cell, e.at, e.later_is.known.shows)) ws ls ws_are ls_are
    where
      closes : Closes g ended_records qs
      closes = record {
        members = record_count ∙ later_count;
        stands = stands;
        done = worker_done;
        claims = once behind;
        all_claimed = λ i y c at ended low.
            let roots = length-map ix.nodes leaf_numbers in
            all_claimed behind i y c at ended (omega arith);
        reads = in_range;
        queue_count = queue_count;
        queues = λ j q at. (close j q at).0;
      }

      closes_straight : ClosesStraight g ended_records qs
      closes_straight = record {
        closes = closes;
        placed = placed_all behind;
        order = λ j q at. (close j q at).1;
      }
