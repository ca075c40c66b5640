-- What the searchers and the closed runs say together: the search has a legal and straight outcome (`sealed_right`).
use Rattle.std.proofs.Common.{◌≡◌, ◌≢◌, ℕ, zero, suc, ◌+◌, ◌<◌, ◌≤◌, ◌⊎◌, List, [], ◌∷◌, Option, None, Some, All, true, length, map, refl, sym, ap, ◌∙◌, subst, inl, inr, arith}
use Rattle.std.specs.Prelude.{IfSome, is_some, not, nat_lt, slice_get}
use Rattle.std.proofs.lemmas.Bool.{and_from, cases_lt, cond-true, eq-eqb, true≢false}
use Rattle.std.proofs.lemmas.List.{length-map}
use Rattle.std.proofs.lemmas.Option.{none-some, same_Some, slice_get-get_or, slice_get_within, get_or_from_slice_get}
use Rattle.list_totals.specs.Totals.{one_if_same, total}
use Rattle.list_totals.specs.Standing.{In}
use Rattle.list_totals.proofs.Standing.{in_at, in_contains}
use Rattle.list_totals.proofs.Totals.{total_map}
use Rattle.best_word.specs.Passes.{Best}
use Rattle.series_core.specs.declared.queue_words.Entry.{Entry}
use Rattle.leaf_queues.specs.PlainQueue.{PlainQueue}
use Rattle.sealed_runs.specs.Closed.{AreLines, IsLine, Line, line_at, no_line}
use Rattle.sealed_runs.specs.Entries.{Run, entry_at, no_entry, run_at}
use Rattle.sealed_runs.specs.Sealing.{fresh_visits}
use Rattle.sealed_runs.proofs.Members.{filter_contains, map_contains}
use Rattle.std.proofs.lemmas.List.Elements.{All-contains}
use Rattle.sealed_runs.specs.Visits.{IsPass, IsVisit, Visit, column, fresh_visit, handed, is_refused as is_refused_place, leaves, visit_at}
use Rattle.subtree_build.specs.Index.{IndexParts}
use Rattle.search_machine.specs.declared.outcome.QueueLine.{QueueLine}
use Rattle.search_machine.specs.Basics.{Ordered, entered}
use Rattle.search_machine.specs.Closes.{CameByPop, QueueCloses, placed_by, popped_by}
use Rattle.search_machine.specs.Ground.{Ground}
use Rattle.search_machine.specs.Machine.{capacity_of}
use Rattle.search_machine.specs.Outcome.{line_of}
use Rattle.search_machine.specs.OwnRecord.{RecordedWorker, WasClosed}
use Rattle.search_machine.specs.Sound.{takes, waits}
use Rattle.search_machine.specs.Stands.{OwnDrains, OwnPhase}
use Rattle.search_machine.proofs.Places.{get_map, get_some}
use Rattle.search_task.specs.Questions.{Question, search_over, view_in}
use Rattle.live_query.specs.Marked.{IsRunOf, line_of_run}
use Rattle.live_query.specs.Parts.{Draining, EndsRight, Resting, marks_of}
use Rattle.query_core.specs.Working.{Working}
use Rattle.live_query.specs.DrainHands.{DrainKept}
use Rattle.live_query.specs.SealedQueues.{IsFresh, SameRuns, SealedAgrees, SealedKept, given_of, run_count}
use Rattle.live_query.proofs.DrainGather.{Came, Outset, Worked}
use Rattle.live_query.proofs.Drained.{AllDone, behind, ended_at, ended_records, ends_right, record_count, worker_done}
use Rattle.live_query.proofs.Places.{Chosen, all_at, all_from, choose, map_at, maps_same, totals_same}
use Rattle.live_query.proofs.PutsKept.{AreBehind, bound_right, came, placed_as}
use Rattle.live_query.proofs.RunQueues.{ascending_ordered, entered_in, in_filter, is_left, least_from, least_some, left_of, left_or_taken, once_entered, ordered_filter, round_covers}

-- fresh visits agree with no pops
pub fresh_agrees : (runs : List Run) → SealedAgrees (record { runs = runs; visits = fresh_visits runs }) []
fresh_agrees runs = record {
  popped = λ m l low. sym (ap (given_of l (run_at runs m)) (fresh_at runs m low));
  closed = λ m p v low i. absurd i;
  kept = λ m v low e. absurd (none-some v (ap (λ (z : Visit). z.closed) (sym (fresh_at runs m low)) ∙ e));
}
  where
    fresh_at : (runs : List Run) (j : ℕ) → j < length runs
        → visit_at (fresh_visits runs) j ≡ fresh_visit (run_at runs j).claims
    fresh_at [] j low = absurd (omega arith)
    fresh_at (r ∷ rs) zero low = refl
    fresh_at (r ∷ rs) (suc j) low = fresh_at rs j (omega arith)

none_closed : (o : Option ℕ) → is_some o ≡ true → o ≡ None → ⊥
none_closed None s e = true≢false (sym s)
none_closed (Some v) s e = none-some v (sym e)

module _ {a : Question} {ix : IndexParts} {m : ℕ} {best : Best} {team : List Resting} {runs : List Run} {roots : ℕ}
    {cells later : List Draining} (outset : Outset run_count SealedAgrees (IsFresh runs) a ix m best team roots cells)
    (worked : Worked SameRuns SealedAgrees cells later) (n : ℕ) (all_done : AllDone team later n)
    (runs_count : length runs ≡ m)
    (sealed : (j : ℕ) → j < m → IsRunOf (view_in a) ix (marks_of team) m j (run_at runs j).entries)
    (passes : List (List Visit)) (are : passes ≡ map (λ (c : Draining). c.hand.queues.visits) later)
    (own : All (IsPass runs) passes) (closed : List Line) (lines : AreLines runs passes closed) where
  abbrev g : Ground
  g = search_over a ix n m

  abbrev ys : List RecordedWorker
  ys = ended_records outset worked all_done

  are_behind : AreBehind outset.filled n ys
  are_behind = behind outset worked all_done

  ys_count : length ys ≡ length later
  ys_count = record_count outset worked all_done

  runs_are : (i : ℕ) (e : Draining) → Came outset worked i e → e.hand.queues.runs ≡ runs
  runs_are i e w =
      w.goes.queues.runs ∙ ap (λ (h : DrainKept SealedKept). h.queues.runs) w.began.is.hand
      ∙ ap (λ (q : SealedKept). q.runs) w.began.is.new

  -- there is a run of a searcher for each queue
  run_there : (i : ℕ) (y : RecordedWorker) (at : slice_get ys i ≡ Some y) (j : ℕ) → j < m
      → j < length (ended_at outset worked all_done i y at).cell.hand.queues.runs
  run_there i y at j low =
      let e = ended_at outset worked all_done i y at in
      let b = ap (λ (rs : List Run). length rs) (runs_are i e.cell e.way) ∙ runs_count in omega arith

  -- a worker is closed to at each queue
  was_closed : (i : ℕ) (y : RecordedWorker) (j : ℕ) → slice_get ys i ≡ Some y → j < m → WasClosed y.own j
  was_closed i y j at low =
      let drains : OwnDrains g y.own i m y.worker.rest
      = subst (OwnPhase g y.own i y.worker.rest y.worker.list) (worker_done outset worked all_done i y at)
      (are_behind.stands i y at).phase in
      let x = round_covers i m j low in
      subst (WasClosed y.own) x.2 (drains.closed x.0 x.1)

  module _ (j : ℕ) (low : j < m) where
    abbrev run : Run
    run = run_at runs j

    abbrev line : Line
    line = line_at closed j

    abbrev vs : List Visit
    vs = column passes j

    is_line : IsLine run vs line
    is_line = lines.each j (omega (arith, low, runs_count))

    is_run : IsRunOf (view_in a) ix (marks_of team) m j run.entries
    is_run = sealed j low

    -- the queue that the closed run stands for
    abbrev queue : PlainQueue
    queue = record {
      waiting = left_of run.entries line.taken;
      taken = line.taken;
      placed = length (left_of run.entries line.taken) + length line.taken;
      capacity = capacity_of g j g.leaves;
      kept = line.kept;
    }

    entry_right : (e : Entry) → In e run.entries → e.bound ≡ g.bound e.leaf
    entry_right = bound_right are_behind j run.entries is_run.exactly

    from_run : (e : Entry) → In e line.taken → In e run.entries
    from_run e i =
        let h = (is_line.exactly e).0 i in
        handed_in e h.1 (of_run h.0 h.1 (slice_get-get_or vs h.0 h.1 h.2 ∙ ap Some h.3)) h.4
      where
        -- a visit of the column is of the run
        of_run : (k : ℕ) (v : Visit) → slice_get vs k ≡ Some v → IsVisit run v
        of_run k v at =
            let p = get_map (λ (vs : List Visit). visit_at vs j) passes k v at in
            subst (IsVisit run) p.2
            ((all_at (IsPass runs) passes k p.0 own p.1).each j (let b = runs_count in omega arith))

        handed_in : (e : Entry) (v : Visit) → IsVisit run v → In e (leaves run.entries v) → In e run.entries
        handed_in e v is i =
            let r = map_contains (entry_at run.entries) (handed v) e (in_contains (leaves run.entries v) e i) in
            let drawn = (filter_contains (λ x. not (is_refused_place v.refused x)) v.claim.draws r.0 r.1).0 in
            let below = All-contains (λ x. x < v.claim.met) v.claim.draws r.0 is.below drawn in
            let most = is.most in
            in_at run.entries r.0 e no_entry (omega arith) r.2

    once_here : (l : ℕ) → entered l run.entries ≤ 1
    once_here l = once_entered g.bound run.entries is_run.ascending entry_right l

    once_taken : (l : ℕ) → entered l line.taken ≤ 1
    once_taken l = once_entered g.bound line.taken is_line.ascending (λ e i. entry_right e (from_run e i)) l

    either : (e : Entry) → In e queue.waiting ⊎ In e queue.taken → In e run.entries
    either e (inl waits) = (in_filter (is_left line.taken) run.entries e waits).0
    either e (inr taken) = from_run e taken

    put_counts : (l : ℕ) → waits l queue + takes l queue ≡ total (placed_by j l) ys
    put_counts l =
        left_or_taken l run.entries line.taken (once_here l) (once_taken l) from_run
        ∙ placed_as are_behind j run.entries is_run.exactly once_here l

    popped_counts : (l : ℕ) → takes l queue ≡ total (popped_by j l) ys
    popped_counts l =
        is_line.counts (λ (e : Entry). one_if_same l e.leaf)
        ∙ ap (λ ps. total (given_of l run) (column ps j)) are
        ∙ total_map (given_of l run) (λ (vs : List Visit). visit_at vs j) (map (λ (c : Draining). c.hand.queues.visits) later)
        ∙ total_map (λ (vs : List Visit). given_of l run (visit_at vs j)) (λ (c : Draining). c.hand.queues.visits) later
        ∙ sym (totals_same (popped_by j l) (λ (c : Draining). given_of l run (visit_at c.hand.queues.visits j)) ys later ys_count
        (λ i y c at_y at_c.
        let e = ended_at outset worked all_done i y at_y in
        let same = same_Some e.cell c (sym e.at ∙ at_c) in
        e.later_is.known.tied.pops.popped j l (run_there i y at_y j low)
        ∙ ap (λ rs. given_of l (run_at rs j) (visit_at e.cell.hand.queues.visits j)) (runs_are i e.cell e.way)
        ∙ ap (λ (c : Draining). given_of l run (visit_at c.hand.queues.visits j)) same))

    -- the visit of worker i
    visit_of : (i : ℕ) (y : RecordedWorker) (at : slice_get ys i ≡ Some y)
        → slice_get vs i ≡ Some (visit_at (ended_at outset worked all_done i y at).cell.hand.queues.visits j)
    visit_of i y at =
        let e = ended_at outset worked all_done i y at in
        ap (λ ps. slice_get (column ps j) i) are
        ∙ map_at (λ (vs : List Visit). visit_at vs j) (map (λ (c : Draining). c.hand.queues.visits) later) i e.cell.hand.queues.visits
        (map_at (λ (c : Draining). c.hand.queues.visits) later i e.cell e.at)

    visit_shut : (i : ℕ) (y : RecordedWorker) (at : slice_get ys i ≡ Some y) → WasClosed y.own j
        → is_some (visit_at (ended_at outset worked all_done i y at).cell.hand.queues.visits j).closed ≡ true
    visit_shut i y at w =
        let e = ended_at outset worked all_done i y at in
        e.later_is.known.tied.pops.closed j w.0 w.1 (run_there i y at j low) w.2 w.3 w.4

    shut : (i : ℕ) (y : RecordedWorker) → slice_get ys i ≡ Some y → WasClosed y.own j
        → (v : ℕ) × (queue.kept ≡ Some v)
    shut i y at w =
        let r = least_some vs i _ (visit_of i y at) (visit_shut i y at w) in
        (r.0, is_line.kept ∙ r.1)

    kept : (v : ℕ) → queue.kept ≡ Some v → CameByPop ys v
    kept v e =
        let r = least_from vs v (sym is_line.kept ∙ e) in
        let inside : r.0 < length vs = slice_get_within vs r.0 r.1 r.2 in
        let y = get_some ys r.0 (omega (arith, inside, vs_count, ys_count)) in
        let w = ended_at outset worked all_done r.0 y.0 y.1 in
        let same = same_Some (visit_at w.cell.hand.queues.visits j) r.1 (sym (visit_of r.0 y.0 y.1) ∙ r.2) in
        let k = w.later_is.known.tied.pops.kept j v (run_there r.0 y.0 y.1 j low)
        (ap (λ (x : Visit). x.closed) same ∙ r.3) in
        record { place = r.0; member = y.0; at = y.1; made = k.0; has = k.1; such = k.3 }
      where
        vs_count : length vs ≡ length later
        vs_count = length-map passes (λ (vs : List Visit). visit_at vs j) ∙ ap (λ ps. length ps) are
            ∙ length-map later (λ (c : Draining). c.hand.queues.visits)

    above : (v : ℕ) → queue.kept ≡ Some v → (e : Entry) → In e queue.waiting → v < e.bound
    above v is_kept e waits =
        let r = in_filter (is_left line.taken) run.entries e waits in
        let rest = is_line.rest all_shut e r.0 (λ taken. not_taken e r.1 taken) in
        subst (λ o. IfSome o (λ limit. limit < e.bound)) is_kept rest
      where
        all_shut : All (λ (x : Visit). x.closed ≢ None) vs
        all_shut = all_from (λ (x : Visit). x.closed ≢ None) vs (λ i x at none.
            let low = slice_get_within vs i x at in
            let y = get_some ys i (omega (arith, low, vs_long, ys_count)) in
            let same = same_Some _ x (sym (visit_of i y.0 y.1) ∙ at) in
            none_closed x.closed
            (ap (λ (x : Visit). is_some x.closed) (sym same) ∙ visit_shut i y.0 y.1 (was_closed i y.0 j y.1 low_j)) none)
          where
            low_j : j < m
            low_j = low

            vs_long : length vs ≡ length later
            vs_long = length-map passes (λ (vs : List Visit). visit_at vs j) ∙ ap (λ ps. length ps) are
                ∙ length-map later (λ (c : Draining). c.hand.queues.visits)

        not_taken : (e : Entry) → is_left line.taken e ≡ true → In e line.taken → ⊥
        not_taken e left taken = gone (entered e.leaf line.taken) (entered_in e line.taken taken) left
          where
            gone : (k : ℕ) → 0 < k → not (nat_lt 0 k) ≡ true → ⊥
            gone k low left = grind (arith, Rattle.std.proofs.lemmas.Bool.Decides.nat_tests)

    queue_closes : QueueCloses g ys j queue
    queue_closes = record {
      ordered = ordered_filter (is_left line.taken) run.entries (ascending_ordered run.entries is_run.ascending);
      placed = refl;
      capacity = refl;
      came = λ e h. came are_behind j run.entries is_run.exactly e (either e h);
      put = put_counts;
      popped = popped_counts;
      shut = shut;
      kept = kept;
      above = above;
    }

  -- the queues that the closed runs stand for
  record Stood (j : ℕ) (q : PlainQueue) : Type 0 where
    low : j < m
    same : q ≡ queue j low

  queues : Chosen m Stood
  queues = choose m Stood (λ j low. (queue j low, record { low = low; same = refl }))

  close : (j : ℕ) (q : PlainQueue) → slice_get queues.items j ≡ Some q → QueueCloses g ys j q × Ordered q.taken
  close j q at =
      let s = queues.each j q at in
      subst (λ (q : PlainQueue). QueueCloses g ys j q × Ordered q.taken) (sym s.same)
      (queue_closes j s.low, ascending_ordered (line_at closed j).taken (is_line j s.low).ascending)

  pub sealed_right : (ws : List Working) (ls : List QueueLine) → ws ≡ map (λ (c : Draining). c.worker) later
      → ls ≡ map line_of_run closed → EndsRight g ws ls
  sealed_right ws ls ws_are ls_are = ends_right outset worked all_done queues.items queues.count close ws ls ws_are
      (ls_are ∙ sym (maps_same line_of line_of_run queues.items closed (queues.count ∙ sym (lines.count ∙ runs_count))
      (λ j q l at_q at_l.
      let s = queues.each j q at_q in
      ap line_of s.same ∙ ap line_of_run (get_or_from_slice_get closed j l no_line at_l))))
