-- What the searchers and the queues that come back from their locks say together: the search has a legal and straight outcome
-- (`locked_right`).
use Rattle.std.proofs.Common.{◌≡◌, ℕ, ◌+◌, ◌<◌, ◌⊎◌, List, [], ◌∷◌, ◌++◌, Some, All, length, map, refl, sym, ap, ◌∙◌, subst, inl, inr, ⊎_elim, arith}
use Rattle.std.specs.Prelude.{slice_get}
use Rattle.std.proofs.lemmas.Option.{none-some, slice_get_within}
use Rattle.list_totals.specs.Totals.{total}
use Rattle.list_totals.specs.Standing.{In}
use Rattle.list_totals.proofs.Standing.{in_all}
use Rattle.best_word.specs.Passes.{Best}
use Rattle.series_core.specs.declared.queue_words.Entry.{Entry}
use Rattle.turn_lock.specs.declared.object.Entry.{Entry as Made}
use Rattle.turn_lock.specs.History.{calls_by}
use Rattle.turn_lock.specs.Passes.{opening_of}
use Rattle.leaf_queues.specs.declared.calls.Call.{Call as QueueCall}
use Rattle.leaf_queues.specs.declared.calls.Call.TheVariants.{Put as ToPut, Pop as ToPop}
use Rattle.leaf_queues.specs.declared.calls.Reply.{Reply as QueueReply}
use Rattle.leaf_queues.specs.PlainQueue.{PlainQueue}
use Rattle.subtree_build.specs.Index.{IndexParts}
use Rattle.search_machine.specs.declared.outcome.QueueLine.{QueueLine}
use Rattle.search_machine.specs.Basics.{Ordered, entered}
use Rattle.search_machine.specs.Closes.{CameByPop, QueueCloses, placed_by, popped_by}
use Rattle.search_machine.specs.Ground.{Ground}
use Rattle.search_machine.specs.Outcome.{line_of}
use Rattle.search_machine.specs.OwnRecord.{RecordedWorker, WasClosed}
use Rattle.search_machine.specs.Sound.{takes, waits}
use Rattle.search_machine.proofs.Entries.{ordered_front}
use Rattle.search_machine.proofs.Places.{get_some}
use Rattle.queue_histories.specs.Histories.{ArePops, History, Holds, Past, PlacedIn, PoppedIn, Shaped, placed_at, places_leaf, taken_at}
use Rattle.queue_histories.proofs.Callers.{by_team}
use Rattle.queue_histories.proofs.Closings.{of_caller, of_history}
use Rattle.queue_histories.proofs.Joins.{past_of}
use Rattle.search_task.specs.Questions.{Question, search_over}
use Rattle.query_core.specs.Working.{Working}
use Rattle.live_query.specs.FilledQueues.{AreFilled, IsFilled}
use Rattle.live_query.specs.LockedQueues.{ArePopsOf, LockedAgrees, QueueLock, SameLocks, pass_count}
use Rattle.live_query.specs.LockParts.{HasNew, Locking, Row, WentBy, calls_in}
use Rattle.live_query.specs.Parts.{EndsRight, Resting}
use Rattle.live_query.proofs.DrainGather.{Outset, Worked, team_count}
use Rattle.live_query.proofs.Drained.{AllDone, behind, ended_at, ended_records, ends_right, record_count}
use Rattle.live_query.proofs.LockGather.{Locked, back_are, passes_there, row_calls, team_rows, went}
use Rattle.live_query.proofs.PutsKept.{came, placed_as}

-- pops place nothing
pops_place : (l : ℕ) (log : History) → ArePops log → total (placed_at l) log ≡ 0
pops_place l [] pops = refl
pops_place l (x ∷ log) pops =
    let first = pops x (inl refl) in
    let rest = pops_place l log (λ y t. pops y (inr t)) in
    let none : places_leaf l x.call x.reply ≡ 0 = ap (λ (c : QueueCall). places_leaf l c x.reply) first.1 in
    omega (arith, rest, none)

module _ {a : Question} {ix : IndexParts} {m : ℕ} {best : Best} {team : List Resting} {queues : List PlainQueue} {roots : ℕ}
    {locks : List QueueLock} {cells later : List Locking} (rows : List Row) (locked : Locked queues m team locks)
    (filled : AreFilled a ix team m queues)
    (outset : Outset pass_count LockedAgrees (HasNew locks) a ix m best team roots cells)
    (worked : Worked SameLocks LockedAgrees cells later)
    (passes : map (λ (row : Row). row.items) rows ≡ map (λ (e : Locking). e.hand.queues.passes) later)
    (n : ℕ) (all_done : AllDone team later n)
    (back : List PlainQueue) (back_count : length back ≡ length locks)
    (histories : (j : ℕ) (k : QueueLock) (r : PlainQueue) → slice_get locks j ≡ Some k → slice_get back j ≡ Some r
    → WentBy (length rows) (λ i. calls_in rows i j) (opening_of k) r) where
  abbrev g : Ground
  g = search_over a ix n m

  abbrev ys : List RecordedWorker
  ys = ended_records outset worked all_done

  -- a queue before and after the part
  module _ (j : ℕ) (low : j < m) (q : PlainQueue) (at_q : slice_get back j ≡ Some q) where
    before : (r : PlainQueue) × (slice_get queues j ≡ Some r)
    before = get_some queues j (let b = locked.count in omega arith)

    abbrev r : PlainQueue
    r = before.0

    is : IsFilled a ix team m j r
    is = filled j r before.1

    history : WentBy (length rows) (λ i. calls_in rows i j) r q
    history = went rows locked outset worked passes back back_count histories j r q before.1 at_q

    past : Past r q history.log
    past = past_of r q history.log history.leads

    callers : All (λ (x : Made QueueCall QueueReply). x.caller < length ys) history.log
    callers = subst (λ (k : ℕ). All (λ (x : Made QueueCall QueueReply). x.caller < k) history.log)
        (team_rows rows locked outset worked passes ∙ sym (record_count outset worked all_done ∙ team_count outset worked)) history.callers_only

    -- the calls of worker i are the pops of its record
    pops_of : (i : ℕ) (y : RecordedWorker) → slice_get ys i ≡ Some y → ArePopsOf j y.own.pops (calls_by i history.log)
    pops_of i y at =
        let e = ended_at outset worked all_done i y at in
        let within = slice_get_within later i e.cell e.at in
        let calls = history.own i (let b = team_rows rows locked outset worked passes in let c = team_count outset worked in omega arith)
        ∙ row_calls rows locked outset worked passes i j e.cell e.at in
        let there = passes_there rows locked outset worked passes i e.cell e.at in
        subst (ArePopsOf j y.own.pops) (sym calls) (e.later_is.known.tied.pops j (omega arith))

    member_of : (x : Made QueueCall QueueReply) → In x history.log → (y : RecordedWorker) × (slice_get ys x.caller ≡ Some y)
    member_of x i =
        get_some ys x.caller (in_all (λ (x : Made QueueCall QueueReply). x.caller < length ys) history.log x callers i)

    pops : ArePops history.log
    pops x i =
        let y = member_of x i in
        (pops_of x.caller y.0 y.1).alone x (of_caller x history.log i)

    shaped : Shaped q
    shaped = past.shaped (record {
      ordered = is.ordered;
      placed = omega (arith, is.placed, ap (λ (es : List Entry). length es) is.taken);
      above = λ v h. absurd (none-some v (sym is.kept ∙ h));
    })

    -- what waits or was taken waited before
    waited : (e : Entry) → In e q.waiting ⊎ In e q.taken → In e r.waiting
    waited e h = ⊎_elim
        (λ (old : Holds r e). ⊎_elim
        (λ (waits : In e r.waiting). waits)
        (λ (taken : In e r.taken). absurd (subst (In e) is.taken taken))
        old)
        (λ (new : PlacedIn history.log e).
        let pop = pops new.0 new.1 in
        let told : ToPut e ≡ ToPop pop.0 = sym new.2 ∙ pop.1 in
        absurd (cc))
        (past.came e h)

    none_taken : (l : ℕ) → takes l r ≡ 0
    none_taken l = ap (entered l) is.taken

    put_counts : (l : ℕ) → waits l q + takes l q ≡ total (placed_by j l) ys
    put_counts l =
        omega (
          arith,
          past.holds l,
          pops_place l history.log pops,
          none_taken l,
          placed_as (behind outset worked all_done) j r.waiting is.exactly is.once l,
        )

    popped_counts : (l : ℕ) → takes l q ≡ total (popped_by j l) ys
    popped_counts l =
        omega (
          arith,
          past.takes l,
          none_taken l,
          by_team (taken_at l) (popped_by j l) ys history.log callers (λ i y at. (pops_of i y at).taken l),
        )

    shut : (i : ℕ) (y : RecordedWorker) → slice_get ys i ≡ Some y → WasClosed y.own j → (v : ℕ) × (q.kept ≡ Some v)
    shut i y at was =
        let x = (pops_of i y at).closed was.0 was.1 was.2 was.3 was.4 in
        (was.1, past.shut x.0 was.1 (of_history i x.0 history.log x.1) x.2)

    kept : (v : ℕ) → q.kept ≡ Some v → CameByPop ys v
    kept v h = ⊎_elim
        (λ (old : r.kept ≡ Some v). absurd (none-some v (sym is.kept ∙ old)))
        (λ (made : PoppedIn history.log v).
        let y = member_of made.0 made.1 in
        let p = (pops_of made.0.caller y.0 y.1).made made.0 v (of_caller made.0 history.log made.1) made.2 in
        record { place = made.0.caller; member = y.0; at = y.1; made = p.0; has = p.1; such = p.2 })
        (past.kept v h)

    queue_closes : QueueCloses g ys j q
    queue_closes = record {
      ordered = shaped.ordered;
      placed = shaped.placed;
      capacity = past.capacity ∙ is.capacity;
      came = λ e h. came (behind outset worked all_done) j r.waiting is.exactly e (waited e h);
      put = put_counts;
      popped = popped_counts;
      shut = shut;
      kept = kept;
      above = shaped.above;
    }

    in_order : Ordered q.taken
    in_order = ordered_front q.taken q.waiting
        (past.drains pops (subst (λ (es : List Entry). Ordered (es ++ r.waiting)) (sym is.taken) is.ordered))

  within : (j : ℕ) (q : PlainQueue) → slice_get back j ≡ Some q → j < m
  within j q at =
      let low = slice_get_within back j q at in
      let c = back_are rows locked outset worked passes back back_count histories in
      omega arith

  close : (j : ℕ) (q : PlainQueue) → slice_get back j ≡ Some q → QueueCloses g ys j q × Ordered q.taken
  close j q at = (queue_closes j (within j q at) q at, in_order j (within j q at) q at)

  pub locked_right : (ws : List Working) (ls : List QueueLine) → ws ≡ map (λ (e : Locking). e.worker) later
      → ls ≡ map line_of back → EndsRight g ws ls
  locked_right =
      ends_right outset worked all_done back (back_are rows locked outset worked passes back back_count histories) close
