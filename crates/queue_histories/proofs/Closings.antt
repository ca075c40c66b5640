-- By the records of the workers that made its calls a locked queue says all that a closed queue should (`closes`).
use Rattle.std.proofs.Common.{◌∙◌, ◌≡◌, ℕ, ◌<◌, ◌==◌, List, [], ◌∷◌, Some, None, inl, inr, ⊎_elim, length, eq-eqb, sym, ap, arith}
use Rattle.std.proofs.lemmas.Bool.{cond_both}
use Rattle.std.proofs.lemmas.Option.{none-some}
use Rattle.std.specs.Prelude.{slice_get}
use Rattle.list_totals.specs.Standing.{In}
use Rattle.list_totals.proofs.Standing.{in_all}
use Rattle.series_core.specs.declared.queue_words.Entry.{Entry}
use Rattle.turn_lock.specs.declared.object.Entry.{Entry as Made}
use Rattle.turn_lock.specs.History.{calls_by}
use Rattle.leaf_queues.specs.declared.calls.Call.{Call}
use Rattle.leaf_queues.specs.declared.calls.Reply.{Reply}
use Rattle.leaf_queues.specs.declared.calls.Reply.TheVariants.{Put as PutAnswer}
use Rattle.series_core.specs.declared.queue_words.PutReply.TheVariants.{Placed}
use Rattle.leaf_queues.specs.PlainQueue.{PlainQueue}
use Rattle.search_machine.specs.Ground.{Ground}
use Rattle.search_machine.specs.Machine.{capacity_of}
use Rattle.search_machine.specs.OwnRecord.{OwnRecord, PopMade, PutMade, RecordedWorker, WasClosed, is_refused}
use Rattle.search_machine.specs.Closes.{CameBy, CameByPop, CameByPut, QueueCloses, placed_by, popped_by}
use Rattle.search_machine.proofs.Places.{get_some}
use Rattle.queue_histories.specs.Histories.{History, Holds, Leads, Past, PlacedIn, PoppedIn, Shaped, placed_at, taken_at}
use Rattle.queue_histories.specs.Closings.{NoneRefusedAt, TeamAgrees}
use Rattle.queue_histories.specs.Rooms.{PutsPlaced, opened_for}
use Rattle.queue_histories.proofs.Callers.{by_team}
use Rattle.queue_histories.proofs.Joins.{past_of, shaped_empty}

-- a caller's call of a history is a call of the history
pub of_history : (i : ℕ) (y : Made Call Reply) (log : History) → In y (calls_by i log) → In y log
of_history i y [] = λ h. h
of_history i y (x ∷ log) =
    cond_both (x.caller == i) (x ∷ calls_by i log) (calls_by i log)
    (λ ys. In y ys → In y (x ∷ log))
    (λ _ h. ⊎_elim
    (λ (same : y ≡ x). inl same)
    (λ (later : In y (calls_by i log)). inr (of_history i y log later))
    h)
    (λ _ h. inr (of_history i y log h))

-- and a call of the history is its caller's
pub of_caller : (y : Made Call Reply) (log : History) → In y log → In y (calls_by y.caller log)
of_caller y [] h = h
of_caller y (x ∷ log) h =
    cond_both (x.caller == y.caller) (x ∷ calls_by y.caller log) (calls_by y.caller log) (In y)
    (λ _. ⊎_elim
    (λ (same : y ≡ x). inl same)
    (λ (later : In y log). inr (of_caller y log later))
    h)
    (λ b. ⊎_elim
    (λ (same : y ≡ x).
    let is = eq-eqb x.caller y.caller (ap (λ (z : Made Call Reply). z.caller) (sym same)) in
    absurd (cc))
    (λ (later : In y log). of_caller y log later)
    h)

module _ (g : Ground) (team : List RecordedWorker) (m : ℕ) (closed : PlainQueue) (log : History)
    (way : Leads (opened_for g m) log closed) (agrees : TeamAgrees m team log) where
  -- what the history made of the queue
  past : Past (opened_for g m) closed log
  past = past_of (opened_for g m) closed log way

  -- it is as calls leave one
  shaped : Shaped closed
  shaped = past.shaped (shaped_empty (capacity_of g m g.leaves))

  -- each call is a member's
  member_of : (y : Made Call Reply) → In y log
      → (x : RecordedWorker) × (slice_get team y.caller ≡ Some x)
  member_of y h =
      get_some team y.caller
      (in_all (λ (x : Made Call Reply). x.caller < length team) log y agrees.callers h)

  -- what stands in the record of a call's caller came by some member
  came_by : {X : Type 0} (list : OwnRecord → List X) (P : X → Type 0) (y : Made Call Reply) → In y log
      → ((x : RecordedWorker) → slice_get team y.caller ≡ Some x → (p : X) × In p (list x.own) × P p)
      → CameBy team list P
  came_by list P y h found =
      let who = member_of y h in
      let p = found who.0 who.1 in
      record { place = y.caller; member = who.0; at = who.1; made = p.0; has = p.1; such = p.2 }

  -- an entry came by some member's put
  came_by_put : (e : Entry) → PlacedIn log e → CameByPut team m e
  came_by_put e made =
      came_by (λ r. r.puts) (λ (p : PutMade). (p.queue ≡ m) × (p.entry ≡ e)) made.0 made.1
      (λ x at. let p = (agrees.members made.0.caller x at).puts made.0 e (of_caller made.0 log made.1) made.2 in
      (p.0, p.1, (p.2, p.3)))

  -- and a limit by some member's pop
  came_by_pop : (v : ℕ) → PoppedIn log v → CameByPop team v
  came_by_pop v made =
      came_by (λ r. r.pops) (λ (p : PopMade). p.limit ≡ v) made.0 made.1
      (λ x at. (agrees.members made.0.caller x at).pops made.0 v (of_caller made.0 log made.1) made.2)

  -- a Closed reply of a member's record shut it
  shut_by : (i : ℕ) (x : RecordedWorker) → slice_get team i ≡ Some x → WasClosed x.own m
      → (v : ℕ) × (closed.kept ≡ Some v)
  shut_by i x at was =
      let y = (agrees.members i x at).closed was.0 was.1 was.2 was.3 was.4 in
      (was.1, past.shut y.0 was.1 (of_history i y.0 log y.1) y.2)

  -- so the queue says what it should
  pub closes : QueueCloses g team m closed
  closes = record {
    ordered = shaped.ordered;
    placed = shaped.placed;
    capacity = past.capacity;
    came = λ e h. ⊎_elim
        (λ (old : Holds (opened_for g m) e). absurd
        (⊎_elim (λ (w : ⊥). w) (λ (t : ⊥). t) old))
        (λ (made : PlacedIn log e). came_by_put e made)
        (past.came e h);
    put = λ l.
        let a = past.holds l in
        let b = by_team (placed_at l) (placed_by m l) team log agrees.callers
        (λ i x at. (agrees.members i x at).placed l) in
        omega arith;
    popped = λ l.
        let a = past.takes l in
        let b = by_team (taken_at l) (popped_by m l) team log agrees.callers
        (λ i x at. (agrees.members i x at).taken l) in
        omega arith;
    shut = λ i x at was. shut_by i x at was;
    kept = λ v h. ⊎_elim
        (λ (old : None ≡ Some v). absurd (none-some v old))
        (λ (made : PoppedIn log v). came_by_pop v made)
        (past.kept v h);
    above = shaped.above;
  }

-- where each put of the history was placed, no put of the records was refused
pub unrefused : (m : ℕ) (team : List RecordedWorker) (log : History) → TeamAgrees m team log
    → PutsPlaced log → NoneRefusedAt m team
unrefused m team log agrees placed i x p at has queue =
    let y = (agrees.members i x at).answered p has queue in
    let is : PutAnswer p.reply ≡ PutAnswer Placed =
    sym y.3 ∙ placed y.0 p.entry (of_history i y.0 log y.1) y.2 in
    let same : p.reply ≡ Placed = cc in
    ap is_refused same
