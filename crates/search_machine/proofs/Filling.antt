-- No put is answered Filled: a queue holds different leaves of its own number, and the one that
-- comes is another.
use Rattle.std.proofs.Common.{List, None, Option, Some, ap, arith, ltb, map, refl, suc, sym, zero, ℕ, ⊎_elim, ◌++◌, ◌+◌, ◌<◌, ◌∙◌, ◌∷◌, ◌≡◌, ◌≢◌, ◌≤◌}
use Rattle.std.proofs.lemmas.Bool.{cases_lt, cond_both, ltb-false}
use Rattle.std.proofs.lemmas.List.{length-append, length-map}
use Rattle.std.specs.Prelude.{slice_get}
use Rattle.list_totals.proofs.Totals.{total_append, total_map}
use Rattle.list_totals.specs.Totals.{one_if_same, times}
use Rattle.series_core.specs.declared.queue_words.Entry.{Entry}
use Rattle.series_core.specs.declared.queue_words.PutReply.{PutReply}
use Rattle.series_core.specs.declared.queue_words.PutReply.TheVariants.{Filled, Placed}
use Rattle.leaf_queues.specs.PlainQueue.{PlainQueue, placed_in, put, put_open}
use Rattle.search_machine.specs.declared.phase.Phase.TheVariants.{Give}
use Rattle.search_machine.specs.Ground.{Ground, entry_of, queue_of}
use Rattle.search_machine.specs.Machine.{State, capacity_of}
use Rattle.search_machine.specs.Workers.{Worker}
use Rattle.list_totals.specs.Standing.{In}
use Rattle.search_machine.specs.Sound.{QueueSound, Sound, held, in_hand, places, takes, waits}
use Rattle.search_machine.specs.Basics.{EntryRight, entered}
use Rattle.search_machine.proofs.Counts.{counts_or_not, length_sum, same_counts, sum_below, sum_le}
use Rattle.search_machine.proofs.Ending.{entered_some}
use Rattle.search_machine.proofs.Places.{total_at}

-- the room of a queue is the sum over the leaves
pub capacity_sum : (g : Ground) (m n : ℕ)
    → capacity_of g m n ≡ sum_below (λ l. one_if_same m (queue_of g l)) n
capacity_sum g m zero = refl
capacity_sum g m (suc n) = let a = capacity_sum g m n in omega arith

-- a leaf of a queue's entries belongs to the queue
entered_queue : (g : Ground) (m l : ℕ) (es : List Entry)
    → ((e : Entry) → In e es → EntryRight g m e) → 0 < entered l es → queue_of g l ≡ m
entered_queue g m l es right h =
    let r = entered_some l es h in
    ap (queue_of g) r.2 ∙ (right r.0 r.1).queue

-- the leaves of the entries
abbrev leaves_of : List Entry → List ℕ
leaves_of es = map (λ (e : Entry). e.leaf) es

module _ (g : Ground) (s : State) (i : ℕ) (w : Worker) (l : ℕ) (q : PlainQueue) (sound : Sound g s)
    (at : slice_get s.workers i ≡ Some w) (e : w.phase ≡ Give l)
    (at_queue : slice_get s.queues (queue_of g l) ≡ Some q) where
  -- the queue is sound
  old : QueueSound g (queue_of g l) q
  old = sound.queues (queue_of g l) q at_queue

  -- the leaf that comes and those of the entries that wait or were taken
  abbrev here : List ℕ
  here = l ∷ (leaves_of q.waiting ++ leaves_of q.taken)

  -- how often a leaf is one of them
  times_here : (k : ℕ) → times k here ≡ one_if_same k l + entered k q.waiting + entered k q.taken
  times_here k =
      let a = total_append (one_if_same k) (leaves_of q.waiting) (leaves_of q.taken) in
      let b = total_map (one_if_same k) (λ (x : Entry). x.leaf) q.waiting in
      let c = total_map (one_if_same k) (λ (x : Entry). x.leaf) q.taken in
      omega arith

  -- no leaf is one of them more often than it is in a place
  in_places : (k : ℕ) → times k here ≤ places g s k
  in_places k =
      let a = times_here k in
      let b = total_at (waits k) s.queues (queue_of g l) q at_queue in
      let c = total_at (takes k) s.queues (queue_of g l) q at_queue in
      let d = sound.taken k in
      let f = total_at (held k) s.workers i w at in
      let h = ap (in_hand k) e in
      omega arith

  -- each of them belongs to the queue
  same_queue : (k : ℕ) → 0 < times k here → queue_of g k ≡ queue_of g l
  same_queue k h = ⊎_elim
      (λ (c : (one_if_same k l ≡ 1) × (k ≡ l)). ap (queue_of g) c.1)
      (λ (c : one_if_same k l ≡ 0). ⊎_elim
      (λ (d : 0 < entered k q.waiting). entered_queue g (queue_of g l) k q.waiting old.waiting d)
      (λ (d : entered k q.waiting ≤ 0). entered_queue g (queue_of g l) k q.taken old.taken
      (let a = times_here k in omega arith))
      (cases_lt 0 (entered k q.waiting)))
      (counts_or_not k l)

  -- so each is one of them at most once
  within : (k : ℕ) → times k here ≤ one_if_same (queue_of g l) (queue_of g k)
  within k = ⊎_elim
      (λ (h : 0 < times k here).
      let a = in_places k in
      let b = sound.once k in
      let c : one_if_same (queue_of g l) (queue_of g k)
      ≡ one_if_same (queue_of g k) (queue_of g k) =
      ap (λ (n : ℕ). one_if_same n (queue_of g k)) (sym (same_queue k h)) in
      let d = same_counts (queue_of g k) in
      omega arith)
      (λ (h : times k here ≤ 0). omega arith)
      (cases_lt 0 (times k here))

  -- there is room for the leaf that comes
  pub room : q.placed < q.capacity
  room =
      let a = length_sum g.leaves here (λ k h. sound.real k (let b = in_places k in omega arith)) in
      let b = sum_le (λ k. times k here)
      (λ k. one_if_same (queue_of g l) (queue_of g k)) g.leaves within in
      let c = capacity_sum g (queue_of g l) g.leaves in
      let d = length-append (leaves_of q.waiting) (leaves_of q.taken) in
      let f = length-map q.waiting (λ (x : Entry). x.leaf) in
      let h = length-map q.taken (λ (x : Entry). x.leaf) in
      let j = old.placed in
      let k = old.capacity in
      omega arith

  -- the reply, by the kept limit
  open_filled : (c : ℕ) (k : Option ℕ) → (put_open (entry_of g l) q k).1 ≢ Filled c
  open_filled c (Some v) = λ h. absurd (cc)
  open_filled c None = cond_both (ltb q.placed q.capacity)
      (placed_in (entry_of g l) q, Placed)
      (q, Filled q.capacity)
      (λ (r : PlainQueue × PutReply). r.1 ≢ Filled c)
      (λ _ h. absurd (cc))
      (λ b h. let a = ltb-false q.placed q.capacity b in let d = room in omega arith)

  -- no put is answered Filled
  pub never_filled : (c : ℕ) → (put (entry_of g l) q).1 ≢ Filled c
  never_filled c = open_filled c q.kept
