-- Each turn of a worker that is not done uses up effort: what is left to do, counted in turns.
use Rattle.std.proofs.Common.{List, None, Option, Some, [], ap, arith, drop, eqb, inl, inr, leb, length, ltb, min, refl, subst, suc, sym, ℕ, ◌%◌, ◌&&◌, ◌*◌, ◌+◌, ◌-◌, ◌<◌, ◌∙◌, ◌∷◌, ◌≡◌, ◌≢◌, ◌≤◌, ◌⊎◌}
use Rattle.std.proofs.Math.Nat.{mod-lt}
use Rattle.std.proofs.lemmas.Bool.{cond_both, ltb-true}
use Rattle.std.proofs.lemmas.Option.{none-some}
use Rattle.std.specs.Prelude.{not, slice_get}
use Rattle.list_totals.specs.Totals.{total}
use Rattle.series_core.specs.declared.pair.Pair.{Pair}
use Rattle.series_core.specs.declared.queue_words.Entry.{Entry}
use Rattle.series_core.specs.declared.queue_words.PopReply.{PopReply}
use Rattle.series_core.specs.declared.queue_words.PopReply.TheVariants.{Closed, Leaf}
use Rattle.series_core.specs.declared.queue_words.PutReply.{PutReply}
use Rattle.series_core.specs.declared.queue_words.PutReply.TheVariants.{Filled, Placed}
use Rattle.leaf_queues.specs.PlainQueue.{PlainQueue, placed_in, pop, pop_open, put, put_open, shut_with, taken_from}
use Rattle.search_machine.specs.declared.phase.Onward.{Onward}
use Rattle.search_machine.specs.declared.phase.Onward.TheVariants.{Aim as ToAim, Look as ToLook}
use Rattle.search_machine.specs.declared.phase.Phase.{Phase}
use Rattle.search_machine.specs.declared.phase.Phase.TheVariants.{Aim, Claim, Done, Give, Late, Look, Offer, Pop}
use Rattle.search_machine.specs.Ground.{Fits, Ground, scan, worst, entry_of, queue_of}
use Rattle.search_machine.specs.Machine.{State, turn_by_phase}
use Rattle.search_machine.proofs.Rows.{claim_turn, give_turn, pop_turn, row, row_is, with_queue}
use Rattle.search_machine.specs.Workers.{Worker, after_claim, after_late, after_look, after_pop, after_put, after_scan, improves, in_phase, is_new, onward, round_queue, scanned_by, skip, stopped, without}
use Rattle.search_machine.specs.Sound.{Drains, PhaseSound, Sound}
use Rattle.search_machine.specs.Basics.{Between}
use Rattle.search_machine.proofs.Entries.{length_place}
use Rattle.search_machine.proofs.Opening.{remove}
use Rattle.search_machine.proofs.Places.{get_some, total_drop, total_set}
use Rattle.search_machine.proofs.Turns.{changed}

-- at most how many turns a worker takes after an offer or a scan
abbrev turns_onward : Ground → Onward → ℕ
turns_onward g ToLook = 2 + 2 * g.queues
turns_onward g (ToAim j) = 2 * (g.queues - j)

-- at most how many turns a worker takes from this phase, without those for its rest
abbrev pub turns_left : Ground → Phase → ℕ
turns_left g Claim = 1 + 2 * g.queues
turns_left g Look = 2 + 2 * g.queues
turns_left g (Give l) = 6 + 2 * g.queues
turns_left g (Late l) = 4 + 2 * g.queues
turns_left g (Aim j) = 2 * (g.queues - j)
turns_left g (Pop j v) = 2 * (g.queues - j) - 1
turns_left g (Offer next) = 1 + turns_onward g next
turns_left g Done = 0

-- at most how many turns a worker takes, with those for its rest
abbrev pub worker_effort : Ground → Worker → ℕ
worker_effort g w = turns_left g w.phase + 5 * length w.rest

-- for a waiting entry: a read, a pop and an offer
abbrev pub queue_effort : PlainQueue → ℕ
queue_effort q = 3 * length q.waiting

-- for a root child: a claim and a last look, and five turns a leaf
abbrev pub root_effort : List ℕ → ℕ
root_effort r = 2 + 5 * length r

-- all that is left to do
abbrev pub effort : Ground → State → ℕ
effort g s =
    total root_effort (drop s.claimed g.roots) + total queue_effort s.queues
    + total (worker_effort g) s.workers

-- going on leaves what it should
onward_left : (g : Ground) (next : Onward) → turns_left g (onward next) ≡ turns_onward g next
onward_left g ToLook = refl
onward_left g (ToAim j) = refl

-- after a scan at most an offer is left before that
scan_left : (g : Ground) (ps : List Pair) (v : ℕ) (next : Onward)
    → turns_left g (after_scan g ps v next) ≤ 1 + turns_onward g next
scan_left g ps v next =
    cond_both (improves g ps v) (Offer next) (onward next)
    (λ p. turns_left g p ≤ 1 + turns_onward g next) (λ _. omega arith)
    (λ _. let a = onward_left g next in omega arith)

-- a turn that changes worker i alone
alone : (g : Ground) (s : State) (i : ℕ) (w x : Worker) (word : ℕ) → slice_get s.workers i ≡ Some w
    → worker_effort g x < worker_effort g w
    → effort g (changed s i x word s.claimed s.queues) < effort g s
alone g s i w x word at less = let a = total_set (worker_effort g) s.workers i w x at in omega arith

-- a turn that also changes queue m
together : (g : Ground) (s : State) (i m : ℕ) (w x : Worker) (q r : PlainQueue)
    → slice_get s.workers i ≡ Some w → slice_get s.queues m ≡ Some q
    → worker_effort g x + queue_effort r < worker_effort g w + queue_effort q
    → effort g (with_queue m r i x s) < effort g s
together g s i m w x q r at at_queue less =
    let a = total_set (worker_effort g) s.workers i w x at in
    let b = total_set queue_effort s.queues m q r at_queue in
    omega arith

-- no more leaves than before where one is removed
pub length_remove : (m : ℕ) (ls : List ℕ) → length (remove m ls) ≤ length ls
length_remove m [] = omega arith
length_remove m (l ∷ ls) =
    let rest = length_remove m ls in
    cond_both (not (eqb l m)) (l ∷ remove m ls) (remove m ls)
    (λ r. length r ≤ length (l ∷ ls)) (λ _. omega arith) (λ _. omega arith)

-- nor where the start leaf is left out
pub length_without : (o : Option ℕ) (ls : List ℕ) → length (without o ls) ≤ length ls
length_without None ls = omega arith
length_without (Some m) ls = length_remove m ls

-- nor where the front is dropped
pub length_skip : (g : Ground) (v : ℕ) (ls : List ℕ) → length (skip g v ls) ≤ length ls
length_skip g v [] = omega arith
length_skip g v (l ∷ ls) =
    cond_both (ltb v (g.bound l)) (skip g v ls) (l ∷ ls) (λ r. length r ≤ length (l ∷ ls))
    (λ _. let a = length_skip g v ls in omega arith) (λ _. omega arith)

-- a claim uses up effort
claim_less : (g : Ground) (s : State) (i : ℕ) (w : Worker) → Sound g s
    → slice_get s.workers i ≡ Some w → w.phase ≡ Claim → (o : Option (List ℕ))
    → slice_get g.roots s.claimed ≡ o → effort g (claim_turn g i s w o) < effort g s
claim_less g s i w sound at e None f =
    alone g s i w (in_phase (Aim 0) w) s.word at (let h = ap (turns_left g) e in omega arith)
claim_less g s i w sound at e (Some r) f =
    let h = ap (turns_left g) e in
    let a = total_set (worker_effort g) s.workers i w (after_claim g w (Some r)) at in
    let b = total_drop root_effort g.roots s.claimed r f in
    let c = length_without g.start r in
    omega arith

-- so does stopping at the first leaf that is left
stopped_less : (g : Ground) (w : Worker) (ls : List ℕ)
    → worker_effort g (stopped w ls) + 1 ≤ 2 + 2 * g.queues + 5 * length ls
stopped_less g w [] = omega arith
stopped_less g w (l ∷ ls) = omega arith

-- so does a put, whatever the reply
gave_less : (g : Ground) (w : Worker) (l : ℕ) (q : PlainQueue) → w.phase ≡ Give l → (k : Option ℕ)
    → worker_effort g (after_put w l (put_open (entry_of g l) q k).1)
    + queue_effort (put_open (entry_of g l) q k).0 < worker_effort g w + queue_effort q
gave_less g w l q e (Some v) = let h = ap (turns_left g) e in omega arith
gave_less g w l q e None = cond_both (ltb q.placed q.capacity)
    (placed_in (entry_of g l) q, Placed)
    (q, Filled q.capacity)
    (λ (r : PlainQueue × PutReply). worker_effort g (after_put w l r.1) + queue_effort r.0
    < worker_effort g w + queue_effort q)
    (λ _. let h = ap (turns_left g) e in
    let a = length_place (entry_of g l) q.waiting in omega arith)
    (λ _. let h = ap (turns_left g) e in omega arith)

-- so does a pop that was answered Closed
closed_less : (g : Ground) (w : Worker) (j v k : ℕ) → w.phase ≡ Pop j v → j < g.queues
    → worker_effort g (after_pop g w j v (Closed k)) < worker_effort g w
closed_less g w j v k e low =
    cond_both (ltb (suc j) g.queues) (in_phase (Aim (suc j)) w) (in_phase Done w)
    (λ x. worker_effort g x < worker_effort g w)
    (λ b. let h = ap (turns_left g) e in let a = ltb-true (suc j) g.queues b in omega arith)
    (λ _. let h = ap (turns_left g) e in omega arith)

-- a pop that was answered Leaf gives back no more than two turns, and a scan of the leaf
taken_less : (g : Ground) (w : Worker) (j v : ℕ) (d : Entry) → w.phase ≡ Pop j v → j < g.queues
    → worker_effort g (after_pop g w j v (Leaf d)) ≤ worker_effort g w + 2
taken_less g w j v d e low =
    cond_both (is_new d.leaf w && ltb d.leaf g.leaves) (scanned_by g w d.leaf v (ToAim j))
    (in_phase (Aim j) w) (λ x. worker_effort g x ≤ worker_effort g w + 2)
    (λ _. let h = ap (turns_left g) e in
    let a = scan_left g (scan g v (g.members d.leaf) w.list) v (ToAim j) in omega arith)
    (λ _. let h = ap (turns_left g) e in omega arith)

-- so a pop uses up effort together with its queue
popped_less : (g : Ground) (w : Worker) (j v : ℕ) (q : PlainQueue) → w.phase ≡ Pop j v
    → j < g.queues → (k : Option ℕ) (es : List Entry) → q.waiting ≡ es
    → worker_effort g (after_pop g w j v (pop_open v q k es).1) + queue_effort (pop_open v q k es).0
    < worker_effort g w + queue_effort q
popped_less g w j v q e low (Some k) es is = let a = closed_less g w j v k e low in omega arith
popped_less g w j v q e low None [] is = let a = closed_less g w j v v e low in omega arith
popped_less g w j v q e low None (d ∷ ds) is = cond_both (ltb v d.bound)
    (shut_with v q, Closed v)
    (taken_from d ds q, Leaf d)
    (λ (r : PlainQueue × PopReply). worker_effort g (after_pop g w j v r.1) + queue_effort r.0
    < worker_effort g w + queue_effort q)
    (λ _. let a = closed_less g w j v v e low in omega arith)
    (λ _. let a = taken_less g w j v d e low in let b = ap length is in omega arith)

-- so does a read in Late
late_less : (g : Ground) (w : Worker) (l v : ℕ) → w.phase ≡ Late l
    → worker_effort g (after_late g w l v) < worker_effort g w
late_less g w l v e =
    cond_both (is_new l w && leb (g.bound l) v) (scanned_by g w l v ToLook) (in_phase Look w)
    (λ x. worker_effort g x < worker_effort g w)
    (λ _. let h = ap (turns_left g) e in
    let a = scan_left g (scan g v (g.members l) w.list) v ToLook in omega arith)
    (λ _. let h = ap (turns_left g) e in omega arith)

module _ (g : Ground) (fits : Fits g) (s : State) (i : ℕ) (w : Worker) (sound : Sound g s)
    (at : slice_get s.workers i ≡ Some w) where
  -- what holds by the phase
  phase_of : (phase : Phase) → w.phase ≡ phase
      → PhaseSound g s.claimed s.queues i w.rest w.list phase
  phase_of phase e =
      subst (PhaseSound g s.claimed s.queues i w.rest w.list) e (sound.workers i w at).phase

  -- each leaf and each place of a round has a queue
  queue_at : (n : ℕ) → (q : PlainQueue) × (slice_get s.queues (n % g.queues) ≡ Some q)
  queue_at n =
      get_some s.queues (n % g.queues) (let a = mod-lt n fits.some_queue in
      let b = sound.queue_count in omega arith)

  -- a put uses up effort
  give_less : (l : ℕ) → w.phase ≡ Give l → (o : Option PlainQueue)
      → slice_get s.queues (queue_of g l) ≡ o → effort g (give_turn g i s w l o) < effort g s
  give_less l e None f = let r = queue_at l in absurd (none-some r.0 (sym f ∙ r.1))
  give_less l e (Some q) f =
      together g s i (queue_of g l) w (after_put w l (put (entry_of g l) q).1) q
      (put (entry_of g l) q).0 at f (gave_less g w l q e q.kept)

  -- a pop uses up effort
  pop_less : (j v : ℕ) → w.phase ≡ Pop j v → (o : Option PlainQueue)
      → slice_get s.queues (round_queue g i j) ≡ o → effort g (pop_turn g i s w j v o) < effort g s
  pop_less j v e None f = let r = queue_at (i + j) in absurd (none-some r.0 (sym f ∙ r.1))
  pop_less j v e (Some q) f =
      let h : Drains g s.claimed s.queues i j w.rest × (j < g.queues)
      × Between g v = phase_of (Pop j v) e in
      together g s i (round_queue g i j) w (after_pop g w j v (pop v q).1) q (pop v q).0 at f
      (popped_less g w j v q e h.1 q.kept q.waiting refl)

  -- the row of a worker that is not done uses up effort
  row_less : (phase : Phase) → w.phase ≡ phase → phase ≢ Done
      → effort g (row g i s w phase) < effort g s
  row_less Claim e ne = claim_less g s i w sound at e (slice_get g.roots s.claimed) refl
  row_less Look e ne =
      alone g s i w (after_look g w s.word) s.word at (let h = ap (turns_left g) e in
      let a = stopped_less g w (skip g s.word w.rest) in
      let b = length_skip g s.word w.rest in omega arith)
  row_less (Give l) e ne = give_less l e (slice_get s.queues (queue_of g l)) refl
  row_less (Late l) e ne =
      alone g s i w (after_late g w l s.word) s.word at (late_less g w l s.word e)
  row_less (Aim j) e ne =
      let p : Drains g s.claimed s.queues i j w.rest × (j < g.queues) = phase_of (Aim j) e in
      alone g s i w (in_phase (Pop j s.word) w) s.word at (let h = ap (turns_left g) e in
      let a = p.1 in omega arith)
  row_less (Pop j v) e ne = pop_less j v e (slice_get s.queues (round_queue g i j)) refl
  row_less (Offer next) e ne =
      alone g s i w (in_phase (onward next) w) (min s.word (worst g w.list)) at
      (let h = ap (turns_left g) e in let a = onward_left g next in omega arith)
  row_less Done e ne = absurd (ne refl)

  -- and so does its turn
  pub turn_less : (phase : Phase) → w.phase ≡ phase → phase ≢ Done
      → effort g (turn_by_phase g i s w phase) < effort g s
  turn_less phase e ne =
      subst (λ (t : State). effort g t < effort g s)
      (row_is g s i w fits.some_queue sound.queue_count phase) (row_less phase e ne)

-- a worker is done or not
pub done_or : (phase : Phase) → (phase ≡ Done) ⊎ (phase ≢ Done)
done_or Claim = inr (λ h. cc)
done_or Look = inr (λ h. cc)
done_or (Give l) = inr (λ h. cc)
done_or (Late l) = inr (λ h. cc)
done_or (Aim j) = inr (λ h. cc)
done_or (Pop j v) = inr (λ h. cc)
done_or (Offer next) = inr (λ h. cc)
done_or Done = inl refl
