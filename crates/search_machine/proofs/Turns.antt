-- A turn of one worker keeps the state sound where it keeps a few facts: on that worker, on its
-- queue, and on how often each leaf is in the places that the turn may change.
use Rattle.std.proofs.Common.{List, Some, ap, arith, length, refl, set, subst, sym, true, ℕ, ⊎_elim, ◌+◌, ◌<◌, ◌∙◌, ◌≡◌, ◌≤◌}
use Rattle.std.proofs.lemmas.Bool.{cases_lt}
use Rattle.std.proofs.lemmas.List.{length-set}
use Rattle.std.specs.Prelude.{is_some, slice_get}
use Rattle.list_totals.specs.Totals.{total}
use Rattle.series_core.specs.declared.pair.Pair.{Pair}
use Rattle.leaf_queues.specs.PlainQueue.{PlainQueue}
use Rattle.search_machine.specs.declared.phase.Onward.{Onward}
use Rattle.search_machine.specs.declared.phase.Onward.TheVariants.{Aim as ToAim, Look as ToLook}
use Rattle.search_machine.specs.declared.phase.Phase.{Phase}
use Rattle.search_machine.specs.declared.phase.Phase.TheVariants.{Aim, Claim, Done, Give, Late, Look, Offer, Pop}
use Rattle.search_machine.specs.Ground.{Fits, Ground, last}
use Rattle.search_machine.specs.Machine.{State}
use Rattle.search_machine.proofs.Rows.{with_queue}
use Rattle.search_machine.specs.Workers.{Worker, round_queue}
use Rattle.search_machine.specs.Sound.{Drains, IsShut, OnwardSound, PhaseSound, QueueSound, Sound, WorkerSound, held, places, scans, takes, unclaimed, waits}
use Rattle.search_machine.specs.Basics.{Between}
use Rattle.search_machine.proofs.Places.{get_set, get_some, total_at, total_set}

-- what is shut stays shut
abbrev pub StayShut : List PlainQueue → List PlainQueue → Type 0
StayShut qs rs = (m : ℕ) → IsShut qs m → IsShut rs m

-- a worker drains still where more root children are claimed and more queues are shut
pub drains_still : (g : Ground) (c d : ℕ) (qs rs : List PlainQueue) (i j : ℕ) (ls : List ℕ) → c ≤ d
    → StayShut qs rs → Drains g c qs i j ls → Drains g d rs i j ls
drains_still g c d qs rs i j ls more shut h = record {
  claimed = let e = h.claimed in omega arith;
  rest = h.rest;
  shut = λ x low. shut (round_queue g i x) (h.shut x low);
}

-- so it is where it goes on to Aim
onward_still : (g : Ground) (c d : ℕ) (qs rs : List PlainQueue) (i : ℕ) (ls : List ℕ)
    (next : Onward) → c ≤ d → StayShut qs rs → OnwardSound g c qs i ls next
    → OnwardSound g d rs i ls next
onward_still g c d qs rs i ls ToLook more shut h = tt
onward_still g c d qs rs i ls (ToAim j) more shut h =
    (drains_still g c d qs rs i j ls more shut h.0, h.1)

-- what holds by the phase holds still
phase_still : (g : Ground) (c d : ℕ) (qs rs : List PlainQueue) (i : ℕ) (ls : List ℕ)
    (ps : List Pair) (phase : Phase) → c ≤ d → StayShut qs rs → PhaseSound g c qs i ls ps phase
    → PhaseSound g d rs i ls ps phase
phase_still g c d qs rs i ls ps Claim more shut h = h
phase_still g c d qs rs i ls ps Look more shut h = h
phase_still g c d qs rs i ls ps (Give l) more shut h = h
phase_still g c d qs rs i ls ps (Late l) more shut h = h
phase_still g c d qs rs i ls ps (Aim j) more shut h =
    (drains_still g c d qs rs i j ls more shut h.0, h.1)
phase_still g c d qs rs i ls ps (Pop j v) more shut h =
    (drains_still g c d qs rs i j ls more shut h.0, h.1, h.2)
phase_still g c d qs rs i ls ps (Offer next) more shut h =
    (h.0, onward_still g c d qs rs i ls next more shut h.1)
phase_still g c d qs rs i ls ps Done more shut h =
    drains_still g c d qs rs i g.queues ls more shut h

-- a worker that takes no turn stays sound
pub worker_still : (g : Ground) (c d : ℕ) (qs rs : List PlainQueue) (i : ℕ) (w : Worker) → c ≤ d
    → StayShut qs rs → WorkerSound g c qs i w → WorkerSound g d rs i w
worker_still g c d qs rs i w more shut h = record {
  list = h.list;
  near = h.near;
  start = h.start;
  phase = phase_still g c d qs rs i w.rest w.list w.phase more shut h.phase;
}

-- worker i with another phase and rest, which has still all that it scanned
pub worker_moves : (g : Ground) (c d : ℕ) (qs rs : List PlainQueue) (i : ℕ) (w : Worker)
    (phase : Phase) (ls : List ℕ) → WorkerSound g c qs i w → PhaseSound g d rs i ls w.list phase
    → WorkerSound g d rs i (record w { phase = phase; rest = ls })
worker_moves g c d qs rs i w phase ls h sound =
    record { list = h.list; near = h.near; start = h.start; phase = sound }

-- in how many places a leaf is, of those that a turn of w may change
abbrev pub around : Ground → ℕ → List PlainQueue → Worker → ℕ → ℕ
around g c qs w l = unclaimed g c l + total (waits l) qs + held l w + scans l w

-- the state where worker i is x, with this word, these claims and these queues
abbrev pub changed : State → ℕ → Worker → ℕ → ℕ → List PlainQueue → State
changed s i x word c qs =
    record { word = word; claimed = c; queues = qs; workers = set s.workers i x }

-- what a turn of worker i owes, where w becomes x
pub record Turned (g : Ground) (s : State) (i : ℕ) (w x : Worker) (word c : ℕ)
    (qs : List PlainQueue) : Type 0 where
  -- the word may be read, no claim is undone, and what is shut stays shut
  pub limit : Between g word
  pub claims : s.claimed ≤ c
  pub shut : StayShut s.queues qs
  -- no leaf is in more places, and one that is in fewer has a bound above the last distance
  pub fewer : (l : ℕ) → around g c qs x l ≤ around g s.claimed s.queues w l
  pub cut : (l : ℕ) → around g c qs x l < around g s.claimed s.queues w l → last g < g.bound l
  -- no scan is lost, and each leaf that was taken just now is scanned
  pub kept_scans : (l : ℕ) → scans l w ≤ scans l x
  pub taken : (l : ℕ) → total (takes l) qs + scans l w ≤ total (takes l) s.queues + scans l x
  pub worker : WorkerSound g c qs i x
  pub queues : (m : ℕ) (q : PlainQueue) → slice_get qs m ≡ Some q → QueueSound g m q
  pub queue_count : length qs ≡ g.queues

-- a turn that pays what it owes keeps the state sound
pub turned : (g : Ground) (s : State) (i : ℕ) (w x : Worker) (word c : ℕ) (qs : List PlainQueue)
    → Sound g s → slice_get s.workers i ≡ Some w → Turned g s i w x word c qs
    → Sound g (changed s i x word c qs)
turned g s i w x word c qs sound here t = record {
  word = t.limit;
  once = λ l. let a = sound.once l in let b = counts l in omega arith;
  real = λ l some. let b = counts l in sound.real l (omega arith);
  cut = λ l low none. ⊎_elim
      (λ (lost : around g c qs x l < around g s.claimed s.queues w l). t.cut l lost)
      (λ (same : around g s.claimed s.queues w l ≤ around g c qs x l). let b = places_after l in
      sound.cut l low (omega arith))
      (cases_lt (around g c qs x l) (around g s.claimed s.queues w l));
  taken = λ l. let a = sound.taken l in let b = t.taken l in
      let d = total_set (scans l) s.workers i w x here in omega arith;
  workers = λ j y e. ⊎_elim
      (λ (h : (j ≡ i) × (x ≡ y)). subst
      (λ (z : Worker). WorkerSound g c qs j z) h.1
      (subst (λ (n : ℕ). WorkerSound g c qs n x) (sym h.0) t.worker))
      (λ (h : slice_get s.workers j ≡ Some y). worker_still g s.claimed c s.queues qs j y t.claims
      t.shut (sound.workers j y h))
      (get_set s.workers i j y x e);
  queues = t.queues;
  queue_count = t.queue_count;
  worker_count = length-set s.workers i x ∙ sound.worker_count;
}
  where
    places_after : (l : ℕ)
        → places g (changed s i x word c qs) l + around g s.claimed s.queues w l ≡ places g s l
        + around g c qs x l
    places_after l =
        let d = total_set (scans l) s.workers i w x here in
        let e = total_set (held l) s.workers i w x here in
        omega arith

    counts : (l : ℕ) → places g (changed s i x word c qs) l ≤ places g s l
    counts l = let a = places_after l in let b = t.fewer l in omega arith

-- a turn that changes nothing that is shared, but perhaps the word
pub record Alone (g : Ground) (s : State) (i : ℕ) (w x : Worker) : Type 0 where
  pub fewer : (l : ℕ) → held l x + scans l x ≤ held l w + scans l w
  pub cut : (l : ℕ) → held l x + scans l x < held l w + scans l w → last g < g.bound l
  pub kept_scans : (l : ℕ) → scans l w ≤ scans l x
  pub worker : WorkerSound g s.claimed s.queues i x

-- such a turn keeps the state sound
pub turned_alone : (g : Ground) (s : State) (i : ℕ) (w x : Worker) (word : ℕ) → Sound g s
    → slice_get s.workers i ≡ Some w → Between g word → Alone g s i w x
    → Sound g (changed s i x word s.claimed s.queues)
turned_alone g s i w x word sound here limit t =
    turned g s i w x word s.claimed s.queues sound here (record {
      limit = limit;
      claims = omega arith;
      shut = λ m h. h;
      fewer = λ l. let a = t.fewer l in omega arith;
      cut = λ l lost. t.cut l (omega arith);
      kept_scans = t.kept_scans;
      taken = λ l. let a = t.kept_scans l in omega arith;
      worker = t.worker;
      queues = sound.queues;
      queue_count = sound.queue_count;
    })

-- a turn that also changes queue m, where q becomes r
pub record Together (g : Ground) (s : State) (i m : ℕ) (w x : Worker) (q r : PlainQueue) : Type 0
  where
    pub shut : is_some q.kept ≡ true → is_some r.kept ≡ true
    pub fewer : (l : ℕ) → waits l r + held l x + scans l x ≤ waits l q + held l w + scans l w
    pub cut : (l : ℕ) → waits l r + held l x + scans l x < waits l q + held l w + scans l w
        → last g < g.bound l
    pub kept_scans : (l : ℕ) → scans l w ≤ scans l x
    pub taken : (l : ℕ) → takes l r + scans l w ≤ takes l q + scans l x
    pub worker : WorkerSound g s.claimed (set s.queues m r) i x
    pub queue : QueueSound g m r

-- a queue that stays shut keeps all shut queues shut
pub stay_shut : (qs : List PlainQueue) (m : ℕ) (q r : PlainQueue) → slice_get qs m ≡ Some q
    → (is_some q.kept ≡ true → is_some r.kept ≡ true) → StayShut qs (set qs m r)
stay_shut qs m q r at keeps n shut p e = ⊎_elim
    (λ (h : (n ≡ m) × (r ≡ p)). subst
    (λ (y : PlainQueue). is_some y.kept ≡ true) h.1
    (keeps (shut q (ap (slice_get qs) h.0 ∙ at))))
    (λ (h : slice_get qs n ≡ Some p). shut p h)
    (get_set qs m n p r e)

-- such a turn keeps the state sound
pub turned_together : (g : Ground) (s : State) (i m : ℕ) (w x : Worker) (q r : PlainQueue)
    → Sound g s → slice_get s.workers i ≡ Some w → slice_get s.queues m ≡ Some q
    → Together g s i m w x q r → Sound g (with_queue m r i x s)
turned_together g s i m w x q r sound here at t =
    turned g s i w x s.word s.claimed (set s.queues m r) sound here (record {
      limit = sound.word;
      claims = omega arith;
      shut = stay_shut s.queues m q r at t.shut;
      fewer = λ l.
          let a = t.fewer l in
          let b = total_set (waits l) s.queues m q r at in
          omega arith;
      cut = λ l lost. let b = total_set (waits l) s.queues m q r at in t.cut l (omega arith);
      kept_scans = t.kept_scans;
      taken = λ l.
          let a = t.taken l in
          let b = total_set (takes l) s.queues m q r at in
          omega arith;
      worker = t.worker;
      queues = λ n p e. ⊎_elim
          (λ (h : (n ≡ m) × (r ≡ p)). subst
          (λ (y : PlainQueue). QueueSound g n y) h.1
          (subst (λ (k : ℕ). QueueSound g k r) (sym h.0) t.queue))
          (λ (h : slice_get s.queues n ≡ Some p). sound.queues n p h)
          (get_set s.queues m n p r e);
      queue_count = length-set s.queues m r ∙ sound.queue_count;
    })

-- worker 0 has scanned the start leaf
pub start_scanned : (g : Ground) (s : State) (l : ℕ) → Fits g → Sound g s → g.start ≡ Some l
    → 0 < total (scans l) s.workers
start_scanned g s l fits sound e =
    let r = get_some s.workers 0
    (subst (λ (n : ℕ). 0 < n) (sym sound.worker_count) fits.some_worker) in
    let a = (sound.workers 0 r.0 r.1).start l refl e in
    let b = total_at (scans l) s.workers 0 r.0 r.1 in
    omega arith
