-- The opening state is sound.
use Rattle.std.proofs.Common.{List, None, Option, Some, [], ap, arith, eqb, inl, inr, length, refl, subst, suc, sym, zero, ℕ, ⊎_elim, ◌+◌, ◌-◌, ◌<◌, ◌∙◌, ◌∷◌, ◌≡◌, ◌≤◌, ◌⊎◌}
use Rattle.std.proofs.lemmas.Bool.{cases_eq, cond-false, cond-true, eq-eqb, ne_eqb}
use Rattle.std.proofs.lemmas.Option.{none-some, same_Some}
use Rattle.std.specs.List.{filter}
use Rattle.std.specs.Prelude.{not, replicate, slice_get}
use Rattle.list_totals.specs.Totals.{one_if_same, times, total}
use Rattle.leaf_queues.specs.PlainQueue.{PlainQueue, empty_queue}
use Rattle.search_machine.specs.Ground.{Fits, Ground}
use Rattle.search_machine.specs.Machine.{capacity_of, empty_queues, opened}
use Rattle.search_machine.specs.Workers.{Worker, idle, leader, start_list, without}
use Rattle.search_machine.specs.Sound.{QueueSound, Sound, WorkerSound, held, places, scans, takes, waits}
use Rattle.search_machine.proofs.Counts.{others_count, same_counts, times_cons}
use Rattle.search_machine.proofs.Places.{get_replicate, total_replicate_none}
use Rattle.search_machine.proofs.Scans.{last_start, list_none, list_opening}

-- the leaves other than m
abbrev pub remove : ℕ → List ℕ → List ℕ
remove m ls = filter (λ l. not (eqb l m)) ls

-- the removed leaf stands there no more
pub remove_same : (m : ℕ) (ls : List ℕ) → times m (remove m ls) ≡ 0
remove_same m [] = refl
remove_same m (l ∷ ls) = ⊎_elim
    (λ (e : l ≡ m).
    let gone = cond-false (not (eqb l m)) (l ∷ remove m ls) (remove m ls) (ap not (eq-eqb l m e)) in
    ap (times m) gone ∙ remove_same m ls)
    (λ (ne : l ≡ m → ⊥).
    let stays = cond-true (not (eqb l m)) (l ∷ remove m ls) (remove m ls) (ap not (ne_eqb l m ne))
    in
    let rest = remove_same m ls in
    let other = others_count m l (λ f. ne (sym f)) in
    ap (times m) stays ∙ (omega arith))
    (cases_eq l m)

-- another leaf stands there as often
pub remove_other : (m l : ℕ) (ls : List ℕ) → (l ≡ m → ⊥) → times l (remove m ls) ≡ times l ls
remove_other m l [] ne = refl
remove_other m l (k ∷ ks) ne = ⊎_elim
    (λ (e : k ≡ m).
    let gone = cond-false (not (eqb k m)) (k ∷ remove m ks) (remove m ks) (ap not (eq-eqb k m e)) in
    let rest = remove_other m l ks ne in
    let other = others_count l k (λ f. ne (f ∙ e)) in
    ap (times l) gone ∙ (omega arith))
    (λ (differ : k ≡ m → ⊥).
    let stays = cond-true (not (eqb k m)) (k ∷ remove m ks) (remove m ks)
    (ap not (ne_eqb k m differ)) in
    ap (times l) stays ∙ ap (λ (n : ℕ). one_if_same l k + n) (remove_other m l ks ne))
    (cases_eq k m)

-- below no root child is the leaf that was removed
roots_same : (m : ℕ) (rs : List (List ℕ)) → total (λ (r : List ℕ). times m (remove m r)) rs ≡ 0
roots_same m [] = refl
roots_same m (r ∷ rs) = let a = remove_same m r in let b = roots_same m rs in omega arith

-- another leaf is below them as often
roots_other : (m l : ℕ) (rs : List (List ℕ)) → (l ≡ m → ⊥)
    → total (λ (r : List ℕ). times l (remove m r)) rs ≡ total (times l) rs
roots_other m l [] ne = refl
roots_other m l (r ∷ rs) ne = let a = remove_other m l r ne in
    let b = roots_other m l rs ne in omega arith

-- a list of n idle workers has length n
length_idle : (n : ℕ) → length (replicate n idle) ≡ n
length_idle zero = refl
length_idle (suc n) = let a = length_idle n in omega arith

-- in new queues nothing waits
waits_new : (g : Ground) (l m n : ℕ) → total (waits l) (empty_queues g m n) ≡ 0
waits_new g l m zero = refl
waits_new g l m (suc n) = let a = waits_new g l (suc m) n in omega arith

-- nothing was taken from them
pub takes_new : (g : Ground) (l m n : ℕ) → total (takes l) (empty_queues g m n) ≡ 0
takes_new g l m zero = refl
takes_new g l m (suc n) = let a = takes_new g l (suc m) n in omega arith

-- n new queues are n
length_new : (g : Ground) (m n : ℕ) → length (empty_queues g m n) ≡ n
length_new g m zero = refl
length_new g m (suc n) = let a = length_new g (suc m) n in omega arith

-- an empty queue is sound
queue_new : (g : Ground) (m : ℕ) → QueueSound g m (empty_queue (capacity_of g m g.leaves))
queue_new g m = record {
  ordered = tt;
  waiting = λ e t. absurd t;
  taken = λ e t. absurd t;
  placed = refl;
  capacity = refl;
  kept = λ v e. absurd (none-some v e);
  above = λ v e. absurd (none-some v e);
}

-- each is sound
get_new : (g : Ground) (m n i : ℕ) (q : PlainQueue) → slice_get (empty_queues g m n) i ≡ Some q
    → QueueSound g (i + m) q
get_new g m zero i q e = absurd (none-some q e)
get_new g m (suc n) zero q e =
    let same : m ≡ 0 + m = omega arith in
    subst (λ (k : ℕ). QueueSound g k q) same
    (subst (QueueSound g m) (same_Some (empty_queue (capacity_of g m g.leaves)) q e)
    (queue_new g m))
get_new g m (suc n) (suc i) q e =
    let same : i + suc m ≡ suc i + m = omega arith in
    subst (λ (k : ℕ). QueueSound g k q) same (get_new g (suc m) n i q e)

-- each leaf is below a root child or is the start that was scanned
opening_place : (g : Ground) → Fits g → (o : Option ℕ) → g.start ≡ o → (l : ℕ)
    → ((total (λ (r : List ℕ). times l (without o r)) g.roots + times l (start_list o)
    ≡ total (times l) g.roots) ⊎ (g.start ≡ Some l))
    × (total (λ (r : List ℕ). times l (without o r)) g.roots + times l (start_list o) ≤ 1)
opening_place g fits None e l = let a = fits.below_once l in (inl (omega arith), omega arith)
opening_place g fits (Some m) e l = ⊎_elim
    (λ (same : l ≡ m).
    let a : total (λ (r : List ℕ). times l (remove m r)) g.roots ≡ 0 = ap
    (λ (n : ℕ). total (λ (r : List ℕ). times n (remove m r)) g.roots) same
    ∙ roots_same m g.roots in
    let b : one_if_same l m ≡ 1 = ap (λ (n : ℕ). one_if_same n m) same ∙ same_counts m in
    (inr (e ∙ ap (λ (n : ℕ). Some n) (sym same)), omega arith))
    (λ (other : l ≡ m → ⊥).
    let a = roots_other m l g.roots other in
    let b = others_count l m other in
    let c = fits.below_once l in
    (inl (omega arith), omega arith))
    (cases_eq l m)

-- what stands in the list of the start leaf is the start leaf
pub start_only : (o : Option ℕ) (l : ℕ) → 0 < times l (start_list o) → o ≡ Some l
start_only None l h = absurd (omega arith)
start_only (Some m) l h =
    ⊎_elim (λ (e : l ≡ m). ap (λ (n : ℕ). Some n) (sym e))
    (λ (t : 0 < times l []). absurd (omega arith)) (times_cons l m [] h)

-- each worker is sound as it opens
opening_worker : (g : Ground) → Fits g → (n i : ℕ) (w : Worker)
    → slice_get (leader g ∷ replicate n idle) i ≡ Some w
    → WorkerSound g 0 (empty_queues g 0 g.queues) i w
opening_worker g fits n zero w e =
    subst (WorkerSound g 0 (empty_queues g 0 g.queues) 0) (same_Some (leader g) w e) (record {
      list = list_opening g fits (Unit {0});
      near = λ l there. inl (start_only g.start l there);
      start = λ l z start. subst
          (λ (o : Option ℕ). 0 < times l (start_list o)) (sym start) (let a = same_counts l in
          omega arith);
      phase = refl;
    })
opening_worker g fits n (suc i) w e =
    subst (WorkerSound g 0 (empty_queues g 0 g.queues) (suc i)) (get_replicate n idle i w e)
    (record {
      list = list_none g (Unit {0});
      near = λ l there. absurd (omega arith);
      start = λ l z start. absurd (omega arith);
      phase = refl;
    })

-- the opening state is sound
pub opening_sound : (g : Ground) → Fits g → Sound g (opened g)
opening_sound g fits = record {
  word = (last_start g fits, omega arith);
  once = λ l. let a = all l in let b = (opening_place g fits g.start refl l).1 in omega arith;
  real = λ l some. let a = all l in ⊎_elim
      (λ (h : total
      (λ (r : List ℕ). times l (without g.start r)) g.roots + times l (start_list g.start)
      ≡ total (times l) g.roots). fits.below_real l (omega arith))
      (λ (h : g.start ≡ Some l). fits.start_real l h)
      (opening_place g fits g.start refl l).0;
  cut = λ l low none. let a = all l in ⊎_elim
      (λ (h : total
      (λ (r : List ℕ). times l (without g.start r)) g.roots + times l (start_list g.start)
      ≡ total (times l) g.roots). let b = fits.below_root l low in absurd (omega arith))
      (λ (h : g.start ≡ Some l). let b = scanned l h in absurd (omega arith))
      (opening_place g fits g.start refl l).0;
  taken = λ l. let a = takes_new g l 0 g.queues in omega arith;
  workers = λ i w e. opening_worker g fits (g.workers - 1) i w e;
  queues = λ m q e. let same : m + 0 ≡ m = omega arith in
      subst (λ (k : ℕ). QueueSound g k q) same (get_new g 0 g.queues m q e);
  queue_count = length_new g 0 g.queues;
  worker_count = let a = length_idle (g.workers - 1) in let b = fits.some_worker in omega arith;
}
  where
    all : (l : ℕ)
        → places g (opened g) l ≡ total
        (λ (r : List ℕ). times l (without g.start r)) g.roots + times l (start_list g.start)
    all l =
        let a = total_replicate_none (held l) (g.workers - 1) idle refl in
        let b = total_replicate_none (scans l) (g.workers - 1) idle refl in
        let c = waits_new g l 0 g.queues in
        omega arith

    scanned : (l : ℕ) → g.start ≡ Some l → 0 < times l (start_list g.start)
    scanned l e =
        subst (λ (o : Option ℕ). 0 < times l (start_list o)) (sym e) (let a = same_counts l in
        omega arith)
