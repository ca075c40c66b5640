-- A sound state in which all workers are done has a legal outcome.
use Rattle.std.proofs.Common.{List, None, Option, Some, ap, arith, refl, subst, sym, true, zero-add, ℕ, ⊎_elim, ◌%◌, ◌+◌, ◌<◌, ◌∙◌, ◌≡◌, ◌≢◌, ◌≤◌}
use Rattle.std.proofs.Math.ListN.{drop_of_length-le}
use Rattle.std.proofs.Math.Nat.{mod-eq_of_lt}
use Rattle.std.proofs.lemmas.Bool.{cases_lt, cond_both}
use Rattle.std.proofs.lemmas.List.{length-map}
use Rattle.std.proofs.lemmas.Option.{slice_get-map, slice_get_within}
use Rattle.std.specs.Option.{option_map}
use Rattle.std.specs.Prelude.{is_some, slice_get}
use Rattle.list_totals.proofs.Totals.{total_map}
use Rattle.list_totals.specs.Totals.{one_if_same, times, total}
use Rattle.series_core.proofs.Parts.{has_take}
use Rattle.series_core.specs.Order.{Among}
use Rattle.series_core.specs.Pairs.{smallest}
use Rattle.series_core.specs.declared.pair.Pair.{Pair}
use Rattle.series_core.specs.declared.queue_words.Entry.{Entry}
use Rattle.leaf_queues.specs.PlainQueue.{PlainQueue}
use Rattle.search_machine.specs.declared.outcome.Fate.TheVariants.{Start as StartFate}
use Rattle.search_machine.specs.declared.outcome.QueueLine.{QueueLine}
use Rattle.search_machine.specs.Ground.{Fits, Ground, answer, last, plain, start_limit}
use Rattle.search_machine.specs.Legal.{FateRight, Legal}
use Rattle.search_machine.specs.Machine.{State}
use Rattle.search_machine.specs.Workers.{round_queue, without}
use Rattle.list_totals.specs.Standing.{In}
use Rattle.search_machine.specs.Outcome.{AllDone, all_pairs, fate, first_place, is_start, kept_of, late_fate, line_of, outcome, taken_fate}
use Rattle.search_machine.specs.Sound.{Drains, PhaseSound, Sound, held, in_hand, scans, takes, unclaimed, waits}
use Rattle.search_machine.specs.Basics.{Between, EntryRight, entered}
use Rattle.search_machine.proofs.AllLists.{all_has, all_pool}
use Rattle.search_machine.proofs.Counts.{counts_or_not}
use Rattle.list_totals.proofs.Standing.{total_in}
use Rattle.search_machine.proofs.Outcomes.{FirstPlace, found_none, found_some, get_fates, length_fates, line_at, start_false, start_true}
use Rattle.search_machine.proofs.Places.{get_some, total_none, total_some}
use Rattle.search_machine.proofs.PlainList.{answer_near, plain_has}
use Rattle.search_machine.proofs.Pools.{best_all}

-- an entry of a leaf that stands in the list
pub entered_some : (l : ℕ) (es : List Entry) → 0 < entered l es
    → (e : Entry) × In e es × (l ≡ e.leaf)
entered_some l es h =
    let r = total_in (λ (e : Entry). one_if_same l e.leaf) es h in (
      r.0,
      r.1,
      ⊎_elim
          (λ (c : (one_if_same l r.0.leaf ≡ 1) × (l ≡ r.0.leaf)). c.1)
          (λ (c : one_if_same l r.0.leaf ≡ 0). let some_part = r.2 in absurd (omega arith))
          (counts_or_not l r.0.leaf),
    )

-- a leaf of a queue's entries has a bound not above the starting limit
pub entered_near : (g : Ground) (m l : ℕ) (es : List Entry)
    → ((e : Entry) → In e es → EntryRight g m e) → 0 < entered l es → g.bound l ≤ start_limit g
entered_near g m l es right h =
    let r = entered_some l es h in
    let ok = right r.0 r.1 in
    let bound = ok.bound in
    let near = ok.near in
    subst (λ (n : ℕ). g.bound n ≤ start_limit g) (sym r.2) (omega arith)

-- where each waits with a bound above the last distance, its leaf's bound is above it
entered_far : (g : Ground) (m l : ℕ) (es : List Entry) → ((e : Entry) → In e es → EntryRight g m e)
    → ((e : Entry) → In e es → last g < e.bound) → 0 < entered l es → last g < g.bound l
entered_far g m l es right far h =
    let r = entered_some l es h in
    let bound = (right r.0 r.1).bound in
    let above = far r.0 r.1 in
    subst (λ (n : ℕ). last g < g.bound n) (sym r.2) (omega arith)

module _ (g : Ground) (fits : Fits g) (s : State) (sound : Sound g s) (done : AllDone s) where
  -- worker 0 is done
  leader_done : Drains g s.claimed s.queues 0 g.queues
      ((get_some s.workers 0
      (subst (λ (n : ℕ). 0 < n) (sym sound.worker_count) fits.some_worker)).0).rest
  leader_done =
      let r = get_some s.workers 0
      (subst (λ (n : ℕ). 0 < n) (sym sound.worker_count) fits.some_worker) in
      subst (PhaseSound g s.claimed s.queues 0 r.0.rest r.0.list) (done 0 r.0 r.1)
      (sound.workers 0 r.0 r.1).phase

  -- no leaf is in a rest or hand
  none_held : (l : ℕ) → total (held l) s.workers ≡ 0
  none_held l = total_none (held l) s.workers (λ i w at.
      let phase = done i w at in
      let drains : Drains g s.claimed s.queues i g.queues w.rest = subst
      (PhaseSound g s.claimed s.queues i w.rest w.list) phase (sound.workers i w at).phase in
      let a = ap (in_hand l) phase in
      let b = ap (times l) drains.rest in
      omega arith)

  -- no root child is unclaimed
  none_unclaimed : (l : ℕ) → unclaimed g s.claimed l ≡ 0
  none_unclaimed l =
      ap (λ (rs : List (List ℕ)). total (λ (r : List ℕ). times l (without g.start r)) rs)
      (drop_of_length-le g.roots leader_done.claimed)

  -- each queue is shut
  shut : (m : ℕ) (q : PlainQueue) → slice_get s.queues m ≡ Some q → (v : ℕ) × (q.kept ≡ Some v)
  shut m q at = some q.kept refl (leader_done.shut m low q (ap (slice_get s.queues) place ∙ at))
    where
      low : m < g.queues
      low = let a = slice_get_within s.queues m q at in let b = sound.queue_count in omega arith

      place : round_queue g 0 m ≡ m
      place = ap (λ (n : ℕ). n % g.queues) (zero-add m) ∙ mod-eq_of_lt low

      some : (o : Option ℕ) → q.kept ≡ o → is_some o ≡ true → (v : ℕ) × (q.kept ≡ Some v)
      some None e h = absurd (cc)
      some (Some v) e h = (v, e)

  -- a leaf that no worker scanned has a bound above the last distance
  away : (l : ℕ) → l < g.leaves → total (scans l) s.workers ≡ 0 → last g < g.bound l
  away l low none = ⊎_elim
      (λ (h : 0 < total (waits l) s.queues).
      let r = total_some (waits l) s.queues h in
      let k = shut r.0 r.1 r.2 in
      entered_far g r.0 l r.1.waiting (sound.queues r.0 r.1 r.2).waiting
      ((sound.queues r.0 r.1 r.2).above k.0 k.1) r.3)
      (λ (h : total (waits l) s.queues ≤ 0). let a = none_held l in
      let b = none_unclaimed l in sound.cut l low (omega arith))
      (cases_lt 0 (total (waits l) s.queues))

  -- each pair of the answer is in some list
  has_answer : Among (answer g) (all_pairs s.workers)
  has_answer p a =
      let known = plain_has g p (has_take g.k p (plain g) a) in
      let home = fits.has_home p.number known.0 in
      ⊎_elim
      (λ (h : 0 < total (scans home.0) s.workers).
      let r = total_some (scans home.0) s.workers h in
      all_has s.workers r.0 r.1 p r.2
      ((sound.workers r.0 r.1 r.2).list.full tt p home.0 a r.3 home.2))
      (λ (h : total (scans home.0) s.workers ≤ 0).
      let far = away home.0 home.1 (omega arith) in
      let near = answer_near g fits p a in
      let low = fits.bound_low home.0 p.number home.1 home.2 in
      let d : p.distance ≡ g.distance p.number = ap (λ (q : Pair). q.distance) known.1 in
      absurd (omega arith))
      (cases_lt 0 (total (scans home.0) s.workers))

  -- the k smallest pairs of all lists are the answer
  pairs_right : smallest g.k (all_pairs s.workers) ≡ answer g
  pairs_right =
      best_all g (all_pairs s.workers)
      (all_pool g fits s.workers
      (record {
        lists = λ i w at. (sound.workers i w at).list;
        once = λ l. let a = sound.once l in
            omega arith;
      })) has_answer

  -- the fate of a leaf is right
  fate_right : (l : ℕ) → l < g.leaves → FateRight g (outcome g s) l (fate g s l)
  fate_right l low =
      cond_both (is_start g.start l) StartFate (taken_fate g s l (first_place (takes l) s.queues))
      (FateRight g (outcome g s) l)
      (λ e. start_true g.start l e)
      (λ e. scanned (start_false g.start l e) (first_place (takes l) s.queues) refl)
    where
      late : g.start ≢ Some l → total (takes l) s.queues ≡ 0 → (o : Option ℕ)
          → first_place (scans l) s.workers ≡ o → FateRight g (outcome g s) l (late_fate g l o)
      late other untaken None e = (
        (
          other,
          total_map (λ (line : QueueLine). entered l line.taken) line_of s.queues
              ∙ untaken,
        ),
        refl,
        away l low (found_none (scans l) s.workers e),
      )
      late other untaken (Some i) e =
          let r : FirstPlace (scans l) s.workers i = found_some (scans l) s.workers i e in
          let a = slice_get_within s.workers i r.item r.at in
          let b = sound.worker_count in (
            (
              other,
              total_map (λ (line : QueueLine). entered l line.taken) line_of s.queues
                  ∙ untaken,
            ),
            omega arith,
            ⊎_elim (λ (h : g.start ≡ Some l). absurd (other h))
                (λ (h : g.bound l ≤ start_limit g). h)
                ((sound.workers i r.item r.at).near l r.some),
          )

      scanned : g.start ≢ Some l → (o : Option ℕ) → first_place (takes l) s.queues ≡ o
          → FateRight g (outcome g s) l (taken_fate g s l o)
      scanned other None e =
          late other (found_none (takes l) s.queues e) (first_place (scans l) s.workers) refl
      scanned other (Some m) e =
          let r : FirstPlace (takes l) s.queues m = found_some (takes l) s.queues m e in (
            record {
              line = line_of r.item;
              at = slice_get-map line_of s.queues m
                  ∙ ap (option_map line_of) r.at;
              there = r.some;
            },
            entered_near g m l r.item.taken
                (sound.queues m r.item r.at).taken r.some,
          )

  -- the outcome is legal
  pub ending_legal : Legal g (outcome g s)
  ending_legal = record {
    pairs = pairs_right;
    start = refl;
    line_count = length-map s.queues line_of ∙ sound.queue_count;
    entries = λ m line e. let r = line_at s.queues m line e in
        subst (λ (x : QueueLine). (d : Entry) → In d x.taken
        → EntryRight g m d) r.2 (sound.queues m r.0 r.1).taken;
    once = λ l. let a = total_map (λ (line : QueueLine). entered l line.taken) line_of s.queues in
        let b = sound.taken l in let c = sound.once l in omega arith;
    kept = λ m line e.
        let r = line_at s.queues m line e in
        let k = shut m r.0 r.1 in
        subst (λ (x : QueueLine). Between g x.kept) r.2
        (subst (λ (o : Option ℕ). Between g (kept_of o)) (sym k.1)
        ((sound.queues m r.0 r.1).kept k.0 k.1));
    fate_count = length_fates g s 0 g.leaves;
    fates = λ l f e.
        let r = get_fates g s 0 g.leaves l f e in
        let same : l + 0 ≡ l = omega arith in
        subst (FateRight g (outcome g s) l) (ap (fate g s) (sym same) ∙ r.1) (fate_right l r.0);
  }
