-- A worker that stands for its record does so whatever the number of workers (`stands_any`).
use Rattle.std.proofs.Common.{List, ap, subst, sym, suc, zero, refl, ℕ, ◌+◌, ◌-◌, ◌∷◌, ◌≡◌, ◌≤◌}
use Rattle.series_core.specs.declared.pair.Pair.{Pair}
use Rattle.list_totals.specs.Standing.{In}
use Rattle.series_core.specs.Order.{Among, distance_at}
use Rattle.series_core.specs.Pairs.{ascending, smallest}
use Rattle.search_machine.specs.declared.phase.Phase.{Phase}
use Rattle.search_machine.specs.declared.phase.Phase.TheVariants.{Aim, Claim, Done, Give, Late, Look, Offer, Pop}
use Rattle.search_machine.specs.declared.phase.Onward.TheVariants.{Look as ToLook, Aim as ToAim}
use Rattle.search_machine.specs.Ground.{Ground, answer, last, pair_of, pairs_from, plain, with_workers}
use Rattle.search_machine.specs.OwnRecord.{Floored, RecordedWorker, OwnRecord}
use Rattle.search_machine.specs.Stands.{OwnDrains, OwnPhase, StandsFor}

module _ (g : Ground) (n : ℕ) where
  -- the pairs are the same
  pairs_any : (s c : ℕ) → pairs_from (with_workers n g) s c ≡ pairs_from g s c
  pairs_any s zero = refl
  pairs_any s (suc c) = ap (λ (ps : List Pair). pair_of g s ∷ ps) (pairs_any (s + 1) c)

  -- so are the plain list
  plain_any : plain (with_workers n g) ≡ plain g
  plain_any = ap ascending (pairs_any 0 g.count)

  -- the answer
  answer_any : answer (with_workers n g) ≡ answer g
  answer_any = ap (smallest g.k) (pairs_any 0 g.count)

  -- and the last distance
  last_any : last (with_workers n g) ≡ last g
  last_any = ap (λ (ps : List Pair). distance_at (g.k - 1) (ascending ps)) (pairs_any 0 g.count)

  -- a worker that drains does so
  drains_any : (r : OwnRecord) (i j : ℕ) (ls : List ℕ) → OwnDrains g r i j ls
      → OwnDrains (with_workers n g) r i j ls
  drains_any r i j ls d = record { ended = d.ended; rest = d.rest; closed = d.closed }

  -- what holds by the phase
  phase_any : (r : OwnRecord) (i : ℕ) (ls : List ℕ) (ps : List Pair) (phase : Phase)
      → OwnPhase g r i ls ps phase → OwnPhase (with_workers n g) r i ls ps phase
  phase_any r i ls ps Claim h = h
  phase_any r i ls ps Look h = h
  phase_any r i ls ps (Give l) h = h
  phase_any r i ls ps (Late l) h = h
  phase_any r i ls ps (Aim j) h = drains_any r i j ls h
  phase_any r i ls ps (Pop j v) h = (drains_any r i j ls h.0, h.1)
  phase_any r i ls ps (Offer ToLook) h = h
  phase_any r i ls ps (Offer (ToAim j)) h = (h.0, drains_any r i j ls h.1)
  phase_any r i ls ps Done h = drains_any r i g.queues ls h

  -- the limits of a record have the same floor
  floored_any : (r : OwnRecord) → Floored (with_workers n g) r → Floored g r
  floored_any r f v h = subst (λ (d : ℕ). d ≤ v) last_any (f v h)

  -- a worker stands for its record
  pub stands_any : (i : ℕ) (x : RecordedWorker) → StandsFor g i x → StandsFor (with_workers n g) i x
  stands_any i x s = record {
    covers = s.covers;
    puts = λ p h. let right = s.puts p h in record {
      entry = right.entry;
      queue = right.queue;
      other = right.other;
      below = right.below;
      near = right.near;
    };
    pops = s.pops;
    claims = s.claims;
    scanned = s.scanned;
    taken = s.taken;
    opening = s.opening;
    single = s.single;
    refused = s.refused;
    list = record {
      ascending = s.list.ascending;
      known = subst (Among x.worker.list) (sym plain_any) s.list.known;
      from = s.list.from;
      full = λ f p l h a b. s.list.full (floored_any x.own f) p l
          (subst (In p) answer_any h) a b;
    };
    once = s.once;
    held = s.held;
    phase = phase_any x.own i x.worker.rest x.worker.list x.worker.phase s.phase;
  }
