-- What an own record says, a longer one says too.
use Rattle.std.proofs.Common.{List, None, Option, Some, inr, subst, ℕ, ◌≡◌}
use Rattle.series_core.specs.declared.pair.Pair.{Pair}
use Rattle.search_machine.specs.declared.phase.Onward.{Onward}
use Rattle.search_machine.specs.declared.phase.Onward.TheVariants.{Aim as ToAim, Look as ToLook}
use Rattle.search_machine.specs.declared.phase.Phase.{Phase}
use Rattle.search_machine.specs.Ground.{Ground}
use Rattle.search_machine.specs.Workers.{Worker, round_queue}
use Rattle.list_totals.specs.Standing.{In}
use Rattle.search_machine.specs.OwnRecord.{Below, Far, Floored, Near, OfferMade, OwnRecord, PopMade, PutMade, PutRight, WasClosed, WasPut, WasRefused, WasTaken, with_claim, with_offer, with_pop, with_put, with_read}
use Rattle.search_machine.specs.Sound.{ListUnder}
use Rattle.search_machine.specs.Stands.{OwnDrains, OwnOnward, OwnPhase, Stands}

-- the longer record t has all that r has
pub record Grows (r t : OwnRecord) : Type 0 where
  pub claims : (o : Option ℕ) → In o r.claims → In o t.claims
  pub reads : (v : ℕ) → In v r.reads → In v t.reads
  pub puts : (p : PutMade) → In p r.puts → In p t.puts
  pub pops : (p : PopMade) → In p r.pops → In p t.pops

module _ (g : Ground) (r t : OwnRecord) (more : Grows r t) where
  -- a leaf below a claimed root child
  pub below_still : (l : ℕ) → Below g r l → Below g t l
  below_still l h = (h.0, h.1, more.claims (Some h.0) h.2, h.3, h.4)

  -- a near leaf
  pub near_still : (l : ℕ) → Near g r l → Near g t l
  near_still l h = (h.0, more.reads h.0 h.1, h.2)

  -- a far leaf
  pub far_still : (l : ℕ) → Far g r l → Far g t l
  far_still l h = (h.0, more.reads h.0 h.1, h.2)

  -- a leaf that was put
  pub put_still : (l : ℕ) → WasPut r l → WasPut t l
  put_still l h = (h.0, more.puts h.0 h.1, h.2)

  -- one whose put was refused
  pub refused_still : (l : ℕ) → WasRefused r l → WasRefused t l
  refused_still l h = (h.0, more.puts h.0 h.1, h.2, h.3)

  -- one that was taken
  pub taken_still : (l : ℕ) → WasTaken r l → WasTaken t l
  taken_still l h = (h.0, h.1, more.pops h.0 h.2, h.3, h.4)

  -- a queue that gave a Closed reply
  pub closed_still : (m : ℕ) → WasClosed r m → WasClosed t m
  closed_still m h = (h.0, h.1, more.pops h.0 h.2, h.3, h.4)

  -- a right put
  pub right_still : (p : PutMade) → PutRight g r p → PutRight g t p
  right_still p h =
      record {
        entry = h.entry;
        queue = h.queue;
        other = h.other;
        below =
            below_still p.entry.leaf h.below;
        near = near_still p.entry.leaf h.near;
      }

  -- a worker that drains
  pub own_drains_still : (i j : ℕ) (ls : List ℕ) → OwnDrains g r i j ls → OwnDrains g t i j ls
  own_drains_still i j ls h =
      record {
        ended = more.claims None h.ended;
        rest = h.rest;
        closed =
            λ x low. closed_still (round_queue g i x) (h.closed x low);
      }

  -- one that goes on
  pub own_onward_still : (i : ℕ) (ls : List ℕ) (next : Onward) → OwnOnward g r i ls next
      → OwnOnward g t i ls next
  own_onward_still i ls ToLook h = tt
  own_onward_still i ls (ToAim j) h = own_drains_still i j ls h

  -- the shorter record has fewer reads
  pub floored_still : Floored g t → Floored g r
  floored_still h v i = h v (more.reads v i)

  -- a list
  pub under_still : (scanned : List ℕ) (ps : List Pair) → ListUnder g (Floored g r) scanned ps
      → ListUnder g (Floored g t) scanned ps
  under_still scanned ps h =
      record {
        ascending = h.ascending;
        known = h.known;
        from = h.from;
        full =
            λ f p l a m n. h.full (floored_still f) p l a m n;
      }

-- a read makes it longer
pub grows_read : (v : ℕ) (r : OwnRecord) → Grows r (with_read v r)
grows_read v r =
    record { claims = λ o h. h; reads = λ x h. inr h; puts = λ p h. h; pops = λ p h. h }

-- so does a claim
pub grows_claim : (c : Option ℕ) (r : OwnRecord) → Grows r (with_claim c r)
grows_claim c r =
    record { claims = λ o h. inr h; reads = λ x h. h; puts = λ p h. h; pops = λ p h. h }

-- a put
pub grows_put : (p : PutMade) (r : OwnRecord) → Grows r (with_put p r)
grows_put p r = record { claims = λ o h. h; reads = λ x h. h; puts = λ q h. inr h; pops = λ q h. h }

-- a pop
pub grows_pop : (p : PopMade) (r : OwnRecord) → Grows r (with_pop p r)
grows_pop p r = record { claims = λ o h. h; reads = λ x h. h; puts = λ q h. h; pops = λ q h. inr h }

-- an offer
pub grows_offer : (o : OfferMade) (r : OwnRecord) → Grows r (with_offer o r)
grows_offer o r = record { claims = λ c h. h; reads = λ x h. h; puts = λ q h. h; pops = λ q h. h }

-- what holds of a worker by its phase
pub phase_of : (g : Ground) (i : ℕ) (w : Worker) (r : OwnRecord) (phase : Phase) → Stands g i w r
    → w.phase ≡ phase → OwnPhase g r i w.rest w.list phase
phase_of g i w r phase s e = subst (OwnPhase g r i w.rest w.list) e s.phase
