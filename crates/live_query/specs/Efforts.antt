-- What is left to do for a worker, counted in turns: in the fill part by what is kept or may be undrawn, in the drain part by what may be
-- left in the runs.
use Rattle.std.specs.Prelude.{ℕ, ◌+◌, ◌-◌, ◌*◌, List, Option, None, Some, length, drop, take}
use Rattle.list_totals.specs.Totals.{total}
use Rattle.list_totals.specs.Below.{sum_below}
use Rattle.sealed_runs.specs.Entries.{run_at}
use Rattle.sealed_runs.specs.Visits.{visit_at}
use Rattle.search_machine.specs.declared.phase.Phase.{Phase}
use Rattle.search_machine.specs.declared.phase.Phase.TheVariants.{Claim, Look, Give, Late, Aim, Pop, Offer, Done}
use Rattle.search_machine.specs.declared.phase.Onward.TheVariants.{Look as ToLook, Aim as ToAim}
use Rattle.search_machine.specs.Ground.{Ground}
use Rattle.query_core.specs.Turning.{search_of}
use Rattle.query_core.specs.Working.{Working}
use Rattle.live_query.specs.RootClaims.{Drawn}
use Rattle.live_query.specs.FillHands.{FillKept}
use Rattle.live_query.specs.DrainHands.{DrainKept}
use Rattle.live_query.specs.SealedQueues.{SealedKept}

-- at most how many turns of the fill part are left from this phase, without those for its rest
abbrev pub phase_left : Phase → ℕ
phase_left Claim = 1
phase_left Look = 2
phase_left (Give l) = 6
phase_left (Late l) = 4
phase_left (Aim j) = 0
phase_left (Pop j v) = 0
phase_left (Offer ToLook) = 3
phase_left (Offer (ToAim j)) = 0
phase_left Done = 0

-- at most how many turns of the fill part are left from this phase, with those for its rest
abbrev pub own_left : Phase → List ℕ → ℕ
own_left phase rest = phase_left phase + 5 * length rest

-- for a root child
abbrev pub root_left : List ℕ → ℕ
root_left r = 2 + 5 * length r

-- for the root children that are kept, and those whose groups may be undrawn
abbrev pub undrawn : List (List ℕ) → ℕ → Drawn → ℕ
undrawn roots size d =
    total root_left (take (d.end - d.next) (drop d.next roots)) + total root_left (drop (d.pass.met * size) roots)

abbrev pub roots_left : Ground → FillKept → ℕ
roots_left g h = undrawn g.roots h.roots.size h.drawn

-- all that is left of the fill part
abbrev pub fill_left : Working → FillKept → ℕ
fill_left w h = own_left w.phase w.rest + roots_left (search_of w 1) h

-- at most how many turns of the drain part are left from this phase over m queues, where no run gives a leaf
abbrev pub round_left : ℕ → Phase → ℕ
round_left m (Aim j) = 2 + 2 * (m - j)
round_left m (Pop j v) = 1 + 2 * (m - j)
round_left m (Offer (ToAim j)) = 3 + 2 * (m - j)
round_left m (Offer ToLook) = 0
round_left m Claim = 0
round_left m Look = 0
round_left m (Give l) = 0
round_left m (Late l) = 0
round_left m Done = 0

-- how many entries a run may still give to a visit, where it has not answered Closed to it
abbrev pub open_left : Option ℕ → ℕ → ℕ
open_left None n = n
open_left (Some v) n = 0

-- how many run m may still give to a worker
abbrev pub run_left : SealedKept → ℕ → ℕ
run_left q m =
    open_left (visit_at q.visits m).closed
    (length (run_at q.runs m).entries - (visit_at q.visits m).claim.met)

-- all that is left of the drain part
abbrev pub drain_left : Working → DrainKept SealedKept → ℕ
drain_left w h = round_left w.queues w.phase + 3 * sum_below (length h.queues.runs) (run_left h.queues)
