-- The one call that a turn makes, by the phase of its worker.
use Rattle.std.specs.Prelude.{ℕ}
use Rattle.search_machine.specs.declared.calls.Call.{Call}
use Rattle.search_machine.specs.declared.calls.Call.TheVariants.{Claim as ClaimCall, Read, Offer as OfferCall, Put, Pop as PopCall}
use Rattle.search_machine.specs.declared.phase.Phase.{Phase}
use Rattle.search_machine.specs.declared.phase.Phase.TheVariants.{Claim, Look, Give, Late, Aim, Pop, Offer, Done}
use Rattle.search_machine.specs.Ground.{Ground, worst, queue_of, entry_of}
use Rattle.search_machine.specs.Workers.{Worker, round_queue}

-- the call of worker i, which is w, in this phase; one that is done makes none, and reads here
abbrev pub call_in : Ground → ℕ → Worker → Phase → Call
call_in g i w Claim = ClaimCall
call_in g i w Look = Read
call_in g i w (Give l) = Put (queue_of g l) (entry_of g l)
call_in g i w (Late l) = Read
call_in g i w (Aim j) = Read
call_in g i w (Pop j v) = PopCall (round_queue g i j) v
call_in g i w (Offer next) = OfferCall (worst g w.list)
call_in g i w Done = Read

-- the call of worker i
abbrev pub call_of : Ground → ℕ → Worker → Call
call_of g i w = call_in g i w w.phase
