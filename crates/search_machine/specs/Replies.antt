-- What a worker and its own record become by a reply, whatever it is that answers.
use Rattle.std.specs.Prelude.{ℕ, ◌<◌, List, [], ◌∷◌, Some, length}
use Rattle.search_machine.specs.declared.calls.Call.{Call}
use Rattle.search_machine.specs.declared.calls.Call.TheVariants.{Claim, Read, Offer, Put, Pop}
use Rattle.search_machine.specs.declared.calls.Reply.{Reply}
use Rattle.search_machine.specs.declared.calls.Reply.TheVariants.{Claimed, Seen, Offered, PutTold, PopTold}
use Rattle.search_machine.specs.declared.phase.Phase.{Phase}
use Rattle.search_machine.specs.declared.phase.Phase.TheVariants.{Done}
use Rattle.search_machine.specs.Ground.{Ground}
use Rattle.search_machine.specs.Workers.{Worker, after_reply}
use Rattle.search_machine.specs.Calls.{call_in}
use Rattle.search_machine.specs.OwnRecord.{OwnRecord, RecordedWorker, with_claim, with_read, with_offer, with_put, with_pop}

-- a reply that a hand may give: a number that a claim gives is that of a root child
abbrev pub ReplyFits : Ground → Reply → Type 0
ReplyFits g (Claimed (Some c)) = c < length g.roots
ReplyFits g _ = Unit {0}

-- the record with this call and its reply added; a reply to another call adds nothing
abbrev pub with_call : Call → Reply → OwnRecord → OwnRecord
with_call Claim (Claimed o) r = with_claim o r
with_call Read (Seen v) r = with_read v r
with_call (Offer v) (Offered before) r = with_offer (record { value = v; reply = before }) r
with_call (Put m e) (PutTold reply) r =
    with_put (record { queue = m; entry = e; reply = reply }) r
with_call (Pop m v) (PopTold reply) r =
    with_pop (record { queue = m; limit = v; reply = reply }) r
with_call _ _ r = r

-- the record of worker i, which is w, after this reply in this phase: the call of the phase is added
-- with its reply; one that is done makes no call
abbrev pub own_after : Ground → ℕ → Worker → OwnRecord → Phase → Reply → OwnRecord
own_after g i w r Done reply = r
own_after g i w r phase reply = with_call (call_in g i w phase) reply r

-- a worker with its record after this reply
abbrev pub after : Ground → ℕ → RecordedWorker → Reply → RecordedWorker
after g i x reply = record {
  worker = after_reply g x.worker x.worker.phase reply;
  own = own_after g i x.worker x.own x.worker.phase reply;
}

-- a worker with its record after these replies, one after the other
abbrev pub after_all : Ground → ℕ → RecordedWorker → List Reply → RecordedWorker
after_all g i x [] = x
after_all g i x (reply ∷ replies) = after_all g i (after g i x reply) replies
