-- What the workers share, and what one call makes of it, whoever calls.
use Rattle.std.specs.Prelude.{◌≡◌, ℕ, suc, List, Option, None, Some, cond, nat_lt, min, set, slice_get}
use Rattle.series_core.specs.declared.queue_words.Entry.{Entry}
use Rattle.series_core.specs.declared.queue_words.PutReply.TheVariants.{Filled}
use Rattle.series_core.specs.declared.queue_words.PopReply.TheVariants.{Closed}
use Rattle.leaf_queues.specs.PlainQueue.{PlainQueue, put, pop}
use Rattle.search_machine.specs.declared.calls.Call.{Call}
use Rattle.search_machine.specs.declared.calls.Call.TheVariants.{Claim, Read, Offer, Put, Pop}
use Rattle.search_machine.specs.declared.calls.Reply.{Reply}
use Rattle.search_machine.specs.declared.calls.Reply.TheVariants.{Claimed, Seen, Offered, PutTold, PopTold}

-- what is held: below what no limit falls, how many root children there are and how many are claimed,
-- the bound word, and the queues
pub record Held : Type 0 where
  pub floor : ℕ
  pub roots : ℕ
  pub claimed : ℕ
  pub word : ℕ
  pub queues : List PlainQueue

-- what is held with another queue m
abbrev pub with_queue_at : ℕ → PlainQueue → Held → Held
with_queue_at m q h = record h { queues = set h.queues m q }

-- a claim: the next root child, where there is one
abbrev pub claimed_next : Held → Held × Reply
claimed_next h = cond (nat_lt h.claimed h.roots)
    (record h { claimed = suc h.claimed }, Claimed (Some h.claimed))
    (h, Claimed None)

-- a put into queue m: one that names no queue changes nothing, and is answered as by a queue without
-- room
abbrev pub put_into : Held → ℕ → Entry → Option PlainQueue → Held × Reply
put_into h m e None = (h, PutTold (Filled 0))
put_into h m e (Some q) = (with_queue_at m (put e q).0 h, PutTold (put e q).1)

-- a pop from queue m: one that names no queue changes nothing, and is answered as by a queue that is
-- shut with the limit
abbrev pub pop_from : Held → ℕ → ℕ → Option PlainQueue → Held × Reply
pop_from h m v None = (h, PopTold (Closed v))
pop_from h m v (Some q) = (with_queue_at m (pop v q).0 h, PopTold (pop v q).1)

-- what a call makes of what is held, and its reply
abbrev pub held_after : Held → Call → Held × Reply
held_after h Claim = claimed_next h
held_after h Read = (h, Seen h.word)
held_after h (Offer v) = (record h { word = min h.word v }, Offered h.word)
held_after h (Put m e) = put_into h m e (slice_get h.queues m)
held_after h (Pop m v) = pop_from h m v (slice_get h.queues m)

-- what one call with its reply made of what is held
abbrev pub Did : Held → Call → Reply → Held → Type 0
Did h call reply k = held_after h call ≡ (k, reply)
