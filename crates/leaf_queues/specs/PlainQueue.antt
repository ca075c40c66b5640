-- What a queue of leaves is, with no heap in it: an ascending list of waiting entries, and what was
-- taken from it.
use Rattle.std.specs.Prelude.{ℕ, ◌+◌, List, [], ◌∷◌, ◌++◌, Option, None, Some, cond, nat_lt}
pub use Rattle.series_core.specs.EntryOrder.{entry_before}
use Rattle.series_core.specs.declared.queue_words.Entry.{Entry}
use Rattle.series_core.specs.declared.queue_words.PutReply.{PutReply}
use Rattle.series_core.specs.declared.queue_words.PutReply.TheVariants.{Placed, Shut, Filled}
use Rattle.series_core.specs.declared.queue_words.PopReply.{PopReply}
use Rattle.series_core.specs.declared.queue_words.PopReply.TheVariants.{Leaf, Closed}
use Rattle.leaf_queues.specs.declared.calls.Call.{Call}
use Rattle.leaf_queues.specs.declared.calls.Call.TheVariants.{Put, Pop}
use Rattle.leaf_queues.specs.declared.calls.Reply.{Reply}
use Rattle.leaf_queues.specs.declared.calls.Reply.TheVariants.{Put as PutAnswer, Pop as PopAnswer}

-- the waiting entries ascending, the taken ones in the order in which they were taken, how many puts
-- were placed and how many may be, and the limit of the pop that shut the queue
pub record PlainQueue : Type 0 where
  pub waiting : List Entry
  pub taken : List Entry
  pub placed : ℕ
  pub capacity : ℕ
  pub kept : Option ℕ

-- the entry stands before the first of the list that does not come before it
abbrev pub place : Entry → List Entry → List Entry
place e [] = e ∷ []
place e (d ∷ ds) = cond (entry_before d e) (d ∷ place e ds) (e ∷ d ∷ ds)

-- a queue with room for n entries, none of which was put yet
abbrev pub empty_queue : ℕ → PlainQueue
empty_queue n = record { waiting = []; taken = []; placed = 0; capacity = n; kept = None }

-- the queue in which this entry waits too
abbrev pub placed_in : Entry → PlainQueue → PlainQueue
placed_in e q = record {
  waiting = place e q.waiting;
  taken = q.taken;
  placed = q.placed + 1;
  capacity = q.capacity;
  kept = None;
}

-- a put, by the kept limit: Shut where there is one, else Filled where as many puts were placed as may
-- be, else Placed
abbrev pub put_open : Entry → PlainQueue → Option ℕ → PlainQueue × PutReply
put_open e q (Some v) = (q, Shut v)
put_open e q None = cond (nat_lt q.placed q.capacity)
    (placed_in e q, Placed)
    (q, Filled q.capacity)

-- a put of this entry
abbrev pub put : Entry → PlainQueue → PlainQueue × PutReply
put e q = put_open e q q.kept

-- the queue that is shut with this limit
abbrev pub shut_with : ℕ → PlainQueue → PlainQueue
shut_with v q = record {
  waiting = q.waiting;
  taken = q.taken;
  placed = q.placed;
  capacity = q.capacity;
  kept = Some v;
}

-- the queue from which e was taken, so that these entries wait
abbrev pub taken_from : Entry → List Entry → PlainQueue → PlainQueue
taken_from e es q = record {
  waiting = es;
  taken = q.taken ++ e ∷ [];
  placed = q.placed;
  capacity = q.capacity;
  kept = None;
}

-- a pop with the limit v, by the kept limit and the waiting entries: Closed with the kept limit where
-- there is one; else the least entry where its bound is not above v; else Closed with v, and the queue
-- is shut with v and loses no entry
abbrev pub pop_open : ℕ → PlainQueue → Option ℕ → List Entry → PlainQueue × PopReply
pop_open v q (Some kept) es = (q, Closed kept)
pop_open v q None [] = (shut_with v q, Closed v)
pop_open v q None (e ∷ es) = cond (nat_lt v e.bound)
    (shut_with v q, Closed v)
    (taken_from e es q, Leaf e)

-- a pop with this limit
abbrev pub pop : ℕ → PlainQueue → PlainQueue × PopReply
pop v q = pop_open v q q.kept q.waiting

-- the meaning of a call: the queue after it, and the answer
abbrev pub next : PlainQueue → Call → PlainQueue × Reply
next q (Put e) = ((put e q).0, PutAnswer (put e q).1)
next q (Pop v) = ((pop v q).0, PopAnswer (pop v q).1)
