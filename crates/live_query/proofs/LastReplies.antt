-- The last reply of a legal history is one to its call.
use Rattle.std.proofs.Common.{◌≡◌, ℕ, [], ◌∷◌, ◌++◌, subst}
use Rattle.turn_lock.specs.declared.object.Entry.{Entry as Made}
use Rattle.turn_lock.specs.History.{IsLegal, EndsWith, entry}
use Rattle.leaf_queues.specs.declared.calls.Call.{Call}
use Rattle.leaf_queues.specs.declared.calls.Call.TheVariants.{Put, Pop}
use Rattle.leaf_queues.specs.declared.calls.Reply.{Reply}
use Rattle.leaf_queues.specs.declared.calls.Reply.TheVariants.{Put as PutAnswer, Pop as PopAnswer}
use Rattle.leaf_queues.specs.PlainQueue.{PlainQueue, next}
use Rattle.queue_histories.specs.Histories.{History, answers}
use Rattle.live_query.specs.LockedQueues.{Answers}

last_reply : (q : PlainQueue) (log : History) (e : Made Call Reply) → IsLegal answers q (log ++ e ∷ [])
    → (r : PlainQueue) × (e.reply ≡ (next r e.call).1)
last_reply q [] e l = (q, l.0)
last_reply q (x ∷ log) e l = last_reply (next q x.call).0 log e l.1

-- the reply of the call with which a legal history ends is that of some queue
told_by : (q : PlainQueue) (before after : History) (e : Made Call Reply) → EndsWith before e after → IsLegal answers q after
    → (r : PlainQueue) × (e.reply ≡ (next r e.call).1)
told_by q before after e ends legal = last_reply q (before ++ ends.0) e (subst (IsLegal answers q) ends.1 legal)

-- a put is answered as a put, and a pop as a pop
pub answers_it : (q : PlainQueue) (before after : History) (n : ℕ) (call : Call) (reply : Reply)
    → EndsWith before (entry n call reply) after → IsLegal answers q after → Answers call reply
answers_it q before after n (Put e) (PutAnswer r) ends legal = tt
answers_it q before after n (Pop v) (PopAnswer r) ends legal = tt
answers_it q before after n (Put e) (PopAnswer r) ends legal =
    let is = (told_by q before after (entry n (Put e) (PopAnswer r)) ends legal).1 in
    absurd (cc)
answers_it q before after n (Pop v) (PutAnswer r) ends legal =
    let is = (told_by q before after (entry n (Pop v) (PutAnswer r)) ends legal).1 in
    absurd (cc)
