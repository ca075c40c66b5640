-- What one turn of a worker does: one call, and the worker becomes what the machine's worker becomes by the reply, or by a lower limit.
use Rattle.std.specs.Prelude.{◌≡◌, ℕ, ◌≤◌, false, cond, nat_lt, ◌&&◌}
use Rattle.search_machine.specs.declared.calls.Call.{Call}
use Rattle.search_machine.specs.declared.calls.Reply.{Reply}
use Rattle.search_machine.specs.declared.calls.Reply.TheVariants.{Seen, Offered}
use Rattle.search_machine.specs.declared.phase.Onward.{Onward}
use Rattle.search_machine.specs.Ground.{Ground}
use Rattle.search_machine.specs.Workers.{Worker, in_phase, is_new, onward, scanned_by}
use Rattle.search_machine.specs.OwnRecord.{RecordedWorker}
use Rattle.search_machine.specs.Calls.{call_of}
use Rattle.search_task.specs.Questions.{last_of, search_over}
use Rattle.search_machine.specs.Replies.{ReplyFits, after}
use Rattle.query_core.specs.Working.{IsOf, Working, Shows}

-- what the code's worker searches, where there are `workers` workers
abbrev pub search_of : Working → ℕ → Ground
search_of w workers = search_over w.question w.index workers w.queues

-- a limit in a reply is at least the last distance of the answer
abbrev pub ReplyNotLow : ℕ → Reply → Type 0
ReplyNotLow last (Seen v) = last ≤ v
ReplyNotLow last (Offered v) = last ≤ v
ReplyNotLow last _ = Unit {0}

-- what a worker goes by is what it was answered, or a lower limit
abbrev pub Lowers : Reply → Reply → Type 0
Lowers (Seen v) (Seen u) = u ≤ v
Lowers reply by = by ≡ reply

-- one turn: of a hand one call was made and answered so; the worker went by that reply, or by a lower limit where it shares limits of
-- portions; and whatever the number of workers, the machine's worker becomes by what the worker went by what the code's worker became
pub record TurnsBy {H : Type 0} (did : H → Call → Reply → H → Type 0) (before after_it : H) (w v : Working)
    (reply by : Reply) : Type 0 where
  pub called : (workers : ℕ) (x : RecordedWorker) → Shows w x.worker
      → did before (call_of (search_of w workers) w.number x.worker) reply after_it
  pub lowers : Lowers reply by
  pub exact : w.shares ≡ false → by ≡ reply
  pub fits : (workers : ℕ) → ReplyFits (search_of w workers) by
  pub not_low : ReplyNotLow (last_of w.question) by
  pub next : (workers : ℕ) (x : RecordedWorker) → Shows w x.worker
      → Shows v (after (search_of w workers) w.number x by).worker

-- one turn with its reply and what the worker went by: the worker keeps its place and shares what it shared, and the hand keeps its floor
-- and its root children
pub record Acts {H : Type 0} (floor roots : H → ℕ) (did : H → Call → Reply → H → Type 0) (before after_it : H)
    (w v : Working) (reply by : Reply) : Type 0 where
  pub turns : TurnsBy did before after_it w v reply by
  pub place : IsOf w.question w.index w.queues w.number v
  pub shares : v.shares ≡ w.shares
  pub hand : (floor after_it ≡ floor before) × (roots after_it ≡ roots before)

-- one turn, by some reply and something by which the worker went
abbrev pub Turns : {H : Type 0} → (H → Call → Reply → H → Type 0) → H → H → Working → Working → Type 0
Turns did before after_it w v = (reply : Reply) × (by : Reply) × TurnsBy did before after_it w v reply by

-- the machine's worker after it took a leaf: it scanned a leaf that is new to it, and passed over any other number
abbrev pub taken_by : Ground → Worker → ℕ → ℕ → Onward → Worker
taken_by g m l v next =
    cond (is_new l m && nat_lt l g.leaves) (scanned_by g m l v next) (in_phase (onward next) m)
