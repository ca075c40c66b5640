-- Locked queues cross threads where the handle to wait by may be shared (`locked_queues_send`).
use denote.RattleType.{RattleType}
use denote.Param.{param}
use denote.Param.Send.{IsSend, IsSync, sendable}
use denote.Ref.{NamedLft}
use Rattle.std.proofs.Common.{ℕ}
use Rattle.std.proofs.Crossing.{crosses}
use Rattle.std.proofs.option.Option.TheSendSync as option
use Rattle.leaf_queues.proofs.queue.Queue.TheSendSync as queue
use Rattle.turn_lock.proofs.lock.LockOf.TheSendSync as lock
use Rattle.turn_lock.proofs.lock.PassOf.TheSendSync as pass
use Rattle.leaf_queues.specs.contracts.calls.Call as call_row
use Rattle.leaf_queues.specs.contracts.calls.Reply as reply_row
use Rattle.leaf_queues.specs.contracts.queue.Queue as queue_row
use Rattle.turn_lock.specs.contracts.object.Held as held
use Rattle.live_query.specs.contracts.locked_queues.LockedQueues as locked

-- what a lock guards
held_sends : IsSend (held.the_row queue_row.the_row call_row.the_row reply_row.the_row)
held_sends =
    search (queue.the_send, option.the_field_send, crosses, sendable)
    depth 60 fits 20000

pub locked_queues_send : (ℓ : NamedLft) (n : ℕ) (W : RattleType) → IsSync W → IsSend (locked.the_row ℓ (param n W))
locked_queues_send ℓ n W s =
    search (
      held_sends,
      lock.the_sync,
      pass.the_send,
      crosses,
      sendable,
    ) depth 60 fits 20000
