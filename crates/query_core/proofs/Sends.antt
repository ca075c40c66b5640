-- A worker of a search crosses threads where its rows may be shared by them (`worker_sends`).
use denote.RattleType.{RattleType}
use denote.Param.{param}
use denote.Param.Send.{IsSend, IsSync, sendable}
use denote.Ref.{NamedLft}
use Rattle.std.proofs.Crossing.{crosses}
use Rattle.std.proofs.boxed.Box.TheSendSync as box
use Rattle.std.proofs.option.Option.TheSendSync as option
use Rattle.std.proofs.vec.Vec.TheSendSync as vec
use Rattle.best_word.proofs.number.BestWord.TheSendSync as best_word
use Rattle.best_word.proofs.pass.WordPass.TheSendSync as pass
use Rattle.series_core.specs.declared.rows.Rows.{Ghosts}
use Rattle.series_core.proofs.best.KBest.TheSendSync as best
use Rattle.isax_word.proofs.member.Member.TheSendSync as member
use Rattle.isax_word.proofs.word.Word.TheSendSync as word
use Rattle.subtree_build.specs.contracts.index.Index as index
use Rattle.subtree_build.proofs.node.Node.TheLaws.TheKnot as knot
use Rattle.query_core.specs.contracts.limits.Limits as limits
use Rattle.query_core.specs.contracts.walk.Walk as walk
use Rattle.query_core.specs.contracts.worker.Worker as worker
use Rattle.query_core.proofs.stage.Stage.TheSendSync as stage
use Rattle.search_task.proofs.task.Task.TheSendSync as task

-- an index is shared by threads
pub index_syncs : IsSync index.the_row
index_syncs =
    search (
      option.the_field_sync,
      option.the_sync,
      word.the_sync,
      box.the_sync,
      vec.the_sync,
      member.the_sync,
      crosses,
      knot.crosses,
      sendable,
    ) depth 60 fits 20000

-- a walk over one crosses them
walk_sends : (ℓ : NamedLft) → IsSend (walk.the_row ℓ)
walk_sends ℓ = search (index_syncs, option.the_field_send, crosses, sendable) depth 60 fits 20000

-- limits of portions cross them
limits_sends : (ℓ : NamedLft) → IsSend (limits.the_row ℓ)
limits_sends ℓ = search (best_word.the_sync, pass.the_send, vec.the_send, option.the_field_send, crosses, sendable) depth 60 fits 20000

-- a worker crosses them where its rows are shared
pub worker_sends : (ℓ : NamedLft) (T : RattleType) (R : Ghosts T.Denot) → IsSync T
    → IsSend (worker.the_row ℓ (param 1 T) R)
worker_sends ℓ T R s =
    search (
      index_syncs,
      walk_sends,
      limits_sends,
      option.the_send,
      best.the_send,
      task.the_sync,
      option.the_field_send,
      stage.the_field_send,
      vec.the_send,
      crosses,
      sendable,
    ) depth 60 fits 20000
