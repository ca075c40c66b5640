-- The workers are as they opened, and each that is left finds a pass in each row.
use Rattle.std.proofs.Common.{◌≡◌, ◌+◌, ℕ, vec_len}
use Rattle.search_task.specs.Questions.{search_over}
use Rattle.query_core.specs.Teams.{AreHired}
use Rattle.live_query.specs.PortionRows.{AreRows}
use Rattle.live_query.proofs.portions.share_limits.Given as goal

abbrev pub invariant-loop-i : goal.invariant-loop-i
invariant-loop-i g l = record {
  hired : AreHired l.plan.search.question l.plan.search.index l.plan.queues l.workers.items;
  len : vec_len l.workers ≡ vec_len l.fn.workers;
  left : (n : ℕ) → n + l.i ≡ vec_len l.fn.workers
      → AreRows (search_over l.plan.search.question l.plan.search.index 1 l.plan.queues) l.words n l.rows.items;
}
