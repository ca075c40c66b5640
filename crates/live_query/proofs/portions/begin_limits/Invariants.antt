-- The words of the portions so far, with their rows.
use Rattle.std.proofs.Common.{◌≡◌, ◌≤◌, vec_capacity, vec_len}
use Rattle.search_task.specs.Questions.{search_over}
use Rattle.live_query.specs.PortionRows.{AreRows}
use Rattle.live_query.proofs.portions.begin_limits.Given as goal

abbrev pub invariant-loop-number : goal.invariant-loop-number
invariant-loop-number g l = record {
  len : vec_len l.words ≡ l.number;
  long : vec_len l.rows ≡ l.number;
  room : l.portions ≤ vec_capacity l.words;
  space : l.portions ≤ vec_capacity l.rows;
  rows : AreRows (search_over l.plan.search.question l.plan.search.index 1 l.plan.queues) l.words.items l.workers l.rows.items;
}
