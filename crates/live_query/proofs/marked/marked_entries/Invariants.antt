-- The entries of the leaves so far.
use Rattle.std.proofs.Common.{◌≤◌, vec_capacity, vec_len}
use Rattle.search_task.specs.Questions.{view_in}
use Rattle.live_query.specs.Marked.{AreMarked}
use Rattle.live_query.specs.Parts.{marks_of}
use Rattle.live_query.proofs.marked.marked_entries.Given as goal

abbrev pub invariant-loop-leaf : goal.invariant-loop-leaf
invariant-loop-leaf g l = record {
  len : vec_len l.entries ≤ l.leaf;
  room : l.leaves ≤ vec_capacity l.entries;
  marked : AreMarked (view_in l.plan.search.question) l.plan.search.index (marks_of l.team) l.leaf l.entries.items;
}
