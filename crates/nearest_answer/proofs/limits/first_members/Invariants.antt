-- The leaves from the first leaf up to this one were scanned.
use Rattle.std.proofs.Common.{◌≡◌, ◌-◌}
use Rattle.std.specs.List.{range_with_len}
use Rattle.search_machine.specs.Sound.{ListSound}
use Rattle.search_task.specs.Questions.{ground_of}
use Rattle.nearest_answer.proofs.limits.first_members.Given as goal

abbrev pub invariant-loop-leaf : goal.invariant-loop-leaf
invariant-loop-leaf g l = record {
  k : l.list.k ≡ l.fn.search.question.k;
  sound : ListSound (ground_of l.fn.search) (range_with_len l.first (l.leaf - l.first)) l.list.pairs;
}
