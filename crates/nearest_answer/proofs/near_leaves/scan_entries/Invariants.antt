-- The leaves of the entries so far were scanned or passed over, whatever was met before.
use Rattle.std.proofs.Common.{◌≡◌, ◌≤◌, ◌++◌, List, ℕ, length, take}
use Rattle.list_totals.specs.Totals.{times}
use Rattle.search_machine.specs.Sound.{ListSound}
use Rattle.nearest_answer.specs.NearLeaves.{leaves_in}
use Rattle.search_task.specs.Questions.{ground_of}
use Rattle.nearest_answer.proofs.near_leaves.scan_entries.Given as goal

abbrev pub invariant-loop-entry : goal.invariant-loop-entry
invariant-loop-entry g l = record {
  list : (l.list.k ≡ l.fn.search.question.k) × (length l.list.pairs ≤ l.fn.search.question.k);
  met : let ground = ground_of l.fn.search in
      (met : List ℕ) → ((n : ℕ) → times n (met ++ leaves_in l.entries) ≤ 1) → ListSound ground met l.fn.list.pairs
      → ListSound ground (met ++ leaves_in (take l.entry-index l.entries)) l.list.pairs;
}
