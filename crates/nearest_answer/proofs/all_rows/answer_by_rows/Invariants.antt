-- The rows so far were scanned, and the most that a distance may be is that of the list.
use Rattle.std.proofs.Common.{[]}
use Rattle.std.specs.List.{range_with_len}
use Rattle.search_task.proofs.Meeting.{IsScanning}
use Rattle.nearest_answer.proofs.all_rows.answer_by_rows.Given as goal

abbrev pub invariant-loop-number : goal.invariant-loop-number
invariant-loop-number g l = IsScanning l.task l.fn.limit (range_with_len 0 l.number) [] l.list l.most
