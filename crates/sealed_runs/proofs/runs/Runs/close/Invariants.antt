use Rattle.std.proofs.Common.{◌≡◌, ◌+◌, ◌≤◌, length, take, map, vec_len}
use Rattle.std.specs.VecDeque.{deque_capacity}
use Rattle.sealed_runs.proofs.Closing.{LinesFrom}
use Rattle.sealed_runs.proofs.runs.Runs.close.Given as goal

abbrev pub invariant-loop-run : goal.invariant-loop-run
invariant-loop-run l = record {
  runs : l.runs.items ≡ take (vec_len l.runs) l.fn.self.runs;
  count : vec_len l.runs + length l.lines.items ≡ length l.fn.self.runs;
  passes : l.passes.items ≡ map (take (vec_len l.runs)) l.fn.passes.items;
  room : length l.fn.self.runs ≤ deque_capacity l.lines;
  lines : LinesFrom l.fn.self.runs l.fn.passes.items (vec_len l.runs) l.lines.items;
}

abbrev pub decreases-loop-run : goal.decreases-loop-run
decreases-loop-run l = vec_len l.runs
