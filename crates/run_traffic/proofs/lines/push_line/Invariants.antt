use Rattle.std.proofs.Common.{◌≡◌, ◌++◌, drop}
use Rattle.run_traffic.specs.Lines.{line_behind, line_of}
use Rattle.run_traffic.proofs.lines.push_line.Given as goal

abbrev pub invariant-loop-n : goal.invariant-loop-n
invariant-loop-n l = line_behind l.text.items (drop l.n-index l.others) ≡ l.fn.text.items ++ line_of l.first l.others
