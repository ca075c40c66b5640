use Rattle.std.proofs.Common.{◌≡◌, ◌++◌, take}
use Rattle.std.specs.List.{concat}
use Rattle.certificate.specs.Printed.{leaves_said}
use Rattle.certificate.specs.Spelling.{leaf_lines}
use Rattle.certificate.proofs.printing.push_leaves.Given as goal

abbrev pub invariant-loop-l : goal.invariant-loop-l
invariant-loop-l l = l.text.items ≡ l.fn.text.items ++ concat (leaf_lines 0 (leaves_said l.index.leaves (take l.l l.fates)))
