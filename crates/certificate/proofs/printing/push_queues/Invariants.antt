use Rattle.std.proofs.Common.{◌≡◌, ◌++◌, take}
use Rattle.std.specs.List.{concat}
use Rattle.certificate.specs.Printed.{entries_taken}
use Rattle.certificate.specs.Spelling.{queue_lines}
use Rattle.certificate.proofs.printing.push_queues.Given as goal

abbrev pub invariant-loop-m : goal.invariant-loop-m
invariant-loop-m l = l.text.items ≡ l.fn.text.items ++ concat (queue_lines 0 (entries_taken (take l.m l.lines)))
