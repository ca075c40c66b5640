use Rattle.std.proofs.Common.{◌≡◌, ◌++◌, take}
use Rattle.certificate.specs.Spelling.{entries_text}
use Rattle.certificate.proofs.printing.push_entries.Given as goal

abbrev pub invariant-loop-entry : goal.invariant-loop-entry
invariant-loop-entry l = l.text.items ≡ l.fn.text.items ++ entries_text (take l.entry-index l.entries)
