-- So much is filled up.
use Rattle.std.proofs.Common.{◌≡◌, ◌++◌, ◌-◌, length}
use Rattle.std.specs.Prelude.{replicate}
use Rattle.isearch_c.specs.Found.{nothing}
use Rattle.isearch_c.proofs.answers.put.Given as goal

abbrev pub invariant-loop : goal.invariant-loop
invariant-loop l = l.found.items ≡ l.fn.found.items ++ (l.fn.pairs ++ replicate (l.counter - length l.fn.pairs) nothing)
