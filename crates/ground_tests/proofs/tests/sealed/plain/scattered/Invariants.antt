use Rattle.std.proofs.Common.{◌≡◌, ℕ}
use Rattle.series_core.specs.declared.queue_words.Entry.{Entry}
use Rattle.list_totals.specs.Totals.{total, one_if_same, once_below}
use Rattle.ground_tests.proofs.tests.sealed.plain.scattered.Given as goal

abbrev pub invariant-loop-leaf : goal.invariant-loop-leaf
invariant-loop-leaf l = (x : ℕ)
    → total (λ (e : Entry). one_if_same x e.leaf) l.entries.items ≡ once_below x l.leaf
