use Rattle.std.proofs.Common.{◌≡◌, ◌-◌, length}
use Rattle.certificate.specs.Fields.{entries_at, with_front}
use Rattle.certificate.proofs.words.entries.Given as goal

abbrev pub invariant-loop : goal.invariant-loop
invariant-loop l =
    entries_at (length l.text) l.text ≡ with_front l.items.items (entries_at (l.end - l.counter) l.rest)
