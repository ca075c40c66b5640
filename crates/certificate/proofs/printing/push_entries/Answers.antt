use Rattle.std.proofs.Common.{List, ℕ, ap, ◌++◌, ◌∙◌}
use Rattle.certificate.proofs.PrintedText.{entries_step}
use Rattle.certificate.proofs.printing.push_entries.Goals as goal

pub loop-entry-preserved : goal.loop-entry-preserved
loop-entry-preserved c =
    entries_step c.args.text.now.items c.loop-entry.text.items _ c.args.entries.now c.loop-entry.entry-index _
    c.loop-entry-test.true c.loop-entry.invariant
    (c.in_ok-extend_from_slice.ensures.items
    ∙ ap (λ (t : List ℕ). c.loop-entry.text.items ++ t) (c.bytes.ensures ∙ c.put_entry.ensures))
