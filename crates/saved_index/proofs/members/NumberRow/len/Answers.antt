-- There are as many lists as counts.
use Rattle.std.proofs.Common.{◌∙◌, ℕ, List, length, map, ap, sym}
use Rattle.saved_index.specs.Membership.{number_of}
use Rattle.saved_index.proofs.NumberRows.{length-cut}
use Rattle.saved_index.proofs.members.NumberRow.len.Goals as goal

pub returns : goal.returns
returns c =
    let row = c.self.inside in
    c.len.ensures ∙ row.counts.ok.0
    ∙ sym (ap (λ (ls : List (List ℕ)). length ls) (sym c.self.view_is)
    ∙ length-cut row.counts.items (map number_of row.members.items))
