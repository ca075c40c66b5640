-- Members behind those of the lists are cut off.
use Rattle.std.proofs.Common.{◌≡◌, ◌∙◌, List, length, map, ap, sym, arith}
use Rattle.std.proofs.lemmas.List.{length-take-le}
use Rattle.isax_word.specs.declared.member.Member.{Member}
use Rattle.saved_index.specs.Membership.{cut_numbers, number_of}
use Rattle.saved_index.proofs.NumberRows.{cut_members, row_is}
use Rattle.saved_index.proofs.members.NumberRow.into_members.Goals as goal

pub returns : goal.returns
returns g c =
    let row = c.self.inside in
    let ms = row.members.items in
    let cut = c.truncate.ensures.items in
    let long : length c.truncate.new.self.items ≡ row.whole
    = ap (λ (xs : List Member). length xs) cut ∙ length-take-le row.whole ms c.self.invariant.inside in
    row_is (g.R.Rows.collection c.args.rows.now) c.args.layout.now c.args.self _ c.requires.length
    (c.self.invariant.all ∙ sym long) (omega (arith, long, c.self.invariant.few))
    (ap (λ (xs : List Member). cut_numbers row.counts.items (map number_of xs)) cut
    ∙ cut_members row.counts.items ms row.whole c.self.invariant.all c.self.invariant.inside
    ∙ c.self.view_is)
    c.requires.below
