-- The next member raises the mark of its series alone.
use Rattle.std.proofs.Common.{◌≡◌, ◌+◌, ◌<◌, ◌≤◌, length, min, get_or, sym, subst, arith}
use Rattle.std.proofs.lemmas.List.Elements.{All-set}
use Rattle.isax_word.specs.declared.member.Member.{Member}
use Rattle.saved_index.specs.Membership.{weight}
use Rattle.saved_index.proofs.Marks.{mark_more}
use Rattle.saved_index.proofs.fitting.mark_members.Goals as goal

pub loop-member-preserved : goal.loop-member-preserved
loop-member-preserved c =
    let word = c.args.word.now in
    let m = c.member-item.result in
    let marks = c.loop-member.marks in
    let is : c.min.result ≡ min 2 (get_or marks m.number 0 + weight word m)
    = omega (arith, c.min.ensures, c.saturating_add.ensures, c.weight.ensures) in
    let Low : Member → Type 0 = λ o. o.number < length c.args.marks.now in
    let below = subst Low (sym c.member-item.is) (c.requires.below c.loop-member.member-index m (omega arith)) in
    let low : m.number < length marks = omega (arith, below, c.loop-member.auto.marks) in
    record {
      each = λ i inside.
          mark_more word c.args.members.now c.loop-member.member-index m c.args.marks.now marks c.min.result i (omega arith)
          c.member-item.is low (c.loop-member.invariant.each i inside) is;
      small = All-set (λ mark. mark ≤ 2) marks m.number c.min.result (omega (arith, is)) c.loop-member.invariant.small;
    }
