-- The members that were read get the words that were made beside.
use Rattle.std.proofs.Common.{◌∙◌, IfOk, Result, subst}
use Rattle.saved_index.specs.declared.error.IndexFault.{IndexFault}
use Rattle.saved_index.specs.declared.framing.Framed.{Framed}
use Rattle.saved_index.specs.Framing.{IsFramed}
use Rattle.saved_index.proofs.Beside.{is_worded, layout_told}
use Rattle.saved_index.proofs.loading.worded.Goals as goal

pub returns-clause-worded : goal.returns-clause-worded
returns-clause-worded g c =
    let all = g.R.Rows.collection c.args.rows.now in
    let framed : IsFramed all c.args.bytes.now c.in-Ok.framed
    = subst (λ (r : Result Framed IndexFault). IfOk r (IsFramed all c.args.bytes.now)) c.in-Ok.is c.read_beside-framed.ensures.framed in
    is_worded all c.args.bytes.now c.in-Ok.framed framed _ _ _
    (c.in-Some.ensures.layout ∙ layout_told all c.args.bytes.now c.in-Ok.framed framed)
    c.as_mut_slice.ensures.value c.give_words.ensures
