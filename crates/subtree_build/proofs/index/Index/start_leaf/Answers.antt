-- No start without root children, and else where the descent from the nearest one leads.
use Rattle.std.proofs.Common.{List, sym, ap, ◌∙◌, subst}
use Rattle.std.specs.Prelude.{Some}
use Rattle.isax_word.specs.declared.word.Part.{Part}
use Rattle.subtree_build.specs.Index.{IsIndex, StandsUnder}
use Rattle.subtree_build.specs.Outline.{outline}
use Rattle.subtree_build.specs.Start.{first_descent}
use Rattle.std.proofs.lemmas.Bool.{false≢true}
use Rattle.subtree_build.proofs.Starts.{start_none, start_some, none_is_none}
use Rattle.subtree_build.proofs.index.Index.start_leaf.Goals as goal

pub returns-in_err-i-clause-value : goal.returns-in_err-i-clause-value
returns-in_err-i-clause-value c =
    let found = (c.in_err-i.ensures).value in
    c.from_residual.ensures ∙ sym (start_none c.args.view.now c.args.self.now (sym found))

pub returns-in_err-i-clause-some : goal.returns-in_err-i-clause-some
returns-in_err-i-clause-some c =
    let told = c.in_err-i.ensures in
    rw c.from_residual.ensures
    (λ some. absurd (false≢true some), none_is_none c.args.self.now told.is_index told.some.1)

pub descend-requires-clause-stands : goal.descend-requires-clause-stands
descend-requires-clause-stands c =
    let ix = c.args.self.now in
    let kept : IsIndex ix = (c.in_ok-i.ensures).is_index in
    let P : List Part → Type 0 = λ word. StandsUnder ix.leaves word (outline c.root.result.now) in
    subst P (sym c.root_word-word.ensures.value)
    (kept.nodes_stand c.in_ok-i.i c.root.result.now c.root.ensures)

pub returns-clause-value : goal.returns-clause-value
returns-clause-value c =
    let view = c.args.view.now in
    let ix = c.args.self.now in
    let found = (c.in_ok-i.ensures).value in
    ap Some
    (c.descend.ensures.value
    ∙ ap (λ word. first_descent view word (outline c.root.result.now)) c.root_word-word.ensures.value)
    ∙ sym (start_some view ix c.in_ok-i.i c.root.result.now (sym found) c.root.ensures)
