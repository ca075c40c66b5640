-- The leaves of a split are numbered in order where those of the low child are, and behind them those of the high one.
use Rattle.std.proofs.Common.{◌≡◌, ℕ, ◌+◌, IsSome, length, ap, sym, refl, ◌∙◌, subst, add-zero}
use Rattle.std.proofs.lemmas.Bool.{false≢true}
use Rattle.subtree_build.specs.declared.node.Node.{Node}
use Rattle.subtree_build.specs.Assembly.{AreNumbered}
use Rattle.subtree_build.specs.Outline.{outline, child_outline}
use Rattle.subtree_build.specs.Tree.{Tree, split, leaves_of}
use Rattle.subtree_build.proofs.Outlines.{outline_of_split}
use Rattle.subtree_build.proofs.Numbering.{numbered_split, numbered_low, numbered_high, numbered_absent}
use Rattle.subtree_build.proofs.assembly.+number_behind.Goals as goal
use Rattle.subtree_build.proofs.assembly.+number_behind.Goals.{in-Some+in_ok-between-in-Some, in-None}

pub returns-in_err-between-in-Some-clause-numbered :
    goal.returns-in_err-between-in-Some-clause-numbered
returns-in_err-between-in-Some-clause-numbered t c =
    let low = c.in-Some.low.value in
    let high = child_outline c.in-Split.high in
    let o : outline c.args.node.now ≡ split c.in-Split.segment (outline low) high
    = ap outline c.in-Split.is ∙ outline_of_split c.in-Split.segment c.in-Split.low c.in-Split.high
    ∙ ap (λ x. split c.in-Split.segment (child_outline x) high) c.in-Some.is in
    let N : Tree ℕ → Type 0 = λ t. AreNumbered c.args.first c.args.end t in
    let told = c.in_err-between-in-Some.ensures.numbered in (
      λ some. absurd (false≢true (subst (λ x. IsSome x) c.from_residual.ensures some)),
      λ are. absurd (false≢true (told.1 (subst (λ n. N (outline n)) (sym c.deref.ensures)
          (numbered_low c.args.first c.args.end c.in-Split.segment (outline low) high (subst N o are))))),
    )

pub returns-in-Some-high-clause-numbered : goal.returns-in-Some-high-clause-numbered
returns-in-Some-high-clause-numbered t c =
    let first = c.args.first in
    let end = c.args.end in
    let j = c.in-Split.segment in
    let low = child_outline c.in-Split.low in
    let high = outline c.in-Some-high.high.value in
    let o : outline c.args.node.now ≡ split j low high
    = ap outline c.in-Split.is ∙ outline_of_split c.in-Split.segment c.in-Split.low c.in-Split.high
    ∙ ap (λ x. split j low (child_outline x)) c.in-Some-high.is in
    let N : Tree ℕ → Type 0 = λ t. AreNumbered first end t in
    let front : (AreNumbered first end low) × (c.match-low.between ≡ first + length (leaves_of low))
    = elim c.match-low.branch [
      | in-Some+in_ok-between-in-Some w ↦ (
        subst (λ x. N (child_outline x)) (sym w.in-Some.is)
            (subst (λ n. N (outline n)) w.deref.ensures (w.in_ok-between-in-Some.ensures.numbered.0 refl)),
        w.between-is ∙ w.in_ok-between-in-Some.ensures.next
            ∙ ap (λ n. first + length (leaves_of (outline n))) w.deref.ensures
            ∙ ap (λ x. first + length (leaves_of (child_outline x))) (sym w.in-Some.is),
      )
      | in-None w ↦ (
        subst (λ x. N (child_outline x)) (sym w.in-None.is) (numbered_absent first end c.requires),
        w.between-is ∙ sym (add-zero first)
            ∙ ap (λ x. first + length (leaves_of (child_outline x))) (sym w.in-None.is),
      )
    ] in
    let told = c.number_behind-in-Some-high.ensures.numbered in
    let H : ℕ → Type 0 = λ n. AreNumbered n end high in
    let D : Node → Type 0 = λ n. AreNumbered c.match-low.between end (outline n) in (
      λ some. subst N (sym o) (numbered_split first end j low high front.0
          (subst H front.1 (subst D c.deref-in-Some-high.ensures (told.0 some)))),
      λ are. told.1 (subst D (sym c.deref-in-Some-high.ensures)
          (subst H (sym front.1) (numbered_high first end j low high (subst N o are)))),
    )
