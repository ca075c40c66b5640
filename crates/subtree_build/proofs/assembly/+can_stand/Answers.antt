-- A split can stand where its segment has a bit left and each child that there is can stand.
use Rattle.std.proofs.Common.{◌≡◌, ℕ, true, ap, sym, ◌∙◌, subst, arith}
use Rattle.std.specs.Prelude.{◌&&◌}
use Rattle.subtree_build.specs.Assembly.{CanStand}
use Rattle.subtree_build.specs.Index.{IsSplit}
use Rattle.subtree_build.specs.Outline.{outline, child_outline}
use Rattle.subtree_build.specs.Tree.{Tree, absent, split, is_absent}
use Rattle.subtree_build.proofs.Assembled.{stands_too}
use Rattle.subtree_build.proofs.Outlines.{present, outline_of_split}
use Rattle.subtree_build.proofs.assembly.+can_stand.Goals as goal

pub returns-in-None-Some : goal.returns-in-None-Some
returns-in-None-Some t c =
    let word = c.args.word.now in
    let j = c.in-Split.segment in
    let high = c.in-None-Some.high.value in
    let o : outline c.args.node.now ≡ split j absent (outline high)
    = ap outline c.in-Split.is
    ∙ outline_of_split j c.in-Split.low c.in-Split.high
    ∙ ap (λ x. split j (child_outline x) (child_outline c.in-Split.high)) c.in-None-Some.is-0
    ∙ ap (λ x. split j absent (child_outline x)) c.in-None-Some.is-1 in
    let C : Tree ℕ → Type 0 = λ t. CanStand word t in
    let is : IsSplit word j absent (outline high)
    = record { used = omega arith; divisible = omega arith; some_child = present high } in
    let told = c.can_stand.ensures in (
      λ yes. subst C (sym o) (is, tt, stands_too _ _ _ _ c.child.ensures c.deref.ensures (told.0 yes)),
      λ can. told.1 (stands_too _ _ _ _ (sym c.child.ensures) (sym c.deref.ensures) ((subst C o can).2)),
    )

pub returns-in-Some-None : goal.returns-in-Some-None
returns-in-Some-None t c =
    let word = c.args.word.now in
    let j = c.in-Split.segment in
    let low = c.in-Some-None.low.value in
    let o : outline c.args.node.now ≡ split j (outline low) absent
    = ap outline c.in-Split.is
    ∙ outline_of_split j c.in-Split.low c.in-Split.high
    ∙ ap (λ x. split j (child_outline x) (child_outline c.in-Split.high)) c.in-Some-None.is-0
    ∙ ap (λ x. split j (outline low) (child_outline x)) c.in-Some-None.is-1 in
    let C : Tree ℕ → Type 0 = λ t. CanStand word t in
    let is : IsSplit word j (outline low) absent
    = record { used = omega arith; divisible = omega arith; some_child = ap (λ b. b && true) (present low) } in
    let told = c.can_stand-in-Some-None.ensures in (
      λ yes. subst C (sym o) (is, stands_too _ _ _ _ c.child-in-Some-None.ensures c.deref-in-Some-None.ensures (told.0 yes), tt),
      λ can. told.1 (stands_too _ _ _ _ (sym c.child-in-Some-None.ensures) (sym c.deref-in-Some-None.ensures) ((subst C o can).1)),
    )

pub returns-then-can_stand : goal.returns-then-can_stand
returns-then-can_stand t c =
    let word = c.args.word.now in
    let j = c.in-Split.segment in
    let low = c.in-Some-Some.low.value in
    let high = c.in-Some-Some.high.value in
    let o : outline c.args.node.now ≡ split j (outline low) (outline high)
    = ap outline c.in-Split.is
    ∙ outline_of_split j c.in-Split.low c.in-Split.high
    ∙ ap (λ x. split j (child_outline x) (child_outline c.in-Split.high)) c.in-Some-Some.is-0
    ∙ ap (λ x. split j (outline low) (child_outline x)) c.in-Some-Some.is-1 in
    let C : Tree ℕ → Type 0 = λ t. CanStand word t in
    let is : IsSplit word j (outline low) (outline high)
    = record {
      used = omega arith;
      divisible = omega arith;
      some_child = ap (λ b. b && is_absent (outline high)) (present low);
    } in
    let front = stands_too _ _ _ _ c.child-in-Some-Some.ensures c.deref-in-Some-Some.ensures (c.can_stand-in-Some-Some.ensures.0 c.if-can_stand.true) in
    let told = c.can_stand-then-can_stand.ensures in (
      λ yes. subst C (sym o) (is, front, stands_too _ _ _ _ c.child-then-can_stand.ensures c.deref-then-can_stand.ensures (told.0 yes)),
      λ can. told.1 (stands_too _ _ _ _ (sym c.child-then-can_stand.ensures) (sym c.deref-then-can_stand.ensures) ((subst C o can).2)),
    )
