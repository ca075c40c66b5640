-- A leaf is the node of its members; a split's children are the nodes of theirs.
use Rattle.std.proofs.Common.{◌≡◌, ℕ, ◌++◌, length, true, false, refl, ap, sym, subst, arith}
use Rattle.std.specs.Prelude.{filter}
use Rattle.std.proofs.lemmas.Bool.{eqb-true}
use Rattle.std.proofs.lemmas.Result.{IfOk-weaker}
use Rattle.subtree_build.specs.Division.{node_of, bits_left}
use Rattle.subtree_build.specs.Grown.{IsGrown}
use Rattle.subtree_build.specs.Outline.{outline, child_outline}
use Rattle.subtree_build.specs.Splitting.{goes_high, goes_low}
use Rattle.subtree_build.specs.Tree.{Tree}
use Rattle.subtree_build.proofs.Divisions.{bits_left-child}
use Rattle.subtree_build.proofs.Children.{child_segments, both_children}
use Rattle.subtree_build.proofs.Dividing.{front_is, back_is}
use Rattle.subtree_build.proofs.Growing.{leaf_is_grown, none_is_grown, grown_few, children_are_grown}
use Rattle.subtree_build.proofs.subtree.+subtree.Goals as goal

pub child_node-returns-then-is_empty : goal.child_node-returns-then-is_empty
child_node-returns-then-is_empty t c = record {
  grown = none_is_grown c.args.leaf_size c.args.word.now c.args.members.now c.args.leaves.now.items
      (eqb-true (length c.args.members.now) 0 (sym c.if-is_empty.ensures));
}

pub subtree-returns-in_default : goal.subtree-returns-in_default
subtree-returns-in_default t c = record {
  grown = IfOk-weaker _ _ _
      (λ node put. leaf_is_grown c.args.leaf_size c.args.word.now c.args.members.now c.args.leaves.now.items
      c.leaf_node.new.leaves.items (outline node) _ c.requires.some c.in_default.ensures.leaf refl put)
      c.leaf_node.ensures;
}

pub subtree-child_node-requires : goal.subtree-child_node-requires
subtree-child_node-requires t c =
    let word = c.args.word.now in
    let members = c.args.members.now in
    let j = c.in-Some.split.segment in
    let low = c.split_at_mut-low.result.0.now in
    let told = c.in-Some.ensures.split in
    let fewer = bits_left-child word j false told.used told.divisible in
    let is_low : low ≡ filter (goes_low word j) members
    = front_is _ _ _ low _ c.divide-count.ensures.divided c.divide-count.ensures.low c.split_at_mut-low.ensures.front in
    let both = both_children word j members low (filter (goes_high word j) members) is_low refl in (
      omega (arith, fewer, ap bits_left c.child-low_word.ensures, c.decreases),
      (
        child_segments word c.child-low_word.result members low (goes_low word j) j false
            is_low c.child-low_word.ensures c.requires.segments,
        (
          omega (arith, both, c.requires.room),
          omega (arith, both, c.requires.scratch, c.divide-count.auto.scratch),
        ),
      ),
    )

pub subtree-child_node-requires-2 : goal.subtree-child_node-requires-2
subtree-child_node-requires-2 t c =
    let word = c.args.word.now in
    let members = c.args.members.now in
    let j = c.in-Some.split.segment in
    let low = c.split_at_mut-low.result.0.now in
    let high = c.split_at_mut-low.result.1.now in
    let told = c.in-Some.ensures.split in
    let fewer = bits_left-child word j true told.used told.divisible in
    let is_low : low ≡ filter (goes_low word j) members
    = front_is _ _ _ low _ c.divide-count.ensures.divided c.divide-count.ensures.low c.split_at_mut-low.ensures.front in
    let is_high : high ≡ filter (goes_high word j) members
    = back_is _ _ _ high _ c.divide-count.ensures.divided c.divide-count.ensures.low c.split_at_mut-low.ensures.back in
    let both = both_children word j members low high is_low is_high in
    let few = grown_few c.args.leaf_size c.child-low_word.result low c.child_node.new.members c.args.leaves.now.items
    c.child_node.new.leaves.items (child_outline c.in_ok-low.low) c.in_ok-low.ensures.grown in (
      omega (arith, fewer, ap bits_left c.child-high_word.ensures, c.decreases),
      (
        child_segments word c.child-high_word.result members high (goes_high word j) j true
            is_high c.child-high_word.ensures c.requires.segments,
        (
          omega (arith, both, few, c.args.leaves.now.ok.0, c.child_node.new.leaves.ok.0, c.requires.room),
          omega (
            arith,
            both,
            c.requires.scratch,
            c.divide-count.auto.scratch,
            c.child_node.auto.scratch,
          ),
        ),
      ),
    )

pub subtree-returns : goal.subtree-returns
subtree-returns t c =
    let word = c.args.word.now in
    let members = c.args.members.now in
    let low = c.split_at_mut-low.result.0.now in
    let high = c.split_at_mut-low.result.1.now in
    let P : Tree ℕ → Type 0 = λ node.
    IsGrown (node_of c.args.leaf_size word members) c.args.leaves.now.items node
    c.child_node-2.new.leaves.items (c.child_node.new.members ++ c.child_node-2.new.members) in
    record {
      grown = subst P (sym c.split_node.ensures)
          (children_are_grown c.args.leaf_size word members c.in-Some.split.segment
          c.child-low_word.result c.child-high_word.result low high
          c.child_node.new.members c.child_node-2.new.members
          c.args.leaves.now.items c.child_node.new.leaves.items c.child_node-2.new.leaves.items
          (child_outline c.in_ok-low.low) (child_outline c.in_ok-high.high) c.in-Some.ensures.split
          c.child-low_word.ensures c.child-high_word.ensures
          (front_is _ _ _ low _ c.divide-count.ensures.divided c.divide-count.ensures.low c.split_at_mut-low.ensures.front)
          (back_is _ _ _ high _ c.divide-count.ensures.divided c.divide-count.ensures.low c.split_at_mut-low.ensures.back)
          c.in_ok-low.ensures.grown c.in_ok-high.ensures.grown);
    }
