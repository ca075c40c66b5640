-- One leaf more stands behind the others.
use Rattle.std.proofs.Common.{List, ◌∷◌, [], ◌++◌, get_or, ap, ◌∙◌, arith}
use Rattle.std.proofs.lemmas.List.{get_or_default}
use Rattle.subtree_build.specs.declared.leaf.GrownLeaf.{GrownLeaf}
use Rattle.subtree_build.specs.Grown.{grown_leaf}
use Rattle.subtree_build.proofs.LeafSteps.{counted_step}
use Rattle.subtree_build.proofs.leaf_row.counted_leaves.Goals as goal

pub loop-i-preserved : goal.loop-i-preserved
loop-i-preserved c =
    let word = c.index-words-i.result in
    let count = get_or c.args.counts.now c.loop-i.i 0 in
    c.in_ok-push.ensures.items
    ∙ ap (λ (ls : List GrownLeaf). ls ++ grown_leaf word count ∷ []) c.loop-i.invariant
    ∙ counted_step c.args.words.now c.args.counts.now c.loop-i.i word count (omega (arith, c.requires)) c.loop-i-test.true
    c.index-words-i.is
    (get_or_default c.args.counts.now c.loop-i.i 0 count (omega (arith, c.loop-i-test.true)))
