-- The children of a split stand behind its two bytes.
use Rattle.std.proofs.Common.{◌≡◌, ℕ, ◌++◌, sym, ap, ◌∙◌}
use Rattle.subtree_build.specs.declared.node.Node.{Node}
use Rattle.subtree_build.specs.Outline.{outline, child_outline}
use Rattle.subtree_build.specs.Tree.{Tree, absent, split}
use Rattle.subtree_build.proofs.Outlines.{outline_of_split}
use Rattle.std.proofs.lemmas.Result.{on_ok_weaker}
use Rattle.saved_index.specs.IndexText.{filled}
use Rattle.saved_index.specs.Saved.{node_text}
use Rattle.saved_index.proofs.Saves.{both_text, high_text}
use Rattle.saved_index.proofs.saving.+put_node.Goals as goal

pub returns-in_ok-put_node-in-Some-Some : goal.returns-in_ok-put_node-in-Some-Some
returns-in_ok-put_node-in-Some-Some t c =
    let leaves = c.args.index.now.leaves in
    let j = c.in-Split.segment in
    let low = c.in-Some-Some.low.value in
    let high = c.in-Some-Some.high.value in
    let o : outline c.args.node.now ≡ split j (outline low) (outline high)
    = ap outline c.in-Split.is ∙ outline_of_split j c.in-Split.low c.in-Split.high
    ∙ ap (λ x. split j (child_outline x) (child_outline c.in-Split.high)) c.in-Some-Some.is-0
    ∙ ap (λ x. split j (outline low) (child_outline x)) c.in-Some-Some.is-1 in
    on_ok_weaker c.put_node-in-Some-Some.result
    (λ (put : c.put_node-in-Some-Some.new.bytes.items
    ≡ c.put_node.new.bytes.items ++ node_text (filled leaves (outline c.deref-in-Some-Some.result.now))).
    both_text leaves j low high c.args.bytes.now.items c.put_split.new.bytes.items
    c.put_node.new.bytes.items c.put_node-in-Some-Some.new.bytes.items c.in_ok-put_split-in-Some-Some.ensures
    (c.in_ok-put_node-in-Some-Some.ensures
    ∙ ap (λ (n : Node). c.put_split.new.bytes.items ++ node_text (filled leaves (outline n))) c.deref.ensures)
    (put ∙ ap (λ (n : Node). c.put_node.new.bytes.items ++ node_text (filled leaves (outline n))) c.deref-in-Some-Some.ensures)
    ∙ ap (λ (u : Tree ℕ). c.args.bytes.now.items ++ node_text (filled leaves u)) (sym o))
    c.put_node-in-Some-Some.ensures

pub returns-in_ok-put_split-in-None-Some : goal.returns-in_ok-put_split-in-None-Some
returns-in_ok-put_split-in-None-Some t c =
    let leaves = c.args.index.now.leaves in
    let j = c.in-Split.segment in
    let high = c.in-None-Some.high.value in
    let o : outline c.args.node.now ≡ split j absent (outline high)
    = ap outline c.in-Split.is ∙ outline_of_split j c.in-Split.low c.in-Split.high
    ∙ ap (λ x. split j (child_outline x) (child_outline c.in-Split.high)) c.in-None-Some.is-0
    ∙ ap (λ x. split j absent (child_outline x)) c.in-None-Some.is-1 in
    on_ok_weaker c.put_node-in-None-Some.result
    (λ (put : c.put_node-in-None-Some.new.bytes.items
    ≡ c.put_split-in-None-Some.new.bytes.items ++ node_text (filled leaves (outline c.deref-in-None-Some.result.now))).
    high_text leaves j high c.args.bytes.now.items c.put_split-in-None-Some.new.bytes.items
    c.put_node-in-None-Some.new.bytes.items c.in_ok-put_split-in-None-Some.ensures
    (put ∙ ap (λ (n : Node). c.put_split-in-None-Some.new.bytes.items ++ node_text (filled leaves (outline n))) c.deref-in-None-Some.ensures)
    ∙ ap (λ (u : Tree ℕ). c.args.bytes.now.items ++ node_text (filled leaves u)) (sym o))
    c.put_node-in-None-Some.ensures
