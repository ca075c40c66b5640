-- Root child by root child the text is written.
use Rattle.std.proofs.Common.{◌≡◌, ℕ, ◌<◌, List, [], ◌++◌, length, map, get_or, drop, sym, ap, ◌∙◌, arith, append-nil}
use Rattle.std.proofs.lemmas.List.{drop_all}
use Rattle.std.proofs.lemmas.Option.{same_Some, slice_get-get_or}
use Rattle.subtree_build.specs.declared.node.Node.{Node}
use Rattle.subtree_build.specs.Outline.{outline}
use Rattle.subtree_build.specs.Tree.{Tree}
use Rattle.saved_index.specs.IndexText.{filled, saved_of}
use Rattle.saved_index.specs.Saved.{node_text, roots_text, text}
use Rattle.saved_index.proofs.Saves.{few_saved, one_root_saved, saved_is_sound}
use Rattle.saved_index.proofs.saving.save.Goals as goal

pub put_node-requires-clause-few : goal.put_node-requires-clause-few
put_node-requires-clause-few c = λ k d inside.
    few_saved c.args.count (get_or c.args.index.now.leaves k d) c.requires.count_limit (c.requires.leaves k d inside)

pub loop-i-preserved : goal.loop-i-preserved
loop-i-preserved c =
    let ix = c.args.index.now in
    let f : Node → Tree (List ℕ) = λ node. filled ix.leaves (outline node) in
    let i = c.loop-i.i in
    let node = c.root.result.now in
    let old = c.loop-i.bytes.items in
    let low : i < length ix.roots = omega arith in
    let inside : i < length ix.nodes = omega (arith, c.root_count.ensures.is_index.one_node_each) in
    one_root_saved f ix.roots ix.nodes i c.root_number.result node (text (saved_of c.args.settings.now c.args.count ix)) old
    c.put_node.new.bytes.items low inside c.root_number.ensures.value
    (sym (same_Some _ node (sym (slice_get-get_or ix.nodes i node inside) ∙ c.root.ensures)))
    (c.in_ok-put_node.ensures ∙ ap (λ (bs : List ℕ). bs ++ node_text (f node))
    (c.in_ok-extend_from_slice.ensures.items ∙ ap (λ (bs : List ℕ). old ++ bs) c.to_le_bytes.ensures))
    c.loop-i.invariant

pub returns : goal.returns
returns c =
    let ix = c.args.index.now in
    let bytes = c.loop-i.bytes.items in
    let f : Node → Tree (List ℕ) = λ node. filled ix.leaves (outline node) in
    let end : drop c.loop-i.i ix.roots ≡ [] = drop_all c.loop-i.i ix.roots (omega arith) in
    record {
      sound = saved_is_sound c.args.settings.now c.args.count ix c.segments-segments.ensures.divides
          c.root_count.ensures.is_index c.requires;
      spelled = sym (append-nil bytes)
          ∙ ap (λ (rs : List ℕ). bytes ++ roots_text rs (map f (drop c.loop-i.i ix.nodes))) (sym end) ∙ c.loop-i.invariant;
    }
