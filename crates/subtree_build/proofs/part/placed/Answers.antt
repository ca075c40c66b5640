-- The next leaf lies behind those before it.
use Rattle.std.proofs.Common.{◌≡◌, ◌+◌, [], ◌∷◌, ◌++◌, take, sym, ap, ◌∙◌, zero-add, arith}
use Rattle.std.proofs.lemmas.List.{take_more}
use Rattle.list_totals.proofs.Totals.{total_append}
use Rattle.subtree_build.specs.declared.leaf.GrownLeaf.{GrownLeaf}
use Rattle.subtree_build.specs.Grown.{members_in}
use Rattle.subtree_build.specs.Places.{places_from}
use Rattle.subtree_build.proofs.Placed.{places_push, next_fits}
use Rattle.subtree_build.proofs.part.placed.Goals as goal

pub overflow_add-end : goal.overflow_add-end
overflow_add-end c =
    omega (
      arith,
      c.loop-leaf.invariant.1,
      next_fits c.args.leaves.now c.loop-leaf.leaf-index c.leaf-item.result
          (omega arith) c.leaf-item.is,
      c.requires,
    )

pub loop-leaf-preserved : goal.loop-leaf-preserved
loop-leaf-preserved c =
    let leaves = c.args.leaves.now in
    let i = c.loop-leaf.leaf-index in
    let leaf = c.leaf-item.result in
    let was = c.loop-leaf.invariant in
    let more : take (i + 1) leaves ≡ take i leaves ++ leaf ∷ []
    = take_more leaves i leaf (omega arith) ∙ ap (λ x. take i leaves ++ x ∷ []) (sym c.leaf-item.is) in (
      c.in_ok-push.ensures.items
          ∙ ap (λ ps. ps ++ record { word = leaf.word; first = c.loop-leaf.first; end = c.loop-leaf.first + leaf.count } ∷ []) was.0
          ∙ ap (λ n. places_from 0 (take i leaves) ++ record { word = leaf.word; first = n; end = n + leaf.count } ∷ [])
          (was.1 ∙ sym (zero-add (members_in (take i leaves))))
          ∙ sym (places_push 0 (take i leaves) leaf)
          ∙ ap (places_from 0) (sym more),
      omega (
        arith,
        was.1,
        ap members_in more,
        total_append (λ (x : GrownLeaf). x.count) (take i leaves) (leaf ∷ []),
      ),
    )
