-- The leaves are numbered on from node to node.
use Rattle.std.proofs.Common.{◌≡◌, ℕ, List, [], ◌++◌, length, drop, ap, sym, refl, ◌∙◌, arith, append-nil}
use Rattle.std.specs.Prelude.{flat_map}
use Rattle.std.specs.List.{range_with_len}
use Rattle.std.proofs.lemmas.Bool.{false≢true, eqb-true, eq-eqb}
use Rattle.std.proofs.lemmas.List.{drop_all}
use Rattle.std.proofs.lemmas.List.FromFn.{length-range_with_len}
use Rattle.subtree_build.specs.declared.node.Node.{Node}
use Rattle.subtree_build.specs.Outline.{leaf_numbers}
use Rattle.subtree_build.proofs.Numbering.{node_is_numbered, one_node_more}
use Rattle.subtree_build.proofs.assembly.are_in_order.Goals as goal

pub returns-in-None : goal.returns-in-None
returns-in-None c = (
  λ yes. absurd (false≢true yes),
  λ all. absurd (false≢true (c.in-None.ensures.numbered.1
      (node_is_numbered c.args.nodes.now c.loop-node.node-index c.loop-node.next c.args.leaves c.node-item.result
      c.loop-node-test.true c.node-item.is c.loop-node.invariant.0 all))),
)

pub loop-node-preserved : goal.loop-node-preserved
loop-node-preserved c =
    let are = c.in-Some.ensures.numbered.0 refl in (
      one_node_more c.args.nodes.now c.loop-node.node-index c.loop-node.next c.in-Some.number c.args.leaves c.node-item.result
          c.loop-node-test.true c.node-item.is c.loop-node.invariant.0 are c.in-Some.ensures.next,
      omega (arith, are.inside, c.in-Some.ensures.next),
    )

pub returns : goal.returns
returns c =
    let nodes = c.args.nodes.now in
    let next = c.loop-node.next in
    let end : drop c.loop-node.node-index nodes ≡ [] = drop_all c.loop-node.node-index nodes (omega arith) in
    let all : flat_map leaf_numbers nodes ≡ range_with_len 0 next
    = c.loop-node.invariant.0.told
    ∙ ap (λ (ns : List Node). range_with_len 0 next ++ flat_map leaf_numbers ns) end
    ∙ append-nil (range_with_len 0 next) in (
      λ same. all ∙ ap (range_with_len 0) (eqb-true next c.args.leaves same),
      λ told. eq-eqb next c.args.leaves (sym (length-range_with_len 0 next) ∙ ap (λ (ls : List ℕ). length ls) (sym all ∙ told)
          ∙ length-range_with_len 0 c.args.leaves),
    )
