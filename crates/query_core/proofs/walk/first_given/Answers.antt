-- The next leaf is passed over, or is the first that is given.
use Rattle.std.proofs.Common.{◌∙◌, arith}
use Rattle.search_task.specs.Questions.{leaf_bound}
use Rattle.query_core.proofs.Advancing.{nothing_left, given_first, passed_over}
use Rattle.query_core.proofs.walk.first_given.Goals as goal

pub returns-then-is_some-clause-next : goal.returns-then-is_some-clause-next
returns-then-is_some-clause-next c g bounds =
    given_first g (leaf_bound c.args.view.now c.args.index.now) bounds c.args.limit c.args.start c.loop-leaf.leaf
    c.args.leaves.end c.loop-leaf-test.true c.args.leaves.start c.given-entry.result c.if-is_some.ensures
    c.given-entry.ensures (c.loop-leaf.invariant.1 g bounds)

pub loop-leaf-preserved : goal.loop-leaf-preserved
loop-leaf-preserved c = (
  omega (arith, c.loop-leaf.invariant.0),
  λ g bounds. c.loop-leaf.invariant.1 g bounds
      ∙ passed_over g (leaf_bound c.args.view.now c.args.index.now) bounds c.args.limit c.args.start c.loop-leaf.leaf
      c.args.leaves.end c.loop-leaf-test.true c.given-entry.result c.if-is_some.ensures c.given-entry.ensures,
)

pub returns-clause-next : goal.returns-clause-next
returns-clause-next c g bounds =
    c.loop-leaf.invariant.1 g bounds
    ∙ nothing_left g c.args.limit c.args.start c.loop-leaf.leaf c.args.leaves.end c.loop-leaf-test.false
