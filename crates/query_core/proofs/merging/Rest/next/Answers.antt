-- Whichever list has the smaller first pair gives it.
use Rattle.std.proofs.Common.{sym, ◌∙◌}
use Rattle.query_core.proofs.NextPair.{left_next, ordered_rest, right_next}
use Rattle.query_core.proofs.merging.Rest.next.Goals as goal

pub returns-in_ok-pair-clause-ordered : goal.returns-in_ok-pair-clause-ordered
returns-in_ok-pair-clause-ordered c = (
  ordered_rest c.args.self.now.left.now c.in_ok-pair.pair.now c.in_ok-pair.left.now c.in_ok-pair.ensures.cases.0 c.requires.ordered.0,
  c.requires.ordered.1,
)

pub returns-in_ok-pair-clause-next : goal.returns-in_ok-pair-clause-next
returns-in_ok-pair-clause-next c =
    left_next c.args.self.now.left.now c.args.self.now.right.now c.in_ok-pair.pair.now c.in_ok-pair.left.now
    c.in_ok-pair.ensures.cases.0 c.requires.ordered (sym c.is_left_next.ensures ∙ c.if-is_left_next.true)

pub returns-in_ok-pair-2-clause-ordered : goal.returns-in_ok-pair-2-clause-ordered
returns-in_ok-pair-2-clause-ordered c = (
  c.requires.ordered.0,
  ordered_rest c.args.self.now.right.now c.in_ok-pair-2.pair.now c.in_ok-pair-2.right.now c.in_ok-pair-2.ensures.cases.0
      c.requires.ordered.1,
)

pub returns-in_ok-pair-2-clause-next : goal.returns-in_ok-pair-2-clause-next
returns-in_ok-pair-2-clause-next c =
    right_next c.args.self.now.left.now c.args.self.now.right.now c.in_ok-pair-2.pair.now c.in_ok-pair-2.right.now
    c.in_ok-pair-2.ensures.cases.0 c.requires.ordered (sym c.is_left_next.ensures ∙ c.if-is_left_next.false)
