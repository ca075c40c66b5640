-- Members that each stand above the one before ascend.
use Rattle.std.proofs.Common.{arith}
use Rattle.std.proofs.lemmas.Bool.{false≢true}
use Rattle.std.proofs.lemmas.Bool.Decides.{nat_tests}
use Rattle.saved_index.proofs.Ascents.{ascend_told, not_ascending}
use Rattle.saved_index.proofs.savable.are_saved.Goals as goal

pub returns-then-members-i-2 : goal.returns-then-members-i-2
returns-then-members-i-2 c = (
  λ yes. absurd (false≢true yes),
  λ are. absurd (not_ascending c.args.members.now c.loop-i.i c.index-members-i-then-i-gt0.result
      c.index-members-i-then-i-gt0-2.result c.if-i-gt0.true c.loop-i-test.true c.if-members-i-2.true are.ascend),
)

pub returns : goal.returns
returns c = (
  λ yes. record {
    some = grind (arith, nat_tests);
    ascend = ascend_told c.args.members.now c.loop-i.i (omega arith) c.loop-i.invariant.ascend;
    below = λ k d inside. c.loop-i.invariant.below k d (omega (arith, inside));
  },
  λ are. let some = are.some in grind (arith, nat_tests),
)
