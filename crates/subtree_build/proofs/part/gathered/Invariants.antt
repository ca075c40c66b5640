use Rattle.std.proofs.Common.{◌≡◌, ◌++◌}
use Rattle.subtree_build.proofs.part.gathered.Given as goal

abbrev pub invariant-loop-member : goal.invariant-loop-member
invariant-loop-member l = l.members.items ++ l.member-iterator ≡ l.initial.member-iterator
