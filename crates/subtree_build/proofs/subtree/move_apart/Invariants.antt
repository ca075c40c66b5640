-- The members so far are divided: those that wait stand in front of the scratch.
use Rattle.std.proofs.Common.{◌≡◌, ◌+◌, take}
use Rattle.subtree_build.specs.Splitting.{goes_high}
use Rattle.subtree_build.proofs.Dividing.{IsDivided}
use Rattle.subtree_build.proofs.subtree.move_apart.Given as goal

abbrev pub invariant-loop-i : goal.invariant-loop-i
invariant-loop-i l =
    IsDivided (goes_high l.word l.segment) l.fn.members l.members (take l.high l.scratch) l.low l.i
    × (l.low + l.high ≡ l.i)
