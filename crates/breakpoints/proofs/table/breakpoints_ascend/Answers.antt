-- The law is the lemma over two places.
use Rattle.breakpoints.proofs.Ascending.{breakpoint_ascends}
use Rattle.breakpoints.proofs.table.breakpoints_ascend.Goals as goal

pub returns : goal.returns
returns c = breakpoint_ascends _ _ _ c.requires.first c.requires.before c.requires.last
