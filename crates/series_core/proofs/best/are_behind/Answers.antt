use Rattle.std.proofs.Common.{arith}
use Rattle.series_core.proofs.Joining.{behind_all}
use Rattle.series_core.proofs.best.are_behind.Goals as goal

pub returns-else-is_empty : goal.returns-else-is_empty
returns-else-is_empty c e =
    behind_all c.args.others.now c.args.pairs.now _ _ c.requires.others (omega arith) (c.is_behind.ensures.yes e)
