use Rattle.std.proofs.Common.{arith, subst, sym}
use Rattle.search_machine.specs.Ground.{Fits}
use Rattle.search_task.proofs.OfIndex.{search_fits}
use Rattle.query_core.proofs.alone.finished.Goals as goal

pub finish-requires-clause-fits : goal.finish-requires-clause-fits
finish-requires-clause-fits g c =
    subst Fits (sym c.in_ok-team.ensures.searches)
    (search_fits c.args.search.question c.args.search.index 1 c.args.queues c.k-k.ensures.searched (omega arith) c.requires.queues.0)
