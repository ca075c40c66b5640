-- Whether some searcher put a leaf.
use Rattle.std.proofs.Common.{arith}
use Rattle.live_query.proofs.Marks.{no_mark}
use Rattle.live_query.proofs.marked.was_put.Goals as goal

pub returns-clause-no : goal.returns-clause-no
returns-clause-no g c = λ _.
    no_mark c.args.team.now c.loop-searcher.searcher-index c.args.leaf (omega arith) c.loop-searcher.invariant
