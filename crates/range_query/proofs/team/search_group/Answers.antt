-- What is near below one root child more is found.
use Rattle.std.proofs.Common.{arith}
use Rattle.range_query.specs.Near.{near_root}
use Rattle.range_query.specs.Searches.{asked_of}
use Rattle.range_query.proofs.Drawing.{next_done}
use Rattle.range_query.proofs.team.search_group.Goals as goal

pub loop-i-preserved : goal.loop-i-preserved
loop-i-preserved g c =
    let was = c.loop-i.invariant in (
      omega (arith, was.0),
      next_done (near_root (asked_of g.R.Rows.collection c.args.search.now) c.args.search.now.index.now)
          _ c.loop-i.i c.args.found.now.items c.loop-i.found.items c.walk.new.found.items was.0 was.1
          c.in_ok-walk.ensures,
    )
