-- Below a root child above the radius nothing is near; else what is near in one leaf more is found.
use Rattle.std.proofs.Common.{◌++◌, List, sym, ap, ◌∙◌, append-nil, arith}
use Rattle.series_core.specs.declared.pair.Pair.{Pair}
use Rattle.range_query.specs.Near.{near_leaf}
use Rattle.range_query.specs.Searches.{asked_of}
use Rattle.range_query.proofs.Cutting.{far_root}
use Rattle.range_query.proofs.Drawing.{next_done}
use Rattle.range_query.proofs.walk.RadiusSearch.walk.Goals as goal

pub returns-then-root_bound-self : goal.returns-then-root_bound-self
returns-then-root_bound-self g c =
    let found = c.args.found.now.items in
    sym (append-nil found)
    ∙ ap (λ (l : List Pair). found ++ l) (sym (far_root _ _ _ c.requires.ready.0 c.args.i c.requires.root (omega arith)))

pub loop-leaf-preserved : goal.loop-leaf-preserved
loop-leaf-preserved g c =
    let was = c.loop-leaf.invariant in (
      omega (arith, was.0),
      next_done (near_leaf (asked_of g.R.Rows.collection c.args.self.now) c.args.self.now.index.now.leaves)
          _ c.loop-leaf.leaf c.args.found.now.items c.loop-leaf.found.items c.scan.new.found.items was.0 was.1
          c.in_ok-scan.ensures,
    )
