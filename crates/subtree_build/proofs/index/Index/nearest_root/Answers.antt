-- The nearest root child of all is the one of least bound.
use Rattle.std.proofs.Common.{◌≡◌, ◌<◌, ◌≤◌, sym, subst, ℕ, length, arith}
use Rattle.subtree_build.specs.Start.{root_bound}
use Rattle.subtree_build.proofs.Nearest.{IsLeastOf, least_stays, least_moves, nearest_is, least_first}
use Rattle.subtree_build.proofs.index.Index.nearest_root.Goals as goal
use Rattle.subtree_build.proofs.index.Index.nearest_root.Goals.{then-bound-least, else-bound-least}

pub returns-clause-value : goal.returns-clause-value
returns-clause-value c =
    let view = c.args.view.now in
    let ix = c.args.self.now in
    let end : c.loop-i.i ≡ length ix.roots = omega arith in
    let P : ℕ → Type 0 = λ n. IsLeastOf view ix n c.loop-i.nearest in
    sym (nearest_is view ix c.loop-i.nearest (subst P end c.loop-i.invariant.1))

pub loop-i-init : goal.loop-i-init
loop-i-init c = (c.root_bound-least.ensures, least_first c.args.view.now c.args.self.now)

pub loop-i-preserved : goal.loop-i-preserved
loop-i-preserved c =
    let view = c.args.view.now in
    let ix = c.args.self.now in
    let was = c.loop-i.invariant in
    let bound : c.root_bound-bound.result ≡ root_bound view ix c.loop-i.i = c.root_bound-bound.ensures in
    elim c.if-bound-least.branch [
      | then-bound-least w ↦
          let less : root_bound view ix c.loop-i.i < root_bound view ix c.loop-i.nearest
          = omega (arith, was.0, bound, w.if-bound-least.true) in
          rw (w.nearest-is, w.least-is) (bound, least_moves view ix c.loop-i.i c.loop-i.nearest was.1 less)
      | else-bound-least w ↦
          let no_less : root_bound view ix c.loop-i.nearest ≤ root_bound view ix c.loop-i.i
          = omega (arith, was.0, bound, w.if-bound-least.false) in
          rw (w.nearest-is, w.least-is) (was.0, least_stays view ix c.loop-i.i c.loop-i.nearest was.1 no_less)
    ]
