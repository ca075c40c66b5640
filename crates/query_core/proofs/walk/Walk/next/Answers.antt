-- All leaves below a root child above the limit are passed over.
use Rattle.std.proofs.Common.{◌≡◌, ◌<◌, Some, ℕ, Option, IfSome, length, sym, ap, ◌∙◌, subst, arith}
use Rattle.subtree_build.specs.Index.{IndexParts}
use Rattle.subtree_build.specs.Outline.{leaf_numbers}
use Rattle.subtree_build.specs.Start.{node_at}
use Rattle.search_machine.specs.Workers.{skip, without}
use Rattle.search_task.specs.Questions.{leaf_bound}
use Rattle.query_core.specs.Walks.{Walked, leaves_between}
use Rattle.query_core.proofs.Advancing.{none_between, root_cut}
use Rattle.query_core.proofs.walk.Walk.next.Goals as goal

pub returns-clause-next : goal.returns-clause-next
returns-clause-next c g bounds =
    let inside = c.self.inside in
    let ix = inside.index.now in
    let kept = c.self.invariant in
    let i = c.in-Some.i in
    let root : inside.root ≡ Some i = sym c.take.ensures.value ∙ c.in-Some.is in
    let same : c.args.self.now.index ≡ ix = ap (λ (w : Walked). w.index) (sym c.self.view_is) in
    let R : Option ℕ → Type 0 = λ o. IfSome o (λ j. j < length ix.roots) in
    let B : Option ℕ → Type 0 = λ o.
    IfSome o (λ j. leaf_numbers (node_at ix j) ≡ leaves_between inside.next inside.end) in (
      ap (λ (w : Walked). skip g c.args.limit (without c.args.start w.leaves)) (sym c.self.view_is)
          ∙ root_cut c.args.view.now ix i g c.args.limit c.args.start (leaves_between inside.next inside.end)
          c.segments-segments.ensures.is_view kept.index (subst R root kept.root_real)
          (bounds ∙ ap (λ (x : IndexParts). leaf_bound c.args.view.now x) same)
          (omega (arith, c.if-root_bound-limit.true, c.root_bound.ensures)) (subst B root kept.below),
      none_between inside.end inside.end (omega arith),
    )
