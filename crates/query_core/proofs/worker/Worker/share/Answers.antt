-- The start leaf is of the first portion, where worker 0 begins.
use Rattle.std.proofs.Common.{◌≡◌, ◌%◌, ℕ, true, sym, subst}
use Rattle.query_core.specs.Portions.{AreLimits, StayAt}
use Rattle.search_task.specs.Questions.{search_over}
use Rattle.query_core.specs.Turning.{search_of}
use Rattle.query_core.specs.Working.{Shows, Working, opens_as}
use Rattle.query_core.proofs.Keeping.{keeps_sharing}
use Rattle.query_core.proofs.LimitsKept.{opened_stay}
use Rattle.query_core.proofs.worker.Worker.share.Goals as goal

pub invariant_of-self : goal.invariant_of-self
invariant_of-self g c =
    let inside = c.self.inside in
    let kept = c.self.invariant.0 in
    let back = sym c.self.view_is in
    let search = search_over inside.search.question inside.search.index 1 inside.queues in
    let shows = subst (λ (w : Working). Shows w (opens_as (search_of w 1) w.number)) back c.requires.opens in
    let home : c.args.limits.home ≡ inside.number % inside.queues
    = subst (λ (w : Working). c.args.limits.home ≡ w.number % w.queues) back c.requires.home.0 in (
      keeps_sharing inside.start inside.walk inside.list inside.stage _ true kept,
      (
        subst (λ (w : Working). AreLimits (search_of w 1) c.args.limits) back c.requires.limits,
        λ at_home.
            subst (λ (n : ℕ). StayAt search n inside.marks.items) (sym home)
            (opened_stay search inside.number _ shows kept.marks),
      ),
      c.self.invariant.2,
    )
