-- What is read is no less than the last distance.
use Rattle.std.proofs.Common.{◌≤◌, ap, ◌∙◌, subst, arith}
use Rattle.search_task.specs.Questions.{last_of, search_over}
use Rattle.std.specs.Option.{is_some}
use Rattle.search_machine.specs.Workers.{without}
use Rattle.search_machine.specs.Ground.{Fits}
use Rattle.query_core.specs.Portions.{IfRead}
use Rattle.query_core.specs.Working.{Working, phase_of, working}
use Rattle.query_core.proofs.Keeping.{keeps_sharing, working_fits}
use Rattle.search_task.proofs.OfIndex.{last_is}
use Rattle.query_core.proofs.LimitsKept.{keeps_read, kept_limits, read_low, read_none, read_some}
use Rattle.query_core.proofs.worker.Worker.most.Given as given
use Rattle.query_core.proofs.worker.Worker.most.Goals as goal
use Rattle.query_core.proofs.worker.Worker.most.Goals.{After-most_of}

pub most_of-requires : goal.most_of-requires
most_of-requires g c =
    let inside = c.self.inside in
    let search = search_over inside.search.question inside.search.index 1 inside.queues in
    record { limits = (search, kept_limits search inside.marks.items inside.limits c.self.invariant.1) }

-- what the worker searches is a search, of which this is read
read : (g : given.Over) (c : After-most_of g)
    → let inside = c.self.inside in
    let search = search_over inside.search.question inside.search.index 1 inside.queues in
    Fits search × IfRead search inside.limits c.most_of.new.limits c.most_of.result
read g c =
    let inside = c.self.inside in
    let search = search_over inside.search.question inside.search.index 1 inside.queues in
    (working_fits c.self.invariant.0, c.most_of.ensures.read search (kept_limits search inside.marks.items inside.limits c.self.invariant.1))

pub invariant_of-self : goal.invariant_of-self
invariant_of-self g c =
    let inside = c.self.inside in
    let keeps = c.self.invariant.1 in
    let told = read g (goal.at.invariant_of-self g c).After-most_of in (
      keeps_sharing inside.start inside.walk inside.list inside.stage _ (is_some c.most_of.new.limits) c.self.invariant.0,
      keeps_read _ told.0 inside.marks.items inside.limits c.most_of.new.limits c.most_of.result keeps told.1,
      c.self.invariant.2,
    )

pub returns-clause-low : goal.returns-clause-low
returns-clause-low g c =
    let inside = c.self.inside in
    let told = read g (goal.at.returns-clause-low g c).After-most_of in
    let low = read_low _ told.0 inside.limits c.most_of.new.limits c.most_of.result told.1 in
    let last = last_is inside.search.question inside.search.index 1 inside.queues c.self.invariant.0.searched.question in
    subst (λ (w : Working). last_of w.question ≤ c.most_of.result) c.self.view_is (omega (arith, low, last))

pub returns-clause-same : goal.returns-clause-same
returns-clause-same g c =
    let inside = c.self.inside in
    let told = read g (goal.at.returns-clause-same g c).After-most_of in
    ap (working inside.search.question inside.search.index inside.number inside.queues (phase_of inside.stage)
    (without inside.start inside.walk.leaves) inside.list.pairs inside.marks.items)
    (read_some _ told.0 inside.limits c.most_of.new.limits c.most_of.result told.1)
    ∙ c.self.view_is

pub returns-clause-none : goal.returns-clause-none
returns-clause-none g c alone =
    let told = read g (goal.at.returns-clause-none g c).After-most_of in
    read_none _ told.0 c.self.inside.limits c.most_of.new.limits c.most_of.result (ap (λ (w : Working). w.shares) c.self.view_is ∙ alone) told.1
