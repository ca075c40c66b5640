use Rattle.std.proofs.Common.{◌≡◌, ◌≤◌, ◌-◌, ap, ◌∙◌, subst, ℕ, arith}
use Rattle.series_core.specs.Order.{distance_at}
use Rattle.search_machine.specs.Ground.{worst}
use Rattle.search_task.specs.Questions.{last_of, search_over}
use Rattle.query_core.proofs.Found.{found_worst}
use Rattle.search_task.proofs.OfIndex.{last_is, search_fits}
use Rattle.query_core.proofs.worker.Worker.worst.Goals as goal

pub returns-clause-low : goal.returns-clause-low
returns-clause-low g c =
    let inside = c.self.inside in
    let kept = c.self.invariant.0 in
    let a = inside.search.question in
    let ix = inside.search.index in
    let low =
    found_worst (search_over a ix 1 inside.queues)
    (search_fits a ix 1 inside.queues kept.searched (omega arith) kept.some_queue) inside.marks.items
    inside.list.pairs kept.found in
    let last = last_is a ix 1 inside.queues kept.searched.question in
    let far : c.distance_of_worst.result ≡ worst (search_over a ix 1 inside.queues) inside.list.pairs =
    c.distance_of_worst.ensures ∙ ap (λ (n : ℕ). distance_at (n - 1) inside.list.pairs) kept.wanted in
    subst (λ w. last_of w.question ≤ c.distance_of_worst.result) c.self.view_is
    (omega (arith, low, last, far))
