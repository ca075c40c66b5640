use Rattle.std.proofs.Common.{ap, subst}
use Rattle.search_task.specs.Questions.{search_over}
use Rattle.query_core.specs.Working.{HoldsSeries, Working}
use Rattle.query_core.proofs.Different.{distinct_series}
use Rattle.query_core.proofs.worker.Worker.list.Goals as goal

pub returns-clause-series : goal.returns-clause-series
returns-clause-series g c =
    let inside = c.self.inside in
    let found = c.self.invariant.0.found in
    subst (λ (w : Working). HoldsSeries w.question w.list) c.self.view_is
    (record {
      ascending = found.ascending;
      known = λ p there. ((found.known p there).0, ap (λ q. q.distance) (found.known p there).1);
      different = distinct_series (search_over inside.search.question inside.search.index 1 inside.queues) inside.list.pairs
          found.ascending (λ p there. (found.known p there).1);
    })
