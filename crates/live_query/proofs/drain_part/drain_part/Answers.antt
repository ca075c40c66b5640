-- What the searchers are before the drain part, and what the closed runs say after it.
use Rattle.std.proofs.Common.{◌≡◌, All, List, [], ap, arith, length, subst, sym, ◌∙◌}
use Rattle.sealed_runs.specs.Entries.{run_at}
use Rattle.sealed_runs.specs.Sealing.{fresh_visits}
use Rattle.sealed_runs.specs.Visits.{IsPass, Visit}
use Rattle.search_task.specs.Questions.{view_in}
use Rattle.live_query.specs.Marked.{IsRunOf}
use Rattle.live_query.specs.Parts.{Draining, Resting, marks_of}
use Rattle.live_query.specs.SealedQueues.{IsFresh, IsFreshPass, SameRuns, SealedAgrees, SealedKept, run_count}
use Rattle.live_query.proofs.DrainGather.{Outset, Worked, as_many, all_over, all_ready, all_still}
use Rattle.live_query.proofs.SealedClose.{fresh_agrees, sealed_right}
use Rattle.live_query.proofs.Openers.{all_replicate}
use Rattle.live_query.proofs.Places.{all_at, all_from}
use Rattle.live_query.proofs.PutsKept.{filled_over_view, filled_word}
use Rattle.live_query.proofs.drain_part.drain_part.Given as given
use Rattle.live_query.proofs.drain_part.drain_part.Goals as goal
use Rattle.live_query.proofs.drain_part.drain_part.Goals.{After-drain_together, In_ok-team}

pub seal_marked-requires-clause-over : goal.seal_marked-requires-clause-over
seal_marked-requires-clause-over g c = filled_over_view c.requires.filled c.deref.ensures.value

pub equip-requires-clause-word : goal.equip-requires-clause-word
equip-requires-clause-word g c = filled_word c.requires.filled

pub equip-requires-clause-passes : goal.equip-requires-clause-passes
equip-requires-clause-passes g c =
    let runs = c.in_ok-runs.runs.runs in
    let passes = c.in_ok-runs.passes.items in
    let fresh = all_replicate (length c.deref.result.now) (fresh_visits runs) passes c.in_ok-runs.ensures.passes in
    all_from (IsFreshPass runs) passes (λ i p at. (
      all_at (λ (p : List Visit). p ≡ fresh_visits runs) passes i p fresh at,
      all_at (IsPass runs) passes i p c.in_ok-runs.ensures.own at,
    ))

-- each searcher has its hand, with fresh visits of a run for each queue
outset : (g : given.Over) (c : In_ok-team g)
    → Outset run_count SealedAgrees (IsFresh c.in_ok-runs.runs.runs) c.args.plan.now.search.question c.args.plan.now.search.index
    c.args.plan.now.queues c.args.word.now c.args.team.items c.from-roots.result c.in_ok-team.team.items
outset g c = record {
  filled = c.requires.filled;
  all_roots = omega (arith, c.from-roots.ensures, c.root_count.ensures.count);
  equipped = c.in_ok-team.ensures;
  counts = λ i q new. ap run_count new ∙ c.in_ok-runs.ensures.count;
  agrees = λ i q new. subst (λ (q : SealedKept). SealedAgrees q []) (sym new) (fresh_agrees c.in_ok-runs.runs.runs);
}

pub drain_together-requires-clause-ready : goal.drain_together-requires-clause-ready
drain_together-requires-clause-ready g c κs within =
    all_ready (outset g (goal.at.drain_together-requires-clause-ready g c).In_ok-team)

-- the searchers have drained
worked : (g : given.Over) (c : After-drain_together g)
    → Worked SameRuns SealedAgrees c.in_ok-team.team.items c.drain_together.new.team.items
worked g c = record {
  count = omega (arith, c.drain_together.ensures.len, c.drain_together.new.team.ok.0, c.in_ok-team.team.ok.0);
  on = c.drain_together.ensures.goes_on;
}

-- their runs are these
still : (g : given.Over) (c : After-drain_together g)
    → All (λ (d : Draining). d.hand.queues.runs ≡ c.in_ok-runs.runs.runs) c.drain_together.new.team.items
still g c =
    all_still (outset g (goal.at.After-drain_together g c).In_ok-team) (worked g c) (λ (q : SealedKept). q.runs ≡ c.in_ok-runs.runs.runs)
    (λ i q k new same. same.runs ∙ ap (λ (q : SealedKept). q.runs) new)

pub close-requires-clause-own : goal.close-requires-clause-own
close-requires-clause-own g c =
    let at = goal.at.close-requires-clause-own g c in
    c.in_ok-workers.ensures.own c.in_ok-runs.runs.runs (still g at.After-drain_together)

pub returns-clause-drained : goal.returns-clause-drained
returns-clause-drained g c =
    let at = goal.at.returns-clause-drained g c in
    let outset = outset g at.In_ok-team in
    let worked = worked g at.After-drain_together in
    let workers = c.in_ok-workers.workers.items in
    let many = as_many outset worked workers c.in_ok-workers.ensures.workers in
    record {
      over = all_over outset worked workers c.in_ok-workers.ensures.workers;
      ends = sealed_right outset worked (length workers) (record {
        some_worker = omega (arith, many, c.requires.team.0);
        as_many = many;
        done = c.drain_together.ensures.done;
      })
          c.in_ok-runs.ensures.count
          (λ j low. subst (λ (t : List Resting). IsRunOf (view_in c.args.plan.now.search.question) c.args.plan.now.search.index
          (marks_of t) c.args.plan.now.queues j (run_at c.in_ok-runs.runs.runs j).entries) c.deref.ensures.value
          (c.in_ok-runs.ensures.runs j low)) c.in_ok-workers.passes.items c.in_ok-workers.ensures.passes
          (c.in_ok-workers.ensures.own c.in_ok-runs.runs.runs (still g at.After-drain_together))
          c.close.result c.close.ensures workers c.in_ok-lines.lines c.in_ok-workers.ensures.workers c.in_ok-lines.ensures;
    }
