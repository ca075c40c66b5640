use Rattle.std.proofs.Common.{List, Some, ap, arith, length, map, subst, ◌∙◌, ◌≡◌}
use Rattle.std.proofs.lemmas.List.{length-map}
use Rattle.std.specs.Prelude.{slice_get}
use Rattle.std.specs.Result.{IfOk}
use Rattle.leaf_queues.specs.PlainQueue.{PlainQueue}
use Rattle.search_machine.specs.declared.outcome.Outcome.{Outcome}
use Rattle.search_machine.specs.declared.outcome.QueueLine.{QueueLine}
use Rattle.search_machine.specs.Machine.{State}
use Rattle.search_machine.specs.Outcome.{line_of, outcome}
use Rattle.query_core.specs.Teams.{StandsAt, TeamParts, searched}
use Rattle.query_core.specs.Working.{Working}
use Rattle.search_task.proofs.Openings.{start_same}
use Rattle.query_core.proofs.team.Team.ended.Goals as goal

pub conclude-requires-clause-start : goal.conclude-requires-clause-start
conclude-requires-clause-start g c =
    c.self.invariant.begins
    ∙ start_same c.self.inside.search.question c.self.inside.search.index (length c.self.inside.workers.items)
    c.self.inside.queues 1 1

pub conclude-requires-clause-over : goal.conclude-requires-clause-over
conclude-requires-clause-over g c = λ i w at.
    let place =
    c.self.invariant.places i w
    (subst (λ (ws : List Working). slice_get ws i ≡ Some w) c.deref.ensures.value at) in
    (place.question, place.index)

pub conclude-requires-clause-lines : goal.conclude-requires-clause-lines
conclude-requires-clause-lines g c =
    let few = c.queues.ensures.few in
    let queues = ap (λ (qs : List PlainQueue). length qs) c.queues.ensures.queues in
    let many = ap (λ (ls : List QueueLine). length ls) c.in_ok-lines.ensures in
    let same = length-map c.queues.result.now line_of in
    omega arith

pub returns : goal.returns
returns g c =
    subst (λ (t : TeamParts). (s : State) → StandsAt t s
    → IfOk c.conclude.result (λ (o : Outcome). o ≡ outcome (searched t) s)) c.self.view_is
    (λ s stands. c.conclude.ensures (length c.self.inside.workers.items) c.self.inside.queues s (record {
      workers = record {
        count = ap (λ (ws : List Working). length ws) c.deref.ensures.value ∙ stands.count;
        shows = λ i w m at there. stands.shows i w m
            (subst (λ (ws : List Working). slice_get ws i ≡ Some w) c.deref.ensures.value at) there;
      };
      lines = c.in_ok-lines.ensures ∙ ap (map line_of) (c.queues.ensures.queues ∙ stands.lines);
    }))
