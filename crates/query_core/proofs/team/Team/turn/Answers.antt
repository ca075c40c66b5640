-- The worker at the place is lent, and its turn is the machine's.
use Rattle.std.proofs.Common.{ap, set, subst, sym, ◌∙◌, ◌≡◌, ◌≢◌}
use Rattle.std.proofs.lemmas.Bool.{false≢true}
use Rattle.std.proofs.lemmas.Option.{same_Some}
use Rattle.search_machine.specs.declared.phase.Phase.TheVariants.{Done}
use Rattle.search_machine.specs.Machine.{State, turn}
use Rattle.query_core.specs.Working.{Working}
use Rattle.query_core.specs.Teams.{StandsAt, TeamParts, searched}
use Rattle.query_core.proofs.TeamTurns.{done_stands, floor_there, lent, roots_there, turn_keeps, turn_stands}
use Rattle.query_core.proofs.team.Team.turn.Goals as goal

pub returns-then-is_done-clause-turns : goal.returns-then-is_done-clause-turns
returns-then-is_done-clause-turns g c =
    let at = lent _ c.args.self.now c.args.i c.index.result.now c.self.view_is c.requires.place c.index.ensures in
    subst (λ (t : TeamParts). (s : State) → StandsAt t s
    → StandsAt t (turn (searched t) c.args.i s)) c.self.view_is
    (λ s stands. done_stands _ c.self.invariant c.args.i c.index.result.now at
    (c.is_done.ensures.0 c.if-is_done.true) s stands)

pub turn-requires-clause-floor : goal.turn-requires-clause-floor
turn-requires-clause-floor g c =
    floor_there _ c.self.invariant c.args.i c.index_mut.result.now
    (lent _ c.args.self.now c.args.i _ c.self.view_is c.requires.place c.index_mut.ensures.value)

pub turn-requires-clause-roots : goal.turn-requires-clause-roots
turn-requires-clause-roots g c =
    roots_there _ c.self.invariant c.args.i c.index_mut.result.now
    (lent _ c.args.self.now c.args.i _ c.self.view_is c.requires.place c.index_mut.ensures.value)

pub invariant_of-self : goal.invariant_of-self
invariant_of-self g c =
    turn_keeps _ c.self.invariant c.args.i c.index_mut.result.now
    (lent _ c.args.self.now c.args.i _ c.self.view_is c.requires.place c.index_mut.ensures.value)
    c.turn.new.hand c.turn.new.self c.turn.ensures.place c.turn.ensures.shares c.turn.ensures.hand

pub returns-clause-turns : goal.returns-clause-turns
returns-clause-turns g c =
    let at = lent _ c.args.self.now c.args.i c.index_mut.result.now c.self.view_is c.requires.place c.index_mut.ensures.value in
    let first = lent _ c.args.self.now c.args.i c.index.result.now c.self.view_is c.requires.place c.index.ensures in
    let same : c.index.result.now ≡ c.index_mut.result.now =
    same_Some c.index.result.now c.index_mut.result.now (sym first ∙ at) in
    let new : TeamParts = record {
      question = c.self.inside.search.question;
      index = c.self.inside.search.index;
      queues = c.self.inside.queues;
      start = c.self.inside.start;
      hand = c.turn.new.hand;
      workers = set c.self.inside.workers.items c.args.i c.turn.new.self;
    } in
    let running : c.index_mut.result.now.phase ≢ Done = λ e.
    absurd (false≢true (sym c.if-is_done.false
    ∙ c.is_done.ensures.1 (ap (λ (w : Working). w.phase) same ∙ e))) in
    subst (λ (t : TeamParts). (s : State) → StandsAt t s
    → StandsAt new (turn (searched t) c.args.i s)) c.self.view_is
    (λ s stands. turn_stands _ c.self.invariant c.args.i c.index_mut.result.now at
    c.turn.new.hand c.turn.new.self running c.turn.ensures.turns s stands)
