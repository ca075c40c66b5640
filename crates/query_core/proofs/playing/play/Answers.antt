use Rattle.std.proofs.Common.{ap, arith, get_or, subst, sym, take, ◌<◌, ◌∙◌}
use Rattle.search_machine.specs.Ground.{Ground}
use Rattle.search_machine.specs.Machine.{played, turn}
use Rattle.query_core.specs.Teams.{StandsAt, searched}
use Rattle.query_core.proofs.TeamPlays.{names_more, no_stranger, played_more}
use Rattle.query_core.proofs.playing.play.Goals as goal

pub loop-at-preserved : goal.loop-at-preserved
loop-at-preserved g c =
    let was = c.loop-at.invariant in
    let many = ap (λ (h : Ground). h.workers) was.same in
    let named : get_or c.args.schedule.now c.loop-at.at 0 < (searched c.args.team.now).workers =
    let low = c.has.ensures.0 c.if-not-has.false in omega arith in
    record {
      same = c.turn.ensures.same ∙ was.same;
      names = names_more (searched c.args.team.now) c.args.schedule.now c.loop-at.at was.names named;
      stands =
          subst (StandsAt c.turn.new.self)
          (sym (played_more (searched c.args.team.now) c.args.schedule.now c.loop-at.at c.loop-at-test.true))
          (subst (λ (h : Ground). StandsAt c.turn.new.self (turn h (get_or c.args.schedule.now c.loop-at.at 0)
          (played (searched c.args.team.now) (take c.loop-at.at c.args.schedule.now)))) was.same
          (c.turn.ensures.turns (played (searched c.args.team.now) (take c.loop-at.at c.args.schedule.now))
          was.stands));
    }

pub returns-clause-none : goal.returns-clause-none
returns-clause-none g c =
    no_stranger (searched c.args.team.now) c.args.schedule.now c.loop-at.at c.loop-at.invariant.names
    (omega arith)
