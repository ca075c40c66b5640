use Rattle.std.proofs.Common.{ap, arith, subst, sym, ℕ, ◌∙◌, ◌≡◌}
use Rattle.std.proofs.lemmas.Option.{slice_get_within}
use Rattle.std.specs.Prelude.{replicate}
use Rattle.search_machine.specs.Ground.{Ground}
use Rattle.search_machine.specs.Machine.{played, turn}
use Rattle.search_machine.specs.Outcome.{AllDone}
use Rattle.query_core.specs.Teams.{StandsAt, searched}
use Rattle.query_core.proofs.TeamPlays.{all_done, alone_done, alone_more}
use Rattle.query_core.proofs.alone.finish.Goals as goal

pub returns-in_default-clause-ends : goal.returns-in_default-clause-ends
returns-in_default-clause-ends g c =
    let was = c.loop-turns.invariant in
    record {
      turns = c.loop-turns._turns;
      stands = subst (λ (h : Ground). StandsAt c.loop-turns.team (played h (replicate c.loop-turns._turns 0)))
          (sym was.same) was.stands;
      all_done = subst (λ (h : Ground). AllDone (played h (replicate c.loop-turns._turns 0))) (sym was.same)
          (all_done c.loop-turns.team (played (searched c.args.team.now) (replicate c.loop-turns._turns 0))
          was.stands c.in_default.ensures);
    }

pub turn-requires : goal.turn-requires
turn-requires g c = record {
  place = slice_get_within c.loop-turns.team.workers c.in-Some.i c.in-Some.ensures.worker c.in-Some.ensures.there;
}

pub loop-turns-preserved : goal.loop-turns-preserved
loop-turns-preserved g c =
    let was = c.loop-turns.invariant in
    let many = ap (λ (h : Ground). h.workers) was.same in
    let alone = c.requires.alone in
    let low = slice_get_within c.loop-turns.team.workers c.in-Some.i c.in-Some.ensures.worker c.in-Some.ensures.there in
    let zero : c.in-Some.i ≡ 0 = omega arith in
    record {
      same = c.turn.ensures.same ∙ was.same;
      stands =
          subst (StandsAt c.turn.new.self) (sym (alone_more (searched c.args.team.now) c.loop-turns._turns))
          (subst (λ (i : ℕ). StandsAt c.turn.new.self (turn (searched c.args.team.now) i
          (played (searched c.args.team.now) (replicate c.loop-turns._turns 0)))) zero
          (subst (λ (h : Ground). StandsAt c.turn.new.self (turn h c.in-Some.i
          (played (searched c.args.team.now) (replicate c.loop-turns._turns 0)))) was.same
          (c.turn.ensures.turns (played (searched c.args.team.now) (replicate c.loop-turns._turns 0))
          was.stands)));
    }

pub returns-clause-ends : goal.returns-clause-ends
returns-clause-ends g c =
    let was = c.loop-turns.invariant in
    let enough = c.requires.enough in
    record {
      turns = c.loop-turns._turns;
      stands = subst (λ (h : Ground). StandsAt c.loop-turns.team (played h (replicate c.loop-turns._turns 0)))
          (sym was.same) was.stands;
      all_done = subst (λ (h : Ground). AllDone (played h (replicate c.loop-turns._turns 0))) (sym was.same)
          (alone_done (searched c.args.team.now) c.requires.fits c.requires.alone c.loop-turns._turns (omega arith));
    }
