use Rattle.std.proofs.Common.{subst, sym, ◌∙◌, ◌≡◌}
use Rattle.search_machine.specs.Ground.{Fits, Ground}
use Rattle.search_machine.specs.Legal.{Legal}
use Rattle.search_machine.specs.Machine.{played}
use Rattle.search_machine.specs.Outcome.{outcome}
use Rattle.search_task.specs.Questions.{search_over}
use Rattle.search_task.proofs.OfIndex.{answer_is, search_fits}
use Rattle.search_task.proofs.Searching.{ground_same}
use Rattle.query_core.specs.Replays.{FirstUnfinished, NoStranger}
use Rattle.query_core.specs.Teams.{StandsAt, searched}
use Rattle.search_machine.proofs.Ending.{ending_legal}
use Rattle.search_machine.proofs.Schedules.{enough_done, played_sound}
use Rattle.query_core.proofs.TeamPlays.{all_done, first_unfinished}
use Rattle.query_core.proofs.playing.replay.Goals as goal

pub returns-in-Some-first_busy-clause-refused : goal.returns-in-Some-first_busy-clause-refused
returns-in-Some-first_busy-clause-refused g c = (
  subst (λ (h : Ground). NoStranger h c.args.schedule.now)
      (c.in-Ok.ensures.searches ∙ ground_same _ _ c.args.workers c.args.queues c.new-search.ensures.search) c.in_default-play.ensures.none,
  first_unfinished (search_over c.args.task.now c.args.index.now c.args.workers c.args.queues) c.args.schedule.now
      c.play.new.team
      (subst (λ (h : Ground). StandsAt c.play.new.team (played h c.args.schedule.now))
      (c.in-Ok.ensures.searches ∙ ground_same _ _ c.args.workers c.args.queues c.new-search.ensures.search)
      c.in_default-play.ensures.played) c.in-Some-first_busy.i c.in-Some-first_busy.ensures,
)

pub returns-in-Some-first_busy-clause-enough : goal.returns-in-Some-first_busy-clause-enough
returns-in-Some-first_busy-clause-enough g c = λ names i e.
    let s : Ground = search_over c.args.task.now c.args.index.now c.args.workers c.args.queues in
    let fits : Fits (search_over c.args.task.now c.args.index.now c.args.workers c.args.queues) =
    search_fits c.args.task.now c.args.index.now c.args.workers c.args.queues c.new-search.ensures.searched
    c.requires.workers.0 c.requires.queues.0 in
    let busy : FirstUnfinished (search_over c.args.task.now c.args.index.now c.args.workers c.args.queues)
    c.args.schedule.now c.in-Some-first_busy.i =
    first_unfinished (search_over c.args.task.now c.args.index.now c.args.workers c.args.queues)
    c.args.schedule.now c.play.new.team
    (subst (λ (h : Ground). StandsAt c.play.new.team (played h c.args.schedule.now))
    (c.in-Ok.ensures.searches ∙ ground_same _ _ c.args.workers c.args.queues c.new-search.ensures.search)
    c.in_default-play.ensures.played) c.in-Some-first_busy.i c.in-Some-first_busy.ensures in
    busy.not_done (enough_done (search_over c.args.task.now c.args.index.now c.args.workers c.args.queues) fits
    c.args.schedule.now names c.in-Some-first_busy.i busy.worker busy.there)

pub returns-in-Ok-ended-clause-played : goal.returns-in-Ok-ended-clause-played
returns-in-Ok-ended-clause-played g c = record {
  no_stranger = subst (λ (h : Ground). NoStranger h c.args.schedule.now)
      (c.in-Ok.ensures.searches ∙ ground_same _ _ c.args.workers c.args.queues c.new-search.ensures.search)
      c.in_default-play.ensures.none;
  all_done = all_done c.play.new.team
      (played (search_over c.args.task.now c.args.index.now c.args.workers c.args.queues) c.args.schedule.now)
      (subst (λ (h : Ground). StandsAt c.play.new.team (played h c.args.schedule.now))
      (c.in-Ok.ensures.searches ∙ ground_same _ _ c.args.workers c.args.queues c.new-search.ensures.search)
      c.in_default-play.ensures.played) c.in_default-first_busy.ensures;
}

pub returns-in-Ok-ended-clause-outcome : goal.returns-in-Ok-ended-clause-outcome
returns-in-Ok-ended-clause-outcome g c =
    let s : Ground = search_over c.args.task.now c.args.index.now c.args.workers c.args.queues in
    let same = c.in-Ok.ensures.searches ∙ ground_same _ _ c.args.workers c.args.queues c.new-search.ensures.search in
    let stands : StandsAt c.play.new.team (played s c.args.schedule.now) =
    subst (λ (h : Ground). StandsAt c.play.new.team (played h c.args.schedule.now)) same c.in_default-play.ensures.played in
    subst (λ (h : Ground). c.in-Ok-ended.outcome ≡ outcome h (played s c.args.schedule.now)) (c.play.ensures.same ∙ same)
    (c.in-Ok-ended.ensures (played s c.args.schedule.now) stands)

pub returns-in-Ok-ended-clause-legal : goal.returns-in-Ok-ended-clause-legal
returns-in-Ok-ended-clause-legal g c =
    let s : Ground = search_over c.args.task.now c.args.index.now c.args.workers c.args.queues in
    let fits : Fits s = search_fits c.args.task.now c.args.index.now c.args.workers c.args.queues c.new-search.ensures.searched
    c.requires.workers.0 c.requires.queues.0 in
    let same = c.in-Ok.ensures.searches ∙ ground_same _ _ c.args.workers c.args.queues c.new-search.ensures.search in
    let stands : StandsAt c.play.new.team (played s c.args.schedule.now) =
    subst (λ (h : Ground). StandsAt c.play.new.team (played h c.args.schedule.now)) same c.in_default-play.ensures.played in
    subst (Legal s) (sym (returns-in-Ok-ended-clause-outcome g c))
    (ending_legal s fits (played s c.args.schedule.now) (played_sound s fits c.args.schedule.now)
    (all_done c.play.new.team (played s c.args.schedule.now) stands c.in_default-first_busy.ensures))

pub returns-in-Ok-ended-clause-answer : goal.returns-in-Ok-ended-clause-answer
returns-in-Ok-ended-clause-answer g c =
    (returns-in-Ok-ended-clause-legal g c).pairs ∙ answer_is c.args.task.now c.args.index.now c.args.workers c.args.queues
