use Rattle.std.specs.Prelude.{map, string_bytes}
use Rattle.std.proofs.Common.{subst, sym}
use Rattle.search_run.specs.Commands.{CanAnswer, plan_of}
use Rattle.search_run.specs.Ends.{Answers, Finishes, IsFaultless}
use Rattle.search_run.specs.Plans.{HasFault}
use Rattle.search_run.specs.Traffic.{read_from, wrote_to}
use Rattle.search_run.specs.Verified.{Certifies}
use Rattle.search_run.proofs.Certifies.{answers_certify, none_done, only_done}
use Rattle.search_run.proofs.Concluding.{answer_ends, answers_cause, answers_exactly, answers_faultless, answers_finish, answers_not_usage}
use Rattle.search_run.proofs.Served.{never_read}
use Rattle.search_run.proofs.running.run.Goals as goal

pub returns-in-Ok : goal.returns-in-Ok
returns-in-Ok g c =
    let reading = read_from g.F.Files c.args.files.now c.answer_waiting.new.files in
    let writing = wrote_to g.S.Sink c.args.out.now c.answer_waiting.new.out in
    let command = c.in-Ok.command in
    let status = c.ended-status.result in
    let served = c.answer_waiting.ensures in
    let answered = subst (Answers reading writing command) (sym c.ended-status.ensures) served.answers in
    let asked = c.in-Ok.ensures in
    record {
      ends = answer_ends _ reading writing command status asked.asks (answers_not_usage reading writing command status answered) answered;
      complete = λ other can.
          subst (λ named. Finishes reading.held named reading.faults reading.later writing.faults writing.later status)
          (asked.same other can.0)
          (answers_finish reading writing command status answered
          (subst (CanAnswer reading.held) (sym (asked.same other can.0)) can.1));
      valid = λ other can faultless.
          answers_faultless reading writing command status answered
          (subst (CanAnswer reading.held) (sym (asked.same other can.0)) can.1)
          (subst (IsFaultless reading.held) (sym (asked.same other can.0)) faultless);
      exact = λ other can told has.
          answers_exactly reading writing command status answered
          (subst (CanAnswer reading.held) (sym (asked.same other can.0)) can.1) told
          (subst (λ named. HasFault reading.held (plan_of named) told) (sym (asked.same other can.0)) has);
      cause = answers_cause reading writing command status answered;
      certifies = λ other asks.
          subst (λ named. Certifies reading.held named writing status) (asked.same other asks)
          (answers_certify reading writing command status asked.limits asked.alone answered);
      told = c.tell.ensures;
      kept = served.kept;
      reliable = λ sound w. never_read _ status w c.ended-status.ensures (served.reliable sound w);
    }

pub returns-in-Err-clause-certifies : goal.returns-in-Err-clause-certifies
returns-in-Err-clause-certifies g c command asks =
    only_done (g.F.Files.held c.args.files.now) command
    (wrote_to g.S.Sink c.args.out.now c.args.out.now) c.in-Err.status
    (none_done (map string_bytes c.args.words.now) c.in-Err.status c.in-Err.ensures.refused)
