use Rattle.std.proofs.Common.{subst, sym}
use Rattle.search_run.specs.Ends.{Answers}
use Rattle.search_run.specs.Traffic.{read_from, wrote_to}
use Rattle.search_run.proofs.Certifies.{answers_certify}
use Rattle.search_run.proofs.Concluding.{answers_cause, answers_exactly, answers_faultless, answers_finish, answers_not_usage}
use Rattle.search_run.proofs.Served.{never_read}
use Rattle.search_run.proofs.running.run_free.Goals as goal

pub returns : goal.returns
returns g c =
    let reading = read_from g.F.Files c.args.files.now c.answer_free.new.files in
    let writing = wrote_to g.S.Sink c.args.out.now c.answer_free.new.out in
    let command = c.args.command.now in
    let status = c.ended-status.result in
    let served = c.answer_free.ensures in
    let answered = subst (Answers reading writing command) (sym c.ended-status.ensures) served.answers in
    record {
      answers = answered;
      not_usage = answers_not_usage reading writing command status answered;
      complete = answers_finish reading writing command status answered;
      valid = answers_faultless reading writing command status answered;
      exact = answers_exactly reading writing command status answered;
      cause = answers_cause reading writing command status answered;
      certifies = answers_certify reading writing command status c.requires.limits c.requires.alone answered;
      told = c.tell.ensures;
      kept = served.kept;
      reliable = λ sound w. never_read _ status w c.ended-status.ensures (served.reliable sound w);
    }
