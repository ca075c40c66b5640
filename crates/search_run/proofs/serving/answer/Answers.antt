use Rattle.std.proofs.Common.{refl}
use Rattle.search_run.specs.Traffic.{read_from}
use Rattle.search_run.proofs.Served.{serves_as}
use Rattle.search_run.proofs.serving.answer.Goals as goal

pub returns-in-Nearest : goal.returns-in-Nearest
returns-in-Nearest g c = serves_as _ _ c.in-Nearest.is c.answer_nearest.ensures

pub returns-in-Range : goal.returns-in-Range
returns-in-Range g c = serves_as _ _ c.in-Range.is c.answer_range.ensures

pub returns-in-Verify : goal.returns-in-Verify
returns-in-Verify g c = serves_as _ _ c.in-Verify.is c.answer_verify.ensures

pub returns-in-Trial : goal.returns-in-Trial
returns-in-Trial g c = serves_as _ _ c.in-Trial.is (record {
  answers = c.answer_trial.ensures.answers (read_from g.F.Files c.args.files.now c.args.files.now);
  kept = refl;
  reliable = λ sound w. c.answer_trial.ensures.reads_nothing w;
})

pub returns-in-Convert : goal.returns-in-Convert
returns-in-Convert g c = serves_as _ _ c.in-Convert.is c.answer.ensures

pub returns-in-Windows : goal.returns-in-Windows
returns-in-Windows g c = serves_as _ _ c.in-Windows.is c.answer_windows.ensures

pub returns-in-Discord : goal.returns-in-Discord
returns-in-Discord g c = serves_as _ _ c.in-Discord.is c.answer-in-Discord.ensures

pub returns-in-Save : goal.returns-in-Save
returns-in-Save g c = serves_as _ _ c.in-Save.is c.answer-in-Save.ensures
