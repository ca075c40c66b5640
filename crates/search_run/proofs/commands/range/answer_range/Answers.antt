use Rattle.std.proofs.Common.{rules}
use Rattle.series_core.specs.Answer.{within}
use Rattle.search_run.specs.Traffic.{read_from, wrote_to}
use Rattle.search_run.specs.Texts.{IsAnswerPiece}
use Rattle.search_run.proofs.Nearests.{answers_exist}
use Rattle.search_run.proofs.Searching.{search_concludes}
use Rattle.search_run.proofs.commands.range.answer_range.Goals as goal

pub returns : goal.returns
returns g c =
    let reading = read_from g.F.Files c.args.files.now c.answer_search.new.files in
    let writing = wrote_to g.S.Sink c.args.out.now c.answer_search.new.out in
    let asked = c.args.search.now in
    let o = asked.options.now in
    let made = c.answer_search.ensures in
    record {
      answers = search_concludes _ (λ x. IsAnswerPiece x.labels (λ q. within x.rows q c.args.radius)) reading writing _
          asked.series.now asked.queries.now o made.answers (λ at i q gave met. search rules)
          (answers_exist o (λ x q. within x.rows q c.args.radius));
      kept = made.kept;
      reliable = made.reliable;
    }
