use Rattle.std.proofs.Common.{rules, true}
use Rattle.search_run.specs.Nearests.{IsNearestPiece}
use Rattle.search_run.specs.Traffic.{read_from, wrote_to}
use Rattle.search_run.proofs.Nearests.{certified_exists}
use Rattle.search_run.proofs.Searching.{search_concludes}
use Rattle.search_run.proofs.commands.nearest.Nearest.certified.Goals as goal

pub returns : goal.returns
returns g c =
    let reading = read_from g.F.Files c.args.files.now c.answer_search.new.files in
    let writing = wrote_to g.S.Sink c.args.out.now c.answer_search.new.out in
    let asked = c.args.self.now.search.now in
    let o = asked.options.now in
    let made = c.answer_search.ensures in
    record {
      answers = search_concludes _ (IsNearestPiece true o) reading writing _ asked.series.now asked.queries.now o made.answers
          (λ at i q gave met. search rules) (certified_exists o c.requires.limits);
      kept = made.kept;
      reliable = made.reliable;
    }
