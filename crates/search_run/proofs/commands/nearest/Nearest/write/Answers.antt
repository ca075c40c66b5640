use Rattle.series_core.specs.Collection.{Collection}
use Rattle.std.specs.Prelude.{IfErr, OnOk}
use Rattle.series_core.specs.Answer.{answer}
use Rattle.search_run.specs.Stops.{Stops}
use Rattle.search_run.specs.Texts.{AppendsPieces, IsAnswerPiece}
use Rattle.search_run.specs.Traffic.{wrote_to}
use Rattle.search_run.proofs.Asks.{asked_so}
use Rattle.search_run.proofs.commands.nearest.Nearest.write.Goals as goal

pub returns-clause-ok : goal.returns-clause-ok
returns-clause-ok g c =
    let labels = c.args.both.now.series.labels in
    asked_so (λ (all : Collection). all) _ _ _ _
    (λ rows k queries. OnOk c.write_answers.result (AppendsPieces (IsAnswerPiece labels (λ q. answer rows q k)) queries
    (g.S.Sink.written c.args.out.now) (g.S.Sink.written c.write_answers.new.out)))
    c.new-batch.ensures.asks c.write_answers.ensures.ok

pub returns-clause-stops : goal.returns-clause-stops
returns-clause-stops g c =
    let labels = c.args.both.now.series.labels in
    let writing = wrote_to g.S.Sink c.args.out.now c.write_answers.new.out in
    asked_so (λ (all : Collection). all) _ _ _ _
    (λ rows k queries. IfErr c.write_answers.result (Stops (IsAnswerPiece labels (λ q. answer rows q k)) queries writing))
    c.new-batch.ensures.asks c.write_answers.ensures.stops
