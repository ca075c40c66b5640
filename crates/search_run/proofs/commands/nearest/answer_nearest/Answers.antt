use Rattle.search_run.proofs.Served.{nearest_serves, pieces_serves}
use Rattle.search_run.proofs.commands.nearest.answer_nearest.Goals as goal

pub returns-in-Some : goal.returns-in-Some
returns-in-Some g c =
    let s = c.args.search.now in nearest_serves s.series.now s.queries.now s.options.now _ c.in-Some.is c.indexed.ensures

pub returns-in-None : goal.returns-in-None
returns-in-None g c =
    let s = c.args.search.now in
    nearest_serves s.series.now s.queries.now s.options.now _ c.in-None.is
    (pieces_serves s.series.now s.queries.now s.options.now _ c.if-search.true c.certified.ensures)

pub returns-in-None-2 : goal.returns-in-None-2
returns-in-None-2 g c =
    let s = c.args.search.now in
    nearest_serves s.series.now s.queries.now s.options.now _ c.in-None-2.is
    (pieces_serves s.series.now s.queries.now s.options.now _ c.if-search.false c.plain.ensures)
