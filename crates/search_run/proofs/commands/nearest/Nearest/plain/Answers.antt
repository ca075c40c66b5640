use Rattle.std.proofs.Common.{false, refl}
use Rattle.series_core.specs.Answer.{answer}
use Rattle.search_run.specs.Commands.{pieces_by, pieces_rest}
use Rattle.search_run.specs.Nearests.{IsNearestPiece}
use Rattle.search_run.specs.Serves.{plan_by}
use Rattle.search_run.specs.Texts.{query_text}
use Rattle.search_run.proofs.Both.{files_refused}
use Rattle.search_run.proofs.Served.{done_serves, memory_serves, refused_serves, stopped_serves}
use Rattle.search_run.specs.declared.input.pair.Both.{Both}
use Rattle.search_run.proofs.commands.nearest.Nearest.plain.Goals as goal

pub returns-in_err-both : goal.returns-in_err-both
returns-in_err-both g c =
    let asked = c.args.self.now.search.now in
    let o = asked.options.now in
    let refused = c.in_err-both.ensures in
    refused_serves Both g.F.Files g.S.Sink (plan_by (pieces_by false) asked) _ _ _ c.in_err-both.field-0.0
    c.from_residual.result c.from_residual.ensures.1
    (files_refused _ asked.series.now asked.queries.now o (pieces_rest (IsNearestPiece false o)) c.in_err-both.field-0.0
    refused.refused) refused.kept (λ sound. (refused.reliable sound).0)

pub returns-in_err-tree : goal.returns-in_err-tree
returns-in_err-tree g c =
    memory_serves g.F.Files g.S.Sink (plan_by (pieces_by false) c.args.self.now.search.now) _ _ _
    c.from_residual-in_err-tree.result c.from_residual-in_err-tree.ensures.1 c.in_ok-both.ensures.kept

pub returns-in_err-write : goal.returns-in_err-write
returns-in_err-write g c =
    let asked = c.args.self.now.search.now in
    let o = asked.options.now in
    let x = c.in_ok-both.both.series in
    let y = c.in_ok-both.both.queries in
    let fit = c.in_ok-both.ensures.found in
    stopped_serves g.F.Files g.S.Sink (plan_by (pieces_by false) asked) _ _ _ _ (IsNearestPiece false o x)
    (λ i q. (query_text x.labels i (answer x.rows q o.k), refl)) y.rows.series
    (λ text is. (x, fit.hold.first, (y, fit.hold.second, (fit.lengths, (fit.segments, is)))))
    c.in_err-write.field-0.0 c.from_residual-in_err-write.result c.from_residual-in_err-write.ensures.1
    c.in_err-write.ensures.stops c.in_ok-both.ensures.kept

pub returns : goal.returns
returns g c =
    let fit = c.in_ok-both.ensures.found in
    let wrote = c.in_ok-write.ensures.ok in
    let both = c.in_ok-both.both in
    done_serves g.F.Files g.S.Sink (plan_by (pieces_by false) c.args.self.now.search.now) _ _ _ _ wrote.0
    (both.series, fit.hold.first, (both.queries, fit.hold.second, (fit.lengths, (fit.segments, wrote.1)))) wrote.2
    c.in_ok-both.ensures.kept
