use Rattle.std.proofs.Common.{rules, ◌∙◌, false, inl, inr, refl}
use Rattle.series_core.specs.Answer.{answer}
use Rattle.search_run.specs.Commands.{indexed_plan, pieces_rest}
use Rattle.search_run.specs.Indexes.{IsFitIndex}
use Rattle.search_run.specs.Nearests.{IsNearestPiece}
use Rattle.search_run.specs.Plans.{LoadIndex}
use Rattle.search_run.specs.Serves.{plan_by}
use Rattle.search_run.specs.Texts.{query_text}
use Rattle.search_run.specs.Traffic.{read_from}
use Rattle.search_run.proofs.Both.{alike_refused}
use Rattle.search_run.proofs.Held.{lent_holds}
use Rattle.search_run.proofs.Loading.{lent_index_wider}
use Rattle.search_run.proofs.Served.{done_serves, refused_serves, stopped_serves}
use Rattle.search_run.specs.declared.input.pair.Both.{Both}
use Rattle.search_run.specs.declared.tree.Tree.{Tree}
use Rattle.search_run.proofs.commands.nearest.Nearest.indexed.Goals as goal

pub returns-in_err-both : goal.returns-in_err-both
returns-in_err-both g c =
    let asked = c.args.self.now.search.now in
    let o = asked.options.now in
    let refused = c.in_err-both.ensures in
    refused_serves Both g.F.Files g.S.Sink (plan_by (indexed_plan c.args.index.now) asked) _ _ _ c.in_err-both.field-0.0
    c.from_residual.result c.from_residual.ensures.1
    (alike_refused _ asked.series.now asked.queries.now o
    (λ x y. LoadIndex c.args.index.now x.rows (pieces_rest (IsNearestPiece false o) x y)) c.in_err-both.field-0.0
    refused.refused) refused.kept (λ sound. (refused.reliable sound).0)

pub returns-in_err-tree : goal.returns-in_err-tree
returns-in_err-tree g c =
    let reading = read_from g.F.Files c.args.files.now c.load_index.new.files in
    let asked = c.args.self.now.search.now in
    let x = c.in_ok-both.both.series in
    let before = c.in_ok-both.ensures in
    let refused = lent_index_wider reading _ x.rows c.as_str.result.now c.args.index.now c.in_err-tree.field-0.0
    c.in_err-tree.ensures.refused (search rules) before.kept before.counts.0 before.counts.1 refl refl refl in
    refused_serves Tree g.F.Files g.S.Sink (plan_by (indexed_plan c.args.index.now) asked) _ _ _ c.in_err-tree.field-0.0
    c.from_residual-in_err-tree.result c.from_residual-in_err-tree.ensures.1
    (inr (
      x,
      before.found.hold.first,
      inr (c.in_ok-both.both.queries, before.found.hold.second, inr (before.found.lengths, inl refused)),
    )) (c.in_err-tree.ensures.kept ∙ before.kept) (λ sound. c.in_err-tree.ensures.reliable (before.reliable sound).1)

pub returns-in_err-write : goal.returns-in_err-write
returns-in_err-write g c =
    let x = c.in_ok-both.both.series in
    let y = c.in_ok-both.both.queries in
    let before = c.in_ok-both.ensures in
    let fit = before.found in
    let held = lent_holds (g.F.Files.held c.read_alike.new.files) (g.F.Files.held c.args.files.now) c.as_str.result.now
    c.args.index.now (IsFitIndex x.rows) before.kept (search rules) c.in_ok-tree.ensures.held in
    let asked = c.args.self.now.search.now in
    let o = asked.options.now in
    stopped_serves g.F.Files g.S.Sink (plan_by (indexed_plan c.args.index.now) asked) _ _ _ _ (IsNearestPiece false o x)
    (λ i q. (query_text x.labels i (answer x.rows q o.k), refl)) y.rows.series
    (λ text is. (x, fit.hold.first, (y, fit.hold.second, (fit.lengths, (held, is)))))
    c.in_err-write.field-0.0 c.from_residual-in_err-write.result c.from_residual-in_err-write.ensures.1
    c.in_err-write.ensures.stops (c.in_ok-tree.ensures.kept ∙ before.kept)

pub returns : goal.returns
returns g c =
    let both = c.in_ok-both.both in
    let before = c.in_ok-both.ensures in
    let fit = before.found in
    let held = lent_holds (g.F.Files.held c.read_alike.new.files) (g.F.Files.held c.args.files.now) c.as_str.result.now
    c.args.index.now (IsFitIndex both.series.rows) before.kept (search rules) c.in_ok-tree.ensures.held in
    let wrote = c.in_ok-write.ensures.ok in
    done_serves g.F.Files g.S.Sink (plan_by (indexed_plan c.args.index.now) c.args.self.now.search.now) _ _ _ _ wrote.0
    (both.series, fit.hold.first, (both.queries, fit.hold.second, (fit.lengths, (held, wrote.1)))) wrote.2
    (c.in_ok-tree.ensures.kept ∙ before.kept)
