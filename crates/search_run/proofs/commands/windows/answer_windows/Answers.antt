use Rattle.series_core.specs.Collection.{Collection}
use Rattle.std.proofs.Common.{rules, ◌≡◌, None, refl, subst}
use Rattle.std.specs.Prelude.{Result, Ok, Err, IfErr, OnOk}
use Rattle.search_run.specs.Batches.{AppendsTold, IsTold}
use Rattle.search_run.specs.Plans.{Write}
use Rattle.search_run.specs.Stops.{Stops}
use Rattle.search_run.specs.Texts.{IsTextOf, query_text}
use Rattle.search_run.specs.Traffic.{wrote_to}
use Rattle.search_run.specs.Windows.{AppendsChoices, IsChoice, found_apart, windows_in, windows_plan}
use Rattle.search_run.specs.declared.answers.Telling.TheVariants.{Apart}
use Rattle.search_run.specs.declared.input.pair.Both.{Both}
use Rattle.search_run.specs.declared.status.Status.{Status}
use Rattle.search_run.proofs.Asks.{asked_so}
use Rattle.search_run.proofs.Served.{done_serves, memory_serves, refused_serves, stopped_serves}
use Rattle.search_run.proofs.Windowed.{chosen_done, chosen_stopped, long_refused}
use Rattle.search_run.proofs.commands.windows.answer_windows.Goals as goal

pub returns-in_err-both : goal.returns-in_err-both
returns-in_err-both g c =
    let asked = c.args.search.now in
    let o = asked.options.now in
    let refused = c.in_err-both.ensures in
    refused_serves Both g.F.Files g.S.Sink (windows_plan asked.series.now asked.queries.now c.args.step o) _ _ _
    c.in_err-both.field-0.0 c.from_residual.result c.from_residual.ensures.1
    (long_refused _ asked.series.now asked.queries.now o
    (λ x y. Write (IsTextOf (IsChoice o (windows_in x y c.args.step)) y.rows.series)) c.in_err-both.field-0.0
    refused.refused) refused.kept refused.reliable

pub returns-in_err-tree : goal.returns-in_err-tree
returns-in_err-tree g c =
    let asked = c.args.search.now in
    memory_serves g.F.Files g.S.Sink (windows_plan asked.series.now asked.queries.now c.args.step asked.options.now) _ _ _
    c.from_residual-in_err-tree.result c.from_residual-in_err-tree.ensures.1 c.in_ok-both.ensures.kept

pub returns-in_err-write_answers : goal.returns-in_err-write_answers
returns-in_err-write_answers g c =
    let x = c.in_ok-both.both.series in
    let y = c.in_ok-both.both.queries in
    let all = windows_in x y c.args.step in
    let asked = c.args.search.now in
    let o = asked.options.now in
    let fit = c.in_ok-both.ensures.found in
    let over : c.new-windows.result ≡ all = search rules in
    let writing = wrote_to g.S.Sink c.args.out.now c.write_answers.new.out in
    let stop = c.in_err-write_answers.field-0.0 in
    let gave : Result (Unit {0}) Status = Err stop in
    let stopped = subst (λ w. IfErr gave (Stops (IsChoice o w) y.rows.series writing)) over
    (chosen_stopped o c.requires.limits.apart.0 c.new-windows.result y.rows.series writing gave
    (subst (λ k. IfErr gave (Stops (IsTold (Apart o.apart o.k) c.new-windows.result k) y.rows.series writing))
    c.windows_needed-needed.ensures
    (asked_so (λ (all : Collection). all) _ _ _ _ (λ rows k queries. IfErr gave (Stops (IsTold (Apart o.apart o.k) rows k) queries writing))
    c.new-batch.ensures.asks c.in_err-write_answers.ensures.stops))) in
    stopped_serves g.F.Files g.S.Sink (windows_plan asked.series.now asked.queries.now c.args.step o) _ _ _ _ (IsChoice o all)
    (λ i q. (query_text None i (found_apart o all q), refl)) y.rows.series
    (λ text is. (x, fit.first, (y, fit.second, (fit.segments, is)))) stop
    c.from_residual-in_err-write_answers.result c.from_residual-in_err-write_answers.ensures.1 stopped
    c.in_ok-both.ensures.kept

pub returns : goal.returns
returns g c =
    let x = c.in_ok-both.both.series in
    let y = c.in_ok-both.both.queries in
    let asked = c.args.search.now in
    let o = asked.options.now in
    let fit = c.in_ok-both.ensures.found in
    let over : c.new-windows.result ≡ windows_in x y c.args.step = search rules in
    let before = g.S.Sink.written c.args.out.now in
    let now = g.S.Sink.written c.write_answers.new.out in
    let gave : Result (Unit {0}) Status = Ok tt in
    let wrote = subst (λ w. OnOk gave (AppendsChoices o w y.rows.series before now)) over
    (chosen_done o c.requires.limits.apart.0 c.new-windows.result y.rows.series before now gave
    (subst (λ k. OnOk gave (AppendsTold (Apart o.apart o.k) c.new-windows.result k y.rows.series before now))
    c.windows_needed-needed.ensures
    (asked_so (λ (all : Collection). all) _ _ _ _ (λ rows k queries. OnOk gave (AppendsTold (Apart o.apart o.k) rows k queries before now))
    c.new-batch.ensures.asks c.in_ok-write_answers.ensures.ok))) in
    done_serves g.F.Files g.S.Sink (windows_plan asked.series.now asked.queries.now c.args.step o) _ _ _ _ wrote.0
    (x, fit.first, (y, fit.second, (fit.segments, wrote.1))) wrote.2 c.in_ok-both.ensures.kept
