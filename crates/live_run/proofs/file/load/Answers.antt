use Rattle.std.proofs.Common.{rules, ◌≡◌, ap, sym, subst, arith}
use Rattle.std.specs.Prelude.{Result, Err}
use Rattle.series_file.specs.declared.error.FileError.{FileError}
use Rattle.series_file.specs.declared.error.Loaded.{Loaded}
use Rattle.outside.specs.Count.{Rose-wider}
use Rattle.outside.specs.Files.{Opens}
use Rattle.live_run.specs.Loads.{RefusesFile, refusal_of}
use Rattle.run_traffic.specs.Traffic.{read_from}
use Rattle.live_run.proofs.Loading.{file_refused}
use Rattle.live_run.proofs.file.load.Goals as goal

pub returns-in-Err-clause-refused : goal.returns-in-Err-clause-refused
returns-in-Err-clause-refused g c =
    let reading = read_from g.F.Files c.args.files.now
    c.read_series.new.files in
    let at = g.F.Files.at c.open.new.files in
    let left = g.F.Files.left c.open.new.files in
    let name : c.as_str.result.now ≡ c.args.file.now.name = search rules in
    let cites : c.refusal.result ≡ refusal_of c.args.file.now.line c.in-Err.cause = search (rules, c.refusal.ensures) in
    subst (RefusesFile reading c.args.file.now) (sym cites)
    (file_refused reading c.args.file.now at left c.in-Err.cause
    (subst (λ n. Opens reading.held n at left) name c.in_ok-open.ensures.opened) c.in-Err.ensures.refused
    (λ e. let err : FileError → Result Loaded FileError = λ x. Err x in
    let f = c.in-Err.ensures.files.failed (ap err e) in
    (Rose-wider c.in_ok-open.ensures.counts.0 f.0 (omega arith), f.2)))
