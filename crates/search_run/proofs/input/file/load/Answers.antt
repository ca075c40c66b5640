use Rattle.std.proofs.Common.{ap, arith}
use Rattle.std.specs.Prelude.{Result, Err}
use Rattle.series_file.specs.declared.error.FileError.{FileError}
use Rattle.series_file.specs.declared.error.Loaded.{Loaded}
use Rattle.outside.specs.Count.{Rose-wider}
use Rattle.search_run.specs.Traffic.{read_from}
use Rattle.search_run.proofs.Loading.{file_refused}
use Rattle.search_run.proofs.input.file.load.Goals as goal

pub returns-in-Err-clause-refused : goal.returns-in-Err-clause-refused
returns-in-Err-clause-refused g c =
    let reading = read_from g.F.Files c.args.files.now
    c.read_series.new.files in
    rw c.refusal.ensures
    (file_refused c.args.which reading c.args.name.now (g.F.Files.at c.open.new.files)
    (g.F.Files.left c.open.new.files) c.args.form c.in-Err.cause c.in_ok-open.ensures.opened c.in-Err.ensures.refused
    (λ e. let err : FileError → Result Loaded FileError = λ x. Err x in
    let f = c.in-Err.ensures.files.failed (ap err e) in
    (Rose-wider c.in_ok-open.ensures.counts.0 f.0 (omega arith), f.2)))
