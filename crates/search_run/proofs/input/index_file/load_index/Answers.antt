use Rattle.std.proofs.Common.{ap, arith}
use Rattle.std.specs.Prelude.{Result, Err}
use Rattle.outside.specs.Count.{Rose-wider}
use Rattle.saved_index.specs.declared.error.IndexFault.{IndexFault}
use Rattle.saved_index.specs.declared.loading.LoadedIndex.{LoadedIndex}
use Rattle.search_run.specs.Indexes.{IsFitIndex}
use Rattle.search_run.specs.Traffic.{read_from}
use Rattle.run_traffic.proofs.Named.{opened_holds}
use Rattle.search_run.proofs.Loading.{fit_told, index_refused}
use Rattle.search_run.proofs.input.index_file.load_index.Goals as goal

pub returns-in-Ok-clause-held : goal.returns-in-Ok-clause-held
returns-in-Ok-clause-held g c =
    let left = g.F.Files.left c.open.new.files in
    opened_holds (g.F.Files.held c.args.files.now) c.args.name.now (g.F.Files.at c.open.new.files) left
    (IsFitIndex c.args.rows.now) c.in_ok-open.ensures.opened
    (fit_told c.args.rows.now c.in-Ok.loaded left c.in-Ok.ensures.text.1)

pub returns-in-Err-clause-refused : goal.returns-in-Err-clause-refused
returns-in-Err-clause-refused g c =
    let reading = read_from g.F.Files c.args.files.now
    c.load_with.new.files in
    rw c.refusal.ensures
    (index_refused c.args.rows.now reading c.args.name.now (g.F.Files.at c.open.new.files)
    (g.F.Files.left c.open.new.files) c.in-Err.cause c.in_ok-open.ensures.opened c.in-Err.ensures.refused
    (λ e. let err : IndexFault → Result LoadedIndex IndexFault = λ x. Err x in
    let f = c.in-Err.ensures.files.failed (ap err e) in
    (Rose-wider c.in_ok-open.ensures.counts.0 f.0 (omega arith), f.1)))
