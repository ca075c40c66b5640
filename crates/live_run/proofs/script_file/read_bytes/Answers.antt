use Rattle.std.proofs.Common.{ℕ, ap}
use Rattle.std.specs.Prelude.{Result, Err}
use Rattle.std.specs.Global.{Vec}
use Rattle.outside.specs.declared.faults.AllError.{AllError}
use Rattle.live_run.specs.Loads.{IsScriptFault}
use Rattle.run_traffic.proofs.Named.{first_part, opened_holds}
use Rattle.live_run.proofs.script_file.read_bytes.Goals as goal

pub returns-in-Err-Longer-clause-refused : goal.returns-in-Err-Longer-clause-refused
returns-in-Err-Longer-clause-refused g c =
    let err : AllError → Result (Vec ℕ) AllError = λ x. Err x in
    let left = g.F.Files.left c.open.new.files in
    opened_holds (g.F.Files.held c.args.files.now) c.args.name.now (g.F.Files.at c.open.new.files) left
    (IsScriptFault 0) c.in_ok-open.ensures.opened
    (first_part left (IsScriptFault 0) _ (c.in-Err-Longer.ensures.longer (ap err c.in-Err-Longer.field-0-is)))
