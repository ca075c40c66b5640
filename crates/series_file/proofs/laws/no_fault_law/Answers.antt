use Rattle.series_file.proofs.Passing.{no_fault}
use Rattle.series_file.proofs.laws.no_fault_law.Goals as goal

pub returns : goal.returns
returns c = no_fault
