-- Each series fits what was saved.
use Rattle.saved_index.proofs.NoFault.{text_has_no_fault}
use Rattle.saved_index.proofs.laws.no_fault_law.Goals as goal

pub returns : goal.returns
returns c = text_has_no_fault
