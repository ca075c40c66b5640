use Rattle.search_machine.proofs.ScanSteps.{scan_begins, scan_next}
use Rattle.search_machine.proofs.laws.answers.scan_law.Goals as goal

pub returns : goal.returns
returns c = record {
  none = λ g v ps short. scan_begins g v ps short;
  one = λ g v s ss ps. scan_next g v s ss ps;
}
