use Rattle.std.proofs.Common.{}
use Rattle.series_file.proofs.Outcomes.{only_ok}
use Rattle.series_file.proofs.ReadAgain.{reads_back}
use Rattle.series_file.proofs.read.read_series.Goals as goal

pub returns-in-Headed-clause-back : goal.returns-in-Headed-clause-back
returns-in-Headed-clause-back g c =
    rw c.in-Headed.is (reads_back _ _ c.read_headed.result
    (only_ok c.read_headed.result c.read_headed.ensures.found (λ loaded found. found.1))
    c.read_headed.ensures.refused)

pub returns-in-Raw-clause-back : goal.returns-in-Raw-clause-back
returns-in-Raw-clause-back g c =
    rw c.in-Raw.is (reads_back _ _ c.read_raw.result
    (only_ok c.read_raw.result c.read_raw.ensures.found (λ loaded found. found.1))
    c.read_raw.ensures.refused)
