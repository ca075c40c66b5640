use Rattle.series_file.proofs.Existence.{is_a_file}
use Rattle.series_file.proofs.laws.collection_law.Goals as goal

pub returns : goal.returns
returns c = is_a_file
