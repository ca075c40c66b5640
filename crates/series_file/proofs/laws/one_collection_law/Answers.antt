use Rattle.series_file.proofs.Unique.{one_collection}
use Rattle.series_file.proofs.laws.one_collection_law.Goals as goal

pub returns : goal.returns
returns c = one_collection
