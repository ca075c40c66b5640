-- The members of each leaf are those of a root child that pass tests, in their order.
use Rattle.saved_index.proofs.TreeSaves.{tree_can_save}
use Rattle.saved_index.proofs.laws.tree_law.Goals as goal

pub returns : goal.returns
returns c = tree_can_save
