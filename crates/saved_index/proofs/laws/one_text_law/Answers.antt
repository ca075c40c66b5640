-- A text is read as what it is the text of, and a reading is one.
use Rattle.saved_index.proofs.Again.{one_text}
use Rattle.saved_index.proofs.laws.one_text_law.Goals as goal

pub returns : goal.returns
returns c = one_text
