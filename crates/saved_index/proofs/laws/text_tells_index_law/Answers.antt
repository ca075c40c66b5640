-- What two indexes of one text are saved as is the same.
use Rattle.saved_index.specs.IndexText.{saved_of}
use Rattle.saved_index.proofs.Again.{one_text}
use Rattle.saved_index.proofs.OfSaved.{same_index}
use Rattle.saved_index.proofs.laws.text_tells_index_law.Goals as goal

pub returns : goal.returns
returns c = λ coll bytes s t m n ix jx of_ix of_jx text_ix text_jx.
    same_index coll s t m n ix jx of_ix of_jx (one_text bytes (saved_of s m ix) (saved_of t n jx) text_ix text_jx)
