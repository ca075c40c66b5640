-- What the text is that is written of one query: a whole certificate.
use Rattle.std.specs.Prelude.{◌≡◌, ℕ, ℤ, List, [], ◌∷◌, None, length}
use Rattle.series_core.specs.Collection.{Collection}
use Rattle.isax_word.specs.declared.layout.Layout.{Layout}
use Rattle.certificate.specs.Certified.{Asked, CertifiesQuery}
use Rattle.certificate.specs.Spelling.{file_text}
use Rattle.certificate.specs.declared.block.Block.{Block}

-- what is asked: the k nearest of a collection without labels to one query, by words of a layout
abbrev pub asked : Collection → List ℤ → ℕ → Layout → Asked
asked c q k layout = record {
  rows = c;
  labels = None;
  queries = record { points = length q; series = q ∷ [] };
  k = k;
  layout = layout;
}

-- the text is that of one block, which has the answers to the query and certifies them, over one queue
abbrev pub IsWritten : Asked → ℕ → List ℤ → List ℕ → Type 0
IsWritten x leaf_size q text = (b : Block) × CertifiesQuery x leaf_size 1 q b × (text ≡ file_text (b ∷ []))
