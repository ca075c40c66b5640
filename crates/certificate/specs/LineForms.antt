-- The forms of a line, each read whole.
use Rattle.std.specs.Prelude.{ℕ, ◌-◌, ◌^◌, Bool, List, [], ◌∷◌, length, Option, None, Some, codes, decimal}
use Rattle.series_core.specs.declared.pair.Pair.{Pair}
use Rattle.series_core.specs.declared.queue_words.Entry.{Entry}
use Rattle.search_machine.specs.declared.outcome.Start.{Start}
use Rattle.certificate.specs.declared.block.LeafLine.{LeafLine}
use Rattle.certificate.specs.Fields.{◌>>=◌, after, number_at, labels_at, limit_at, entries_at, word_at, said_at, ended}

-- the line of query i
unfoldable pub query_of : ℕ → List ℕ → Option ℕ
query_of i line = do
  word ← after (codes "query ") line
  rest ← after (decimal i) word
  ended i rest

-- the line of the answer of rank r, and its label where there is one
unfoldable pub answer_of : Bool → ℕ → List ℕ → Option (Pair × List ℕ)
answer_of labelled r line = do
  rank ← after (decimal r) line
  space ← after (32 ∷ []) rank
  number ← number_at (2 ^ 32 - 1) space
  further ← after (32 ∷ []) number.1
  distance ← number_at (2 ^ 64 - 1) further
  labels ← labels_at labelled distance.1
  ended (record { distance = distance.0; number = number.0 }, labels.0) labels.1

-- the leaf and the limit of a start
unfoldable pub start_leaf_of : List ℕ → Option (Option Start)
start_leaf_of text = do
  leaf ← number_at (2 ^ 32 - 1) text
  space ← after (32 ∷ []) leaf.1
  limit ← limit_at space
  ended (Some (record { leaf = leaf.0; limit = limit.0 })) limit.1

-- the start, where it is none, and else where it is a leaf and a limit
abbrev pub start_by : Option (List ℕ) → List ℕ → Option (Option Start)
start_by (Some rest) text = ended None rest
start_by None text = start_leaf_of text

-- the line of the start
unfoldable pub start_of : List ℕ → Option (Option Start)
start_of line = after (codes "start ") line >>= λ rest. start_by (after (codes "none") rest) rest

-- the line of queue m
unfoldable pub queue_of : ℕ → List ℕ → Option (List Entry)
queue_of m line = do
  word ← after (codes "queue ") line
  number ← after (decimal m) word
  entries ← entries_at (length number) number
  ended entries.0 entries.1

-- the line of leaf l
unfoldable pub leaf_of : ℕ → ℕ → List ℕ → Option LeafLine
leaf_of segments l line = do
  leaf ← after (codes "leaf ") line
  number ← after (decimal l) leaf
  middle ← after (codes " word ") number
  word ← word_at segments middle
  said ← said_at word.1
  ended (record { word = word.0; said = said.0 }) said.1
