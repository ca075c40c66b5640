-- The text of a run: a piece for each query in order, which has its line and the lines of its answers.
use Rattle.std.specs.Prelude.{◌≡◌, ℕ, ◌+◌, ℤ, List, [], ◌∷◌, ◌++◌, Option, None, Some, Result, Ok, codes, decimal, slice_index}
use Rattle.std.specs.Borrow.{Bor}
use Rattle.std.specs.Global.{Vec}
use Rattle.std.specs.Io.KnownBytes.{append_known}
use Rattle.outside.specs.declared.faults.NoMemory.{NoMemory}
use Rattle.series_core.specs.declared.pair.Pair.{Pair}
use Rattle.run_traffic.specs.Lines.{ranked}

-- the line of query i
abbrev pub query_line : ℕ → List ℕ
query_line i = codes "query " ++ decimal i ++ 10 ∷ []

-- behind an answer the label of its series, where the data has labels
abbrev pub label_part : Option (List ℕ) → ℕ → List ℕ
label_part None number = []
label_part (Some labels) number = 32 ∷ decimal (slice_index labels number)

-- the line of the answer of rank r: rank, number, distance, and label
abbrev pub answer_line : Option (List ℕ) → ℕ → Pair → List ℕ
answer_line labels r p =
    decimal r ++ 32 ∷ decimal p.number ++ 32 ∷ decimal p.distance ++ label_part labels p.number ++ 10 ∷ []

-- the lines of these answers, the first of them of rank r
abbrev pub answer_lines : Option (List ℕ) → ℕ → List Pair → List ℕ
answer_lines labels r ps = ranked (answer_line labels) r ps

-- the text of query i, with these answers
abbrev pub query_text : Option (List ℕ) → ℕ → List Pair → List ℕ
query_text labels i pairs = query_line i ++ answer_lines labels 1 pairs

-- The text of these queries is one piece for each, in order. A piece stands in this relation to the number and the
-- values of its query; the first query has number i.
abbrev pub IsTextFrom : (ℕ → List ℤ → List ℕ → Type 0) → ℕ → List (List ℤ) → List ℕ → Type 0
IsTextFrom IsPiece i [] text = text ≡ []
IsTextFrom IsPiece i (q ∷ qs) text = (piece : List ℕ) × (rest : List ℕ) × IsPiece i q piece
    × IsTextFrom IsPiece (i + 1) qs rest × (text ≡ piece ++ rest)

-- the same of queries that are numbered from 0
abbrev pub IsTextOf : (ℕ → List ℤ → List ℕ → Type 0) → List (List ℤ) → List ℕ → Type 0
IsTextOf IsPiece queries text = IsTextFrom IsPiece 0 queries text

-- a text of these queries with such pieces was appended
abbrev pub AppendsPieces : (ℕ → List ℤ → List ℕ → Type 0) → List (List ℤ) → Option (List ℕ) → Option (List ℕ) → Type 0
AppendsPieces IsPiece queries before now =
    (text : List ℕ) × IsTextOf IsPiece queries text × (now ≡ append_known before text)

-- the piece of query i has the answers that are found for it
abbrev pub IsAnswerPiece : Option (List ℕ) → (List ℤ → List Pair) → ℕ → List ℤ → List ℕ → Type 0
IsAnswerPiece labels found i query piece = piece ≡ query_text labels i (found query)

-- what a call gives for a query, in a context, by the number and the values of the query
abbrev pub Call : Type 0 → Type 1
Call C = Bor C → ℕ → Bor (List ℤ) → Result (Vec ℕ) NoMemory → Type 0

-- this is a piece that such a call gave for query i
abbrev pub IsMade : {C : Type 0} → Call C → C → ℕ → List ℤ → List ℕ → Type 0
IsMade {C} Gives context i query piece = (at : Bor C) × (q : Bor (List ℤ)) × (made : Vec ℕ)
    × Gives at i q (Ok made) × (at.now ≡ context) × (q.now ≡ query) × (made.items ≡ piece)
