-- What was written of a text in pieces whose writing stopped before its end.
use Rattle.std.specs.Prelude.{ℕ, ◌<◌, ℤ, List, length, take}
use Rattle.outside.specs.Count.{Rose}
use Rattle.outside.specs.Sink.{AppendsPrefix}
use Rattle.search_run.specs.Texts.{IsTextOf}
use Rattle.search_run.specs.Traffic.{Writing}
use Rattle.search_run.specs.declared.status.Status.{Status}
use Rattle.search_run.specs.declared.status.Status.TheVariants.{WriteFault, Memory}

-- A prefix of the pieces of the first n queries was written, whatever the pieces of the others may be. Where the sink
-- failed, its count of faults rose, and those pieces are longer than what it was sure to take.
abbrev pub Stops : (ℕ → List ℤ → List ℕ → Type 0) → List (List ℤ) → Writing → Status → Type 0
Stops IsPiece queries writing WriteFault = (n : ℕ) × (text : List ℕ) × IsTextOf IsPiece (take n queries) text
    × AppendsPrefix writing.before text writing.now × Rose writing.faults writing.later × (writing.sure < length text)
Stops IsPiece queries writing Memory = (n : ℕ) × (text : List ℕ) × IsTextOf IsPiece (take n queries) text
    × AppendsPrefix writing.before text writing.now
Stops IsPiece queries writing _ = ⊥
