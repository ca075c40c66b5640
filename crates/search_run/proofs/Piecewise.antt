-- Writing the pieces of queries one behind the other: one more was written (`goes_on`), memory ran out before it was
-- (`left_stops`), or writing it failed (`failed_stops`); or all were written (`all_written`).
use Rattle.std.proofs.Common.{◌≡◌, ℕ, ◌+◌, ◌<◌, ◌≤◌, List, [], ◌++◌, length, take, get_or, arith}
use Rattle.std.specs.Prelude.{ℤ, Result, IfErr, IsErrAnd}
use Rattle.std.specs.Io.KnownBytes.{append_known}
use Rattle.std.proofs.lemmas.Result.{err_from_is_err_and}
use Rattle.outside.specs.Count.{Rose, Rose-wider}
use Rattle.outside.specs.Sink.{AppendsPrefix}
use Rattle.outside.specs.declared.sink.Sink.{Ghosts as SinkOf}
use Rattle.search_run.specs.Stops.{Stops}
use Rattle.search_run.specs.Texts.{IsTextOf}
use Rattle.search_run.specs.Traffic.{wrote_to}
use Rattle.search_run.proofs.Pieces.{text_all, text_next}
use Rattle.search_run.proofs.Writing.{Going, Going-next, Going-prefix, Going-short, Going-stopped}
use Rattle.search_run.specs.declared.status.Status.{Status}
use Rattle.search_run.specs.declared.status.Status.TheVariants.{WriteFault, Memory}

-- the pieces of the first i queries were written, and nothing else
abbrev pub HasWritten : {S : Type 0} → SinkOf S → (ℕ → List ℤ → List ℕ → Type 0) → ℕ → List (List ℤ) → S → S → Type 0
HasWritten sink P i qs first now = (done : List ℕ) × IsTextOf P (take i qs) done × Going sink first now done

-- one more piece was written whole
pub goes_on : {S : Type 0} {sink : SinkOf S} {first now next : S}
    (P : ℕ → List ℤ → List ℕ → Type 0) (i : ℕ) (qs : List (List ℤ)) (piece : List ℕ) → i < length qs
    → P i (get_or qs i []) piece → HasWritten sink P i qs first now
    → sink.written next ≡ append_known (sink.written now) piece → sink.faults now ≤ sink.faults next
    → sink.sure now ≤ sink.sure next + length piece → HasWritten sink P (i + 1) qs first next
goes_on P i qs piece below new so_far wrote counted spent = (
  so_far.0 ++ piece,
  text_next P i qs [] so_far.0 piece below so_far.1 new,
  Going-next piece so_far.2 wrote counted spent,
)

-- memory ran out behind these pieces
pub left_stops : {S : Type 0} (sink : SinkOf S) (first now : S)
    (P : ℕ → List ℤ → List ℕ → Type 0) (i : ℕ) (qs : List (List ℤ)) (given : Result (Unit {0}) Status)
    → IsErrAnd given (λ s. s ≡ Memory) → HasWritten sink P i qs first now
    → IfErr given (Stops P qs (wrote_to sink first now))
left_stops sink first now P i qs given is so_far =
    let told = err_from_is_err_and given is in
    rw (told.1, told.2) (i, so_far.0, so_far.1, Going-prefix so_far.2)

-- the next piece was not written whole, since the sink failed, which was not sure to take it
pub failed_stops : {S : Type 0} (sink : SinkOf S) (first now next : S)
    (P : ℕ → List ℤ → List ℕ → Type 0) (i : ℕ) (qs : List (List ℤ)) (piece : List ℕ) (given : Result (Unit {0}) Status)
    → IsErrAnd given (λ s. s ≡ WriteFault) → i < length qs → P i (get_or qs i []) piece
    → HasWritten sink P i qs first now → AppendsPrefix (sink.written now) piece (sink.written next)
    → Rose (sink.faults now) (sink.faults next) → (length piece ≤ sink.sure now → ⊥)
    → IfErr given (Stops P qs (wrote_to sink first next))
failed_stops sink first now next P i qs piece given is below new so_far part failed short =
    let told = err_from_is_err_and given is in
    rw (told.1, told.2) (
      i + 1,
      so_far.0 ++ piece,
      text_next P i qs [] so_far.0 piece below so_far.1 new,
      Going-stopped piece so_far.2 part,
      Rose-wider so_far.2.counts failed (omega arith),
      Going-short piece so_far.2 short,
    )

-- all pieces were written
pub all_written : {S : Type 0} {sink : SinkOf S} {first now : S}
    (P : ℕ → List ℤ → List ℕ → Type 0) (i : ℕ) (qs : List (List ℤ)) → length qs ≤ i
    → HasWritten sink P i qs first now
    → (text : List ℕ) × IsTextOf P qs text × (sink.written now ≡ append_known (sink.written first) text)
all_written P i qs all so_far = (so_far.0, text_all P i qs so_far.0 all so_far.1, so_far.2.appended)
