-- How a command ends whose step refuses (`refused_ends`), and one whose text was not written to its end (`stopped_ends`): what
-- stops the writing is no fault of reading (`stop_reads_nothing`).
use Rattle.std.proofs.Common.{◌≡◌, ℕ, ◌++◌, List, inr, subst, sym, take}
use Rattle.std.specs.Prelude.{ℤ, Result, Ok, Err, IsErrAnd}
use Rattle.std.proofs.lemmas.Result.{err_from_is_err_and}
use Rattle.search_run.specs.Ends.{Concludes, ConcludesBy, WroteNothing, ended}
use Rattle.search_run.specs.Plans.{Plan, Refuses, Writes}
use Rattle.search_run.specs.Stops.{Stops}
use Rattle.search_run.specs.Texts.{IsTextOf}
use Rattle.search_run.specs.Traffic.{Reading, Writing}
use Rattle.search_run.proofs.Concluding.{concludes_map, refusal_concludes}
use Rattle.search_run.proofs.Pieces.{text_finish}
use Rattle.search_run.proofs.Stops.{by_stop}
use Rattle.search_run.specs.declared.status.Status.{Status}
use Rattle.search_run.specs.declared.status.Status.TheVariants.{ReadFault, WriteFault, Memory}
use Rattle.search_run.specs.declared.status.Which.{Which}

-- a command that gives the status of a step that refuses, and that wrote nothing, ends so
pub refused_ends : (reading : Reading) (plan : Plan) (writing : Writing) (status : Status) (given : Result (Unit {0}) Status)
    → IsErrAnd given (λ s. s ≡ status) → Refuses reading plan status → WroteNothing writing
    → Concludes (Writes reading.held plan) (Refuses reading plan) writing (ended given)
refused_ends reading plan writing status (Ok u) is refused nothing = absurd is
refused_ends reading plan writing status (Err s) is refused nothing =
    subst (Concludes (Writes reading.held plan) (Refuses reading plan) writing) (sym is)
    (refusal_concludes (Writes reading.held plan) (Writes reading.held plan) reading plan writing status refused nothing)

-- the text of the first queries, however many
abbrev Begun : (ℕ → List ℤ → List ℕ → Type 0) → List (List ℤ) → List ℕ → Type 0
Begun P qs text = (n : ℕ) × IsTextOf P (take n qs) text

-- pieces that were not all written conclude a command whose right texts are made of such, where each query has a piece
stops_conclude : (P : ℕ → List ℤ → List ℕ → Type 0) → ((i : ℕ) (q : List ℤ) → (piece : List ℕ) × P i q piece)
    → (qs : List (List ℤ)) (IsRight : List ℕ → Type 0) (R : Status → Type 0) (writing : Writing)
    → ((text : List ℕ) → IsTextOf P qs text → IsRight text)
    → (stop : Status) → Stops P qs writing stop → Concludes IsRight R writing stop
stops_conclude P each qs IsRight R writing right stop stopped =
    concludes_map (IsTextOf P qs) (Begun P qs) IsRight R R writing stop right begun (λ s r. r)
    (by_stop P qs writing (ConcludesBy (IsTextOf P qs) (Begun P qs) R writing)
    (λ x. (x.1, (x.0, x.2), x.3, x.4, x.5)) (λ x. inr (x.1, (x.0, x.2), x.3)) stop stopped)
  where
    begun : (text : List ℕ) → Begun P qs text → (rest : List ℕ) × IsRight (text ++ rest)
    begun text w =
        let more = text_finish P (λ q. Unit {0}) (λ i q any. each i q) 0 qs w.0 text (λ k d below. tt) w.1 in
        (more.0, right (text ++ more.0) more.1)

-- a command that gives what stopped such pieces ends so
pub stopped_ends : (P : ℕ → List ℤ → List ℕ → Type 0) → ((i : ℕ) (q : List ℤ) → (piece : List ℕ) × P i q piece)
    → (qs : List (List ℤ)) (reading : Reading) (plan : Plan) (writing : Writing)
    → ((text : List ℕ) → IsTextOf P qs text → Writes reading.held plan text)
    → (stop : Status) (given : Result (Unit {0}) Status) → IsErrAnd given (λ s. s ≡ stop) → Stops P qs writing stop
    → Concludes (Writes reading.held plan) (Refuses reading plan) writing (ended given)
stopped_ends P each qs reading plan writing right stop (Ok u) is stopped = absurd is
stopped_ends P each qs reading plan writing right stop (Err s) is stopped =
    subst (Concludes (Writes reading.held plan) (Refuses reading plan) writing) (sym is)
    (stops_conclude P each qs (Writes reading.held plan) (Refuses reading plan) writing right stop stopped)

-- a failed write is no failed read
failed_no_reading : (r : Result (Unit {0}) Status) (s : Status) (w : Which) → r ≡ Err s → r ≡ Err (ReadFault w)
    → s ≡ WriteFault → ⊥
failed_no_reading r s w ends reads is = cc

-- nor is want of memory
left_no_reading : (r : Result (Unit {0}) Status) (s : Status) (w : Which) → r ≡ Err s → r ≡ Err (ReadFault w)
    → s ≡ Memory → ⊥
left_no_reading r s w ends reads is = cc

-- what stops the writing is no fault of reading
pub stop_reads_nothing : (P : ℕ → List ℤ → List ℕ → Type 0) (qs : List (List ℤ)) (writing : Writing)
    → (given : Result (Unit {0}) Status) (stop : Status) (w : Which) → Stops P qs writing stop
    → IsErrAnd given (λ s. s ≡ stop) → given ≡ Err (ReadFault w) → ⊥
stop_reads_nothing P qs writing given stop w stopped is reads =
    let told = err_from_is_err_and given is in
    by_stop P qs writing (λ s. told.0 ≡ s → ⊥) (λ x e. failed_no_reading given told.0 w told.1 reads e)
    (λ x e. left_no_reading given told.0 w told.1 reads e) stop stopped told.2
