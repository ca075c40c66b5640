-- How a command ends, from what it did: its clauses of completeness and of causes follow from `Concludes`.
use Rattle.std.proofs.Common.{◌≢◌, ℕ, ◌++◌, List, inl, inr, refl, subst, arith, ⊎_elim, length-append}
use Rattle.outside.specs.Sink.{AppendsPrefix}
use Rattle.search_run.specs.Ends.{Answers, Concludes, ConcludesBy, Ends, Finishes, IsAnswered, IsFaultless, TellsCause, TellsFault, WroteNothing}
use Rattle.search_run.specs.Commands.{CanAnswer, plan_of}
use Rattle.search_run.specs.Plans.{HasFault, Plan, Refuses}
use Rattle.search_run.specs.Traffic.{Reading, Writing}
use Rattle.command_words.specs.Settings.{HasSettings}
use Rattle.command_words.specs.declared.command.Command.{Command}
use Rattle.search_run.proofs.Exactly.{one_told, right_without}
use Rattle.search_run.proofs.Passing.{only_reading}
use Rattle.search_run.proofs.Refusing.{refuses_for_cause, told_has_fault}
use Rattle.search_run.proofs.Writing.{prefix_longer}
use Rattle.search_run.specs.declared.status.Status.{Status}
use Rattle.search_run.specs.declared.status.Status.TheVariants.{Done, Usage, Missing, ReadFault, Format, Mismatch, Settings, WriteFault, Memory, Invalid, Index}

-- a step that refuses concludes a command that wrote nothing
pub refusal_concludes : (IsRight IsBeginning : List ℕ → Type 0) (reading : Reading) (plan : Plan) (writing : Writing)
    (status : Status) → Refuses reading plan status → WroteNothing writing
    → ConcludesBy IsRight IsBeginning (Refuses reading plan) writing status
refusal_concludes IsRight IsBeginning reading plan writing status refused nothing = by_status status refused
  where
    by_status : (status : Status) → Refuses reading plan status
        → ConcludesBy IsRight IsBeginning (Refuses reading plan) writing status
    by_status Done x = absurd (refuses_for_cause reading plan Done x)
    by_status WriteFault x = absurd (refuses_for_cause reading plan WriteFault x)
    by_status Memory x = inl nothing
    by_status Usage x = (x, nothing)
    by_status (Missing w) x = (x, nothing)
    by_status (ReadFault w) x = (x, nothing)
    by_status (Format w e) x = (x, nothing)
    by_status (Mismatch a b) x = (x, nothing)
    by_status (Settings w n) x = (x, nothing)
    by_status (Invalid e) x = (x, nothing)
    by_status (Index e) x = (x, nothing)

-- what concludes one command concludes another with the same texts, of whose texts its beginnings are a beginning
pub concludes_map : (A B C : List ℕ → Type 0) (R Q : Status → Type 0) (writing : Writing) (status : Status)
    → ((text : List ℕ) → A text → C text) → ((text : List ℕ) → B text → (rest : List ℕ) × C (text ++ rest))
    → ((s : Status) → R s → Q s) → ConcludesBy A B R writing status → Concludes C Q writing status
concludes_map A B C R Q writing status whole begun refused = by_status status
  where
    longer : (text : List ℕ) → B text → AppendsPrefix writing.before text writing.now
        → (all : List ℕ) × C all × AppendsPrefix writing.before all writing.now
    longer text is part =
        let more = begun text is in
        (text ++ more.0, more.1, prefix_longer writing.before writing.now text more.0 part)

    by_status : (status : Status) → ConcludesBy A B R writing status → Concludes C Q writing status
    by_status Done x = (x.0, whole x.0 x.1, x.2)
    by_status WriteFault x =
        let more = begun x.0 x.1 in (
          x.0 ++ more.0,
          more.1,
          prefix_longer writing.before writing.now x.0 more.0 x.2,
          x.3,
          omega (arith, x.4, length-append x.0 more.0),
        )
    by_status Memory x = ⊎_elim (λ nothing. inl nothing) (λ some. inr (longer some.0 some.1 some.2)) x
    by_status Usage x = (refused Usage x.0, x.1)
    by_status (Missing w) x = (refused (Missing w) x.0, x.1)
    by_status (ReadFault w) x = (refused (ReadFault w) x.0, x.1)
    by_status (Format w e) x = (refused (Format w e) x.0, x.1)
    by_status (Mismatch a b) x = (refused (Mismatch a b) x.0, x.1)
    by_status (Settings w n) x = (refused (Settings w n) x.0, x.1)
    by_status (Invalid e) x = (refused (Invalid e) x.0, x.1)
    by_status (Index e) x = (refused (Index e) x.0, x.1)

-- no command ends as words that are none
pub answers_not_usage : (reading : Reading) (writing : Writing) (command : Command) (status : Status)
    → Answers reading writing command status → status ≢ Usage
answers_not_usage reading writing command status answered is =
    let usage = subst (Answers reading writing command) is answered in
    refuses_for_cause reading (plan_of command) Usage usage.0

-- a command that can do its work finishes
pub answers_finish : (reading : Reading) (writing : Writing) (command : Command) (status : Status)
    → Answers reading writing command status → CanAnswer reading.held command
    → Finishes reading.held command reading.faults reading.later writing.faults writing.later status
answers_finish reading writing command status answered can = by_status status answered
  where
    by_status : (status : Status) → Answers reading writing command status
        → Finishes reading.held command reading.faults reading.later writing.faults writing.later status
    by_status Done x = tt
    by_status Memory x = tt
    by_status WriteFault x = x.3
    by_status (Invalid e) x = told_has_fault reading (plan_of command) (Invalid e) tt x.0
    by_status (Index e) x = told_has_fault reading (plan_of command) (Index e) tt x.0
    by_status (ReadFault w) x = only_reading reading (plan_of command) (ReadFault w) can x.0
    by_status Usage x = absurd (only_reading reading (plan_of command) Usage can x.0)
    by_status (Missing w) x = absurd (only_reading reading (plan_of command) (Missing w) can x.0)
    by_status (Format w e) x = absurd (only_reading reading (plan_of command) (Format w e) can x.0)
    by_status (Mismatch a b) x = absurd (only_reading reading (plan_of command) (Mismatch a b) can x.0)
    by_status (Settings w n) x = absurd (only_reading reading (plan_of command) (Settings w n) can x.0)

-- one whose saved index and certificate have no fault does all of it, or cannot read or write
pub answers_faultless : (reading : Reading) (writing : Writing) (command : Command) (status : Status)
    → Answers reading writing command status → CanAnswer reading.held command → IsFaultless reading.held command
    → IsAnswered reading.faults reading.later writing.faults writing.later status
answers_faultless reading writing command status answered can faultless =
    by_status status (answers_finish reading writing command status answered can)
  where
    by_status : (status : Status)
        → Finishes reading.held command reading.faults reading.later writing.faults writing.later status
        → IsAnswered reading.faults reading.later writing.faults writing.later status
    by_status (Invalid e) x = absurd (faultless (Invalid e) x)
    by_status (Index e) x = absurd (faultless (Index e) x)
    by_status Done x = x
    by_status Memory x = x
    by_status WriteFault x = x
    by_status (ReadFault w) x = x
    by_status Usage x = x
    by_status (Missing w) x = x
    by_status (Format w e) x = x
    by_status (Mismatch a b) x = x
    by_status (Settings w n) x = x

-- one whose saved index or certificate has a fault tells it, or cannot read
pub answers_exactly : (reading : Reading) (writing : Writing) (command : Command) (status : Status)
    → Answers reading writing command status → CanAnswer reading.held command
    → (told : Status) → HasFault reading.held (plan_of command) told
    → TellsFault reading.faults reading.later told status
answers_exactly reading writing command status answered can told has =
    by_status status answered (answers_finish reading writing command status answered can)
  where
    by_status : (status : Status) → Answers reading writing command status
        → Finishes reading.held command reading.faults reading.later writing.faults writing.later status
        → TellsFault reading.faults reading.later told status
    by_status Done x ends = absurd (right_without reading.held (plan_of command) x.0 told can x.1 has)
    by_status WriteFault x ends = absurd (right_without reading.held (plan_of command) x.0 told can x.1 has)
    by_status (Invalid e) x ends = one_told reading.held (plan_of command) (Invalid e) told can ends has
    by_status (Index e) x ends = one_told reading.held (plan_of command) (Index e) told can ends has
    by_status Memory x ends = ends
    by_status (ReadFault w) x ends = ends
    by_status Usage x ends = absurd ends
    by_status (Missing w) x ends = absurd ends
    by_status (Format w e) x ends = absurd ends
    by_status (Mismatch a b) x ends = absurd ends
    by_status (Settings w n) x ends = absurd ends

-- a status tells a cause
pub answers_cause : (reading : Reading) (writing : Writing) (command : Command) (status : Status)
    → Answers reading writing command status → TellsCause status
answers_cause reading writing command (Format w e) x = refuses_for_cause reading (plan_of command) (Format w e) x.0
answers_cause reading writing command (Invalid e) x = refuses_for_cause reading (plan_of command) (Invalid e) x.0
answers_cause reading writing command (Index e) x = refuses_for_cause reading (plan_of command) (Index e) x.0
answers_cause reading writing command Done x = tt
answers_cause reading writing command Memory x = tt
answers_cause reading writing command WriteFault x = tt
answers_cause reading writing command (ReadFault w) x = tt
answers_cause reading writing command Usage x = tt
answers_cause reading writing command (Missing w) x = tt
answers_cause reading writing command (Mismatch a b) x = tt
answers_cause reading writing command (Settings w n) x = tt

-- a command that the words ask for and that was answered ends a run, since no answer is that the words are none
pub answer_ends : (words : List (List ℕ)) (reading : Reading) (writing : Writing) (command : Command) (status : Status)
    → HasSettings words command → status ≢ Usage → Answers reading writing command status → Ends words reading writing status
answer_ends words reading writing command Usage asks other answered = absurd (other refl)
answer_ends words reading writing command Memory asks other answered = inr (command, asks, answered)
answer_ends words reading writing command Done asks other answered = (command, asks, answered)
answer_ends words reading writing command (Missing w) asks other answered = (command, asks, answered)
answer_ends words reading writing command (ReadFault w) asks other answered = (command, asks, answered)
answer_ends words reading writing command (Format w e) asks other answered = (command, asks, answered)
answer_ends words reading writing command (Mismatch a b) asks other answered = (command, asks, answered)
answer_ends words reading writing command (Settings w n) asks other answered = (command, asks, answered)
answer_ends words reading writing command WriteFault asks other answered = (command, asks, answered)
answer_ends words reading writing command (Invalid e) asks other answered = (command, asks, answered)
answer_ends words reading writing command (Index e) asks other answered = (command, asks, answered)
