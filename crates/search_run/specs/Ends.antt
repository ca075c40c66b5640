-- How a run ends: for each status what shows it, and what was written.
use Rattle.std.specs.Prelude.{◌≡◌, ℕ, ◌<◌, ◌⊎◌, List, length, Option, Result, Ok, Err}
use Rattle.std.specs.Io.KnownBytes.{append_known}
use Rattle.outside.specs.Count.{Rose}
use Rattle.outside.specs.Files.{Held}
use Rattle.outside.specs.Sink.{AppendsPrefix}
use Rattle.command_words.specs.Settings.{HasSettings}
use Rattle.command_words.specs.declared.command.Command.{Command}
use Rattle.search_run.specs.Certificates.{CanBeFault}
use Rattle.search_run.specs.Commands.{CanAnswer, plan_of}
use Rattle.search_run.specs.Indexes.{CanBeIndexFault}
use Rattle.search_run.specs.Loads.{IsShown}
use Rattle.search_run.specs.Plans.{HasFault, Plan, Refuses, Writes}
use Rattle.run_traffic.specs.Traffic.{Reading, Writing}
pub use Rattle.run_traffic.specs.Traffic.{WroteNothing}
use Rattle.search_run.specs.declared.status.Status.{Status}
use Rattle.search_run.specs.declared.status.Status.TheVariants.{Done, Usage, ReadFault, Format, WriteFault, Memory, Invalid, Index}

-- What shows each status of work that such causes refuse, and what was written: all of a right text, a prefix of a
-- beginning where writing failed, a prefix of one or nothing where memory ran out, and else nothing, for a cause.
abbrev pub ConcludesBy : (List ℕ → Type 0) → (List ℕ → Type 0) → (Status → Type 0) → Writing → Status → Type 0
ConcludesBy IsRight IsBeginning Refused writing Done =
    (text : List ℕ) × IsRight text × (writing.now ≡ append_known writing.before text)
ConcludesBy IsRight IsBeginning Refused writing WriteFault = (text : List ℕ) × IsBeginning text
    × AppendsPrefix writing.before text writing.now × Rose writing.faults writing.later × (writing.sure < length text)
ConcludesBy IsRight IsBeginning Refused writing Memory = WroteNothing writing
    ⊎ ((text : List ℕ) × IsBeginning text × AppendsPrefix writing.before text writing.now)
ConcludesBy IsRight IsBeginning Refused writing status = Refused status × WroteNothing writing

-- the same where what was written is in each case a beginning of a whole text that is right
abbrev pub Concludes : (List ℕ → Type 0) → (Status → Type 0) → Writing → Status → Type 0
Concludes IsRight Refused writing status = ConcludesBy IsRight IsRight Refused writing status

-- the status of work that ended so: without an error all of its text was written
abbrev pub ended : Result (Unit {0}) Status → Status
ended (Ok _) = Done
ended (Err status) = status

-- what shows each status of work that goes by this plan, and what was written
abbrev pub Follows : Plan → Reading → Writing → Status → Type 0
Follows plan reading writing status = Concludes (Writes reading.held plan) (Refuses reading plan) writing status

-- what shows each status of a command, and what was written
abbrev pub Answers : Reading → Writing → Command → Status → Type 0
Answers reading writing command status = Follows (plan_of command) reading writing status

-- the words have no command, or memory ran out before they were read
abbrev pub NoCommand : List (List ℕ) → Status → Type 0
NoCommand words Usage = (command : Command) → HasSettings words command → ⊥
NoCommand words Memory = Unit {0}
NoCommand words _ = ⊥

-- what shows each status of a run, and what was written
abbrev pub Ends : List (List ℕ) → Reading → Writing → Status → Type 0
Ends words reading writing Usage = ((command : Command) → HasSettings words command → ⊥) × WroteNothing writing
Ends words reading writing Memory = WroteNothing writing
    ⊎ ((command : Command) × HasSettings words command × Answers reading writing command Memory)
Ends words reading writing status =
    (command : Command) × HasSettings words command × Answers reading writing command status

-- the words ask for this command, and nothing keeps it from its work
abbrev pub CanSearch : List (List ℕ) → Option Held → Command → Type 0
CanSearch words held command = HasSettings words command × CanAnswer held command

-- All of the text was written, or memory ran out, or reading or writing failed and was counted. The counts of
-- faults are those of reading before and after, and those of writing before and after.
abbrev pub IsAnswered : ℕ → ℕ → ℕ → ℕ → Status → Type 0
IsAnswered faults later lost more Done = Unit {0}
IsAnswered faults later lost more Memory = Unit {0}
IsAnswered faults later lost more (ReadFault which) = Rose faults later
IsAnswered faults later lost more WriteFault = Rose lost more
IsAnswered faults later lost more _ = ⊥

-- the same, or the saved index or the certificate that the command tests has the fault that is reported
abbrev pub Finishes : Option Held → Command → ℕ → ℕ → ℕ → ℕ → Status → Type 0
Finishes held command faults later lost more (Invalid fault) = HasFault held (plan_of command) (Invalid fault)
Finishes held command faults later lost more (Index fault) = HasFault held (plan_of command) (Index fault)
Finishes held command faults later lost more status = IsAnswered faults later lost more status

-- the saved index and the certificate that the command tests have no fault, where it tests such
abbrev pub IsFaultless : Option Held → Command → Type 0
IsFaultless held command = (told : Status) → HasFault held (plan_of command) told → ⊥

-- The status is the one that tells a fault, or memory ran out, or reading failed and was counted.
abbrev pub TellsFault : ℕ → ℕ → Status → Status → Type 0
TellsFault faults later told Memory = Unit {0}
TellsFault faults later told (ReadFault which) = Rose faults later
TellsFault faults later told status = status ≡ told

-- A status tells a cause that shows in the bytes of a file: neither a failed read nor want of memory is reported as one.
abbrev pub TellsCause : Status → Type 0
TellsCause (Format w e) = IsShown e
TellsCause (Invalid fault) = CanBeFault fault
TellsCause (Index fault) = CanBeIndexFault fault
TellsCause _ = Unit {0}
