-- How a run of a script ends: for each status what shows it, and what was written.
use Rattle.std.specs.Prelude.{◌≡◌, ℕ, ◌==◌, ◌≤◌, ◌⊎◌, List, [], ◌∷◌, ◌++◌, Bool, true, false, not, length, take, Option, Result, Ok, Err, IsSomeAnd}
use Rattle.outside.specs.Count.{Rose}
use Rattle.outside.specs.Files.{Held}
use Rattle.live_script.specs.declared.script.Group.{Group}
use Rattle.live_run.specs.Groups.{AllPass, HasRoom, HoldsGroup, StopsAt, want_of}
use Rattle.live_run.specs.Loads.{HoldsScript, IsShortScript, RefusesScript}
use Rattle.run_traffic.specs.Named.{IsHeldAs, IsShown}
use Rattle.live_run.specs.Texts.{IsScriptText}
use Rattle.run_traffic.specs.Traffic.{Appended, Reading, Writing, WroteNothing}
use Rattle.live_run.specs.declared.group.Contents.{Contents}
use Rattle.live_run.specs.declared.status.LiveStatus.{LiveStatus}
use Rattle.live_run.specs.declared.status.LiveStatus.TheVariants.{Done, Usage, ReadFault, Format, WriteFault, Memory}

-- whether a word can name a script: it is not empty, and does not begin with `-`
abbrev pub can_name : List ℕ → Bool
can_name [] = false
can_name (c ∷ cs) = not (c == 45)

-- the words are the one name of a script
pub record Names (words : List (List ℕ)) (name : List ℕ) : Type 0 where
  pub one : words ≡ name ∷ []
  pub word : can_name name ≡ true

-- the first groups of a script, which were taken, with what their files hold and the text of them; and the others
pub record Taken (held : Option Held) (groups : List Group) : Type 0 where
  pub done : List Group
  pub rest : List Group
  pub all : groups ≡ done ++ rest
  pub contents : List Contents
  pub passed : AllPass held [] done contents
  pub text : List ℕ
  pub told : IsScriptText contents text

-- a next group's files hold this and its batch found room; so much was written of its text, which stands behind the others'
pub record StopsWriting (held : Option Held) (ahead : List Contents) (groups : List Group) (text written : List ℕ) : Type 0 where
  pub group : Group
  pub rest : List Group
  pub next : groups ≡ group ∷ rest
  pub contents : Contents
  pub holds : HoldsGroup held (want_of ahead) group contents
  pub room : HasRoom ahead contents
  pub piece : List ℕ
  pub told : IsScriptText (ahead ++ contents ∷ []) (text ++ piece)
  pub count : ℕ
  pub within : count ≤ length piece
  pub wrote : written ≡ text ++ take count piece

-- What shows each status of the groups of a script, and what was written: all of a right text; or that of the groups taken, for
-- a cause that stops the next one, and after a failed write also a prefix of the next one's.
abbrev pub GroupsEnd : Reading → Writing → List Group → LiveStatus → Type 0
GroupsEnd reading writing groups Done = (contents : List Contents) × (text : List ℕ) × AllPass reading.held [] groups contents
    × IsScriptText contents text × Appended writing text
GroupsEnd reading writing groups WriteFault = (taken : Taken reading.held groups) × (text : List ℕ)
    × StopsWriting reading.held taken.contents taken.rest taken.text text × Appended writing text × Rose writing.faults writing.later
GroupsEnd reading writing groups status = (taken : Taken reading.held groups)
    × StopsAt reading taken.contents taken.rest status × Appended writing taken.text

-- what shows each status of a run of the script of this name, and what was written
abbrev pub ScriptEnds : Reading → Writing → List ℕ → LiveStatus → Type 0
ScriptEnds reading writing name status = (RefusesScript reading name status × WroteNothing writing)
    ⊎ ((groups : List Group) × HoldsScript reading.held name groups × GroupsEnd reading writing groups status)

-- what shows each status of a run with these words, and what was written
abbrev pub Ends : List (List ℕ) → Reading → Writing → LiveStatus → Type 0
Ends words reading writing Usage = ((name : List ℕ) → Names words name → ⊥) × WroteNothing writing
Ends words reading writing status = (name : List ℕ) × Names words name × ScriptEnds reading writing name status

-- the status of work that ended so: without an error all of its text was written
abbrev pub ended : Result (Unit {0}) LiveStatus → LiveStatus
ended (Ok _) = Done
ended (Err status) = status

-- nothing keeps a run from its work: the words name a script, the files' contents are known, and all that it names is held and finds room
abbrev pub CanRun : List (List ℕ) → Option Held → Type 0
CanRun words held = (name : List ℕ) × Names words name × (groups : List Group) × (contents : List Contents)
    × IsSomeAnd held (λ h. IsHeldAs h name (IsShortScript groups)) × AllPass held [] groups contents

-- All of the text was written, or memory ran out, or reading or writing failed and was counted. The counts of faults are
-- those of reading before and after, and those of writing before and after.
abbrev pub IsAnswered : ℕ → ℕ → ℕ → ℕ → LiveStatus → Type 0
IsAnswered faults later lost more Done = Unit {0}
IsAnswered faults later lost more Memory = Unit {0}
IsAnswered faults later lost more (ReadFault line) = Rose faults later
IsAnswered faults later lost more WriteFault = Rose lost more
IsAnswered faults later lost more _ = ⊥

-- a status tells a cause that shows in the bytes of a file: neither a failed read nor want of memory is reported as one
abbrev pub TellsCause : LiveStatus → Type 0
TellsCause (Format line e) = IsShown e
TellsCause _ = Unit {0}
