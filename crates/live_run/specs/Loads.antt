-- A named file: what is known where it was read, and why it was refused.
use Rattle.std.specs.Prelude.{◌≡◌, ◌≢◌, ℕ, ◌<◌, ◌≤◌, ◌⊎◌, ⊤, zero, suc, List, length, Option, Some, IfSome}
use Rattle.outside.specs.Files.{Held}
use Rattle.series_core.specs.Collection.{Collection}
use Rattle.series_file.specs.Format.{IsFile}
use Rattle.series_file.specs.Faults.{fault}
use Rattle.series_file.specs.declared.error.Form.TheVariants.{Headed}
use Rattle.series_file.specs.declared.error.FileError.{FileError}
use Rattle.series_file.specs.declared.error.FileError.TheVariants.{ReadFault as FileReadFault, NoMemory}
use Rattle.live_script.specs.declared.script.NamedFile.{NamedFile}
use Rattle.live_script.specs.declared.script.Group.{Group}
use Rattle.live_script.specs.Grammar.{IsFault, IsScript}
use Rattle.run_traffic.specs.Traffic.{Reading}
use Rattle.run_traffic.specs.Named.{FailedReading, HoldsBytes, IsAbsent, IsShown}
use Rattle.live_run.specs.declared.script_file.TheConstants.{MOST_BYTES}
use Rattle.live_run.specs.declared.status.LiveStatus.{LiveStatus}
use Rattle.live_run.specs.declared.status.LiveStatus.TheVariants.{Missing, ReadFault, Format, Mismatch, Memory, Script}

-- why the file that this line names is refused: no file has the name, or opening or reading it failed, or memory ran out,
-- or its bytes show such a cause
abbrev pub RefusesNamed : ℕ → (LiveStatus → Type 0) → Reading → List ℕ → LiveStatus → Type 0
RefusesNamed line Shows reading name (Missing l) = (l ≡ line) × IsAbsent reading name
RefusesNamed line Shows reading name (ReadFault l) = (l ≡ line) × FailedReading reading name
RefusesNamed line Shows reading name Memory = ⊤
RefusesNamed line Shows reading name status = Shows status

-- the bytes are a series file with a header, of this collection
abbrev pub Spells : Collection → List ℕ → Type 0
Spells rows bytes = (labels : Option (List ℕ)) × IsFile Headed bytes rows labels

-- where known, the name is held as a series file of this collection
abbrev pub HoldsFile : Option Held → List ℕ → Collection → Type 0
HoldsFile held name rows = HoldsBytes held name (Spells rows)

-- the bytes are no series file, and the status has the line and the first test that fails
abbrev pub ShowsFault : ℕ → Option Held → List ℕ → LiveStatus → Type 0
ShowsFault line held name (Format l e) =
    (l ≡ line) × IsShown e × HoldsBytes held name (λ bytes. fault Headed bytes ≡ Some e)
ShowsFault line held name _ = ⊥

-- why the series file that this line names was not loaded
abbrev pub RefusesFile : Reading → NamedFile → LiveStatus → Type 0
RefusesFile reading file = RefusesNamed file.line (ShowsFault file.line reading.held file.name) reading file.name

-- the status for an error of a series file
abbrev pub refusal_of : ℕ → FileError → LiveStatus
refusal_of line FileReadFault = ReadFault line
refusal_of line NoMemory = Memory
refusal_of line e = Format line e

-- the length is that of the first file, where one was read
abbrev pub FitsLength : Option ℕ → ℕ → Type 0
FitsLength want have = IfSome want (λ w. have ≡ w)

-- the length is not that of the first file, and the status says so
abbrev pub Differs : ℕ → Option ℕ → ℕ → LiveStatus → Type 0
Differs line (Some want) have (Mismatch l h w) = (l ≡ line) × (h ≡ have) × (w ≡ want) × (have ≢ want)
Differs line want have _ = ⊥

-- why the file that this line names does not serve: it was not loaded, or its length is another than that of the first file
abbrev pub RefusesFitting : Reading → Option ℕ → NamedFile → LiveStatus → Type 0
RefusesFitting reading want file status = RefusesFile reading file status
    ⊎ ((rows : Collection) × HoldsFile reading.held file.name rows × Differs file.line want rows.points status)

-- the most bytes of a script
abbrev pub most_bytes : ℕ
most_bytes = MOST_BYTES

-- why bytes are no script: they are too many, or this line is the first that is not in the grammar
abbrev pub IsScriptFault : ℕ → List ℕ → Type 0
IsScriptFault zero bytes = most_bytes < length bytes
IsScriptFault (suc n) bytes = (length bytes ≤ most_bytes) × IsFault bytes (suc n)

-- the status says why the bytes that are held are no script
abbrev pub ShowsScript : Option Held → List ℕ → LiveStatus → Type 0
ShowsScript held name (Script at) = HoldsBytes held name (IsScriptFault at)
ShowsScript held name _ = ⊥

-- why the script of this name was not read
abbrev pub RefusesScript : Reading → List ℕ → LiveStatus → Type 0
RefusesScript reading name = RefusesNamed 0 (ShowsScript reading.held name) reading name

-- the bytes are the text of this script and of no other, and are not too many
pub record IsShortScript (groups : List Group) (bytes : List ℕ) : Type 0 where
  pub short : length bytes ≤ most_bytes
  pub spelled : IsScript bytes groups
  pub only : (others : List Group) → IsScript bytes others → groups ≡ others

-- bytes are the text of this script, and where known the name is held with them
abbrev pub HoldsScript : Option Held → List ℕ → List Group → Type 0
HoldsScript held name groups = (bytes : List ℕ) × IsShortScript groups bytes × HoldsBytes held name (λ b. b ≡ bytes)
