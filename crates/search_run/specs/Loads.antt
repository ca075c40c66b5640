-- A named file: what is known where it was read, and why it was refused; and a named series file.
use Rattle.std.specs.Prelude.{◌≡◌, ℕ, ⊤, List, Option, None, Some}
use Rattle.outside.specs.Files.{Held}
use Rattle.series_file.specs.Format.{HasText, IsFile}
use Rattle.series_file.specs.Faults.{fault}
use Rattle.series_file.specs.declared.error.Form.{Form}
use Rattle.series_file.specs.declared.error.Form.TheVariants.{Headed, Raw}
use Rattle.series_file.specs.declared.error.FileError.{FileError}
use Rattle.series_file.specs.declared.error.Loaded.{Loaded}
use Rattle.series_file.specs.declared.error.FileError.TheVariants.{ReadFault as FileReadFault, NoMemory}
use Rattle.run_traffic.specs.Named.{FailedReading, IsAbsent}
use Rattle.run_traffic.specs.Traffic.{Reading}
pub use Rattle.run_traffic.specs.Named.{HoldsBytes, IsHeldAs, IsShown}
use Rattle.search_run.specs.declared.status.Which.{Which}
use Rattle.search_run.specs.declared.status.Status.{Status}
use Rattle.search_run.specs.declared.status.Status.TheVariants.{Missing, ReadFault, Format, Memory}

-- why the file of this name is refused that has this role: no file has the name, or opening or reading it failed,
-- or memory ran out, or its bytes show such a cause
abbrev pub RefusesNamed : Which → (Status → Type 0) → Reading → List ℕ → Status → Type 0
RefusesNamed w Shows reading name (Missing v) = (v ≡ w) × IsAbsent reading name
RefusesNamed w Shows reading name (ReadFault v) = (v ≡ w) × FailedReading reading name
RefusesNamed w Shows reading name Memory = ⊤
RefusesNamed w Shows reading name status = Shows status

-- series files are raw where a length is given, and have a header where none is
abbrev pub form_of : Option ℕ → Form
form_of None = Headed
form_of (Some n) = Raw n

-- the bytes are a series file of this form with this content
abbrev pub Spells : Form → Loaded → List ℕ → Type 0
Spells form loaded bytes = IsFile form bytes loaded.rows loaded.labels

-- What was loaded of a name: series of one length within the limits, of values of 16 bits, with a label for each
-- where there are any, as this form spells them; and where the files' contents are known, the name is held with that content.
pub record HoldsFile (held : Option Held) (name : List ℕ) (form : Form) (loaded : Loaded) : Type 0 where
  pub formed : HasText form loaded.rows loaded.labels
  pub told : HoldsBytes held name (Spells form loaded)

-- the file of this role and name is no series file of this form, and the status has the first test that fails
abbrev pub ShowsFault : Which → Option Held → List ℕ → Form → Status → Type 0
ShowsFault w held name form (Format v e) =
    (v ≡ w) × IsShown e × HoldsBytes held name (λ bytes. fault form bytes ≡ Some e)
ShowsFault w held name form _ = ⊥

-- why the series file of this role and name was not loaded: each status with what shows it
abbrev pub RefusesFile : Which → Reading → List ℕ → Form → Status → Type 0
RefusesFile w reading name form = RefusesNamed w (ShowsFault w reading.held name form) reading name

-- the status for an error of a series file
abbrev pub refusal_of : Which → FileError → Status
refusal_of w FileReadFault = ReadFault w
refusal_of w NoMemory = Memory
refusal_of w e = Format w e
