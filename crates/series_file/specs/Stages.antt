-- What stands after each stage of reading a file.
use Rattle.std.specs.Prelude.{◌≡◌, ℕ, ◌<◌, ◌≤◌, ⊤, List, [], ◌∷◌, length, Bool, true, false, Option, None, Some, IfSome}
use Rattle.std.specs.List.{All}
use Rattle.std.specs.Io.KnownBytes.{prepend_known, IsAtEnd}
use Rattle.series_core.specs.declared.rows.TheConstants.{MAX_LENGTH}
use Rattle.series_file.specs.declared.header.Header.{Header}
use Rattle.series_file.specs.declared.error.Form.{Form}
use Rattle.series_file.specs.declared.error.Form.TheVariants.{Headed, Raw}
use Rattle.series_file.specs.declared.error.FileError.{FileError}
use Rattle.series_file.specs.declared.error.FileError.TheVariants.{ReadFault, NoMemory}
use Rattle.series_file.specs.Faults.{first_of, header_tests, fault}
use Rattle.series_file.specs.Header.{header_of, IsHeader}

-- a raw form has a length of a series
abbrev pub IsForm : Form → Type 0
IsForm Headed = ⊤
IsForm (Raw n) = (0 < n) × (n ≤ MAX_LENGTH)

-- a whole header was taken, and it passes its tests
pub record HeaderTaken (before now : Option (List ℕ)) (header : Header) (bytes : List ℕ) : Type 0 where
  pub taken : before ≡ prepend_known bytes now
  pub each : All (λ b. b < 256) bytes
  pub size : length bytes ≡ 16
  pub tests : first_of (header_tests bytes) ≡ None
  pub spelled : header ≡ header_of bytes
  pub sound : IsHeader header

abbrev pub HeaderCame : Option (List ℕ) → Option (List ℕ) → Header → Type 0
HeaderCame before now header = (bytes : List ℕ) × HeaderTaken before now header bytes

-- the file was at its end, or one more byte was taken
abbrev pub Ends : Bool → Option (List ℕ) → Option (List ℕ) → Type 0
Ends true before now = (before ≡ prepend_known [] now) × IsAtEnd now
Ends false before now = (byte : ℕ) × (before ≡ prepend_known (byte ∷ []) now)

-- the error is that of the file's bytes, where known, or one that no bytes explain
abbrev pub Explains : Form → Option (List ℕ) → FileError → Type 0
Explains form before ReadFault = ⊤
Explains form before NoMemory = ⊤
Explains form before e = IfSome before (λ bytes. fault form bytes ≡ Some e)
