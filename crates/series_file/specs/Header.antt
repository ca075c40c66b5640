-- What a header says of its file.
use Rattle.std.specs.Prelude.{◌≡◌, ℕ, ◌*◌, ◌<◌, ◌≤◌, Bool, List, None, Some, Result, MatchResult, not}
use Rattle.series_core.specs.declared.rows.TheConstants.{MAX_LENGTH, MAX_COUNT, MAX_VALUES}
use Rattle.series_file.specs.declared.header.Header.{Header}
use Rattle.series_file.specs.declared.error.FileError.{FileError}
use Rattle.series_file.specs.Faults.{first_of, is_first, length_of, count_of}

-- the header that the bytes spell
abbrev pub header_of : List ℕ → Header
header_of bytes = record { labelled = not (is_first bytes); length = length_of bytes; count = count_of bytes }

-- the limits are kept
pub record IsHeader (header : Header) : Type 0 where
  pub some_point : 0 < header.length
  pub length_limit : header.length ≤ MAX_LENGTH
  pub count_limit : header.count ≤ MAX_COUNT
  pub values_limit : header.count * header.length ≤ MAX_VALUES

-- what the tests give: this header where none fails, and else the error of the first that does
abbrev pub TestsTo : List (Bool × FileError) → Header → Result Header FileError → Type 0
TestsTo tests said result =
    MatchResult result (λ header. (first_of tests ≡ None) × (header ≡ said) × IsHeader header)
    (λ e. first_of tests ≡ Some e)
