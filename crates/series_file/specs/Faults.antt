-- What is wrong with a series file: the first test that fails, in the order of the tests.
use Rattle.std.specs.Prelude.{ℕ, ◌+◌, ◌*◌, ◌%◌, min, Bool, not, ◌||◌, List, [], ◌∷◌, ◌++◌, length, take, drop, Option, None, Some, nat_eq, nat_lt, if◌then◌else◌}
use Rattle.std.specs.Str.{bytes_eq}
use Rattle.byteorder.specs.Endian.{little_number}
use Rattle.series_core.specs.declared.rows.TheConstants.{MAX_LENGTH, MAX_COUNT, MAX_VALUES}
use Rattle.series_file.specs.Format.{magic}
use Rattle.series_file.specs.declared.error.Form.{Form}
use Rattle.series_file.specs.declared.error.Form.TheVariants.{Headed, Raw}
use Rattle.series_file.specs.declared.error.FileError.{FileError}
use Rattle.series_file.specs.declared.error.FileError.TheVariants.{ShortHeader, Magic, Version, Length, Count, Reserved, TooLarge, Truncated, Trailing, Uneven}

-- the error of the first test that holds
abbrev pub first_of : List (Bool × FileError) → Option FileError
first_of [] = None
first_of (t ∷ ts) = if t.0 then Some t.1 else first_of ts

-- the number in the n bytes from this place on
abbrev pub field : ℕ → ℕ → List ℕ → ℕ
field place n bytes = little_number n (drop place bytes)

abbrev pub version_of : List ℕ → ℕ
version_of bytes = field 4 2 bytes

-- whether the header is of version 1
abbrev pub is_first : List ℕ → Bool
is_first bytes = nat_eq (version_of bytes) 1

-- the length of a series, the number of series and the reserved field, each where its version has it
abbrev pub length_of : List ℕ → ℕ
length_of bytes = if is_first bytes then field 6 2 bytes else field 8 4 bytes

abbrev pub count_of : List ℕ → ℕ
count_of bytes = if is_first bytes then field 8 4 bytes else field 12 4 bytes

abbrev pub reserved_of : List ℕ → ℕ
reserved_of bytes = if is_first bytes then field 12 4 bytes else field 6 2 bytes

-- how many bytes the labels have
abbrev pub labels_size : List ℕ → ℕ
labels_size bytes = if is_first bytes then 0 else 8 * count_of bytes

-- how many bytes the whole file has by its header
abbrev pub size_of : List ℕ → ℕ
size_of bytes = 16 + labels_size bytes + 2 * (count_of bytes * length_of bytes)

-- the tests of a header's fields
abbrev pub field_tests : ℕ → ℕ → ℕ → List (Bool × FileError)
field_tests points count reserved =
    (nat_eq points 0 || nat_lt MAX_LENGTH points, Length points)
    ∷ (nat_lt MAX_COUNT count, Count count)
    ∷ (not (nat_eq reserved 0), Reserved reserved)
    ∷ (nat_lt MAX_VALUES (count * points), TooLarge (count * points))
    ∷ []

-- the tests of a header that is whole
abbrev pub header_tests : List ℕ → List (Bool × FileError)
header_tests bytes =
    (not (bytes_eq (take 4 bytes) magic), Magic)
    ∷ (not (is_first bytes || nat_eq (version_of bytes) 2), Version (version_of bytes))
    ∷ field_tests (length_of bytes) (count_of bytes) (reserved_of bytes)

-- the tests of the size that follow
abbrev pub size_tests : List ℕ → List (Bool × FileError)
size_tests bytes =
    (nat_lt (length bytes) (size_of bytes), Truncated (length bytes) (size_of bytes))
    ∷ (nat_lt (size_of bytes) (length bytes), Trailing (size_of bytes))
    ∷ []

-- the most bytes that a raw file of series of n values may have
abbrev pub raw_limit : ℕ → ℕ
raw_limit n = 2 * min (MAX_COUNT * n) MAX_VALUES

-- the first test that the file fails, with its values
abbrev pub fault : Form → List ℕ → Option FileError
fault Headed bytes =
    first_of ((nat_lt (length bytes) 16, ShortHeader (length bytes)) ∷ (header_tests bytes ++ size_tests bytes))
fault (Raw n) bytes =
    first_of
    ((nat_lt (raw_limit n) (length bytes), TooLarge (raw_limit n + 1))
    ∷ (not (nat_eq (length bytes % (2 * n)) 0), Uneven (length bytes))
    ∷ [])
