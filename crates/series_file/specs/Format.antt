-- How a series file is spelled: what stands in it, from its first byte to its last.
use Rattle.std.specs.Prelude.{◌≡◌, ℕ, ◌*◌, ◌^◌, ◌<◌, ◌≤◌, ℤ, List, [], ◌∷◌, ◌++◌, length, Option, None, Some}
use Rattle.std.specs.List.{All, flat_map, range_with_len}
use Rattle.std.specs.Int.{cast_unsigned}
use Rattle.byteorder.specs.Endian.{little_bytes}
use mir.Syntax.{w16}
use Rattle.series_core.specs.Collection.{Collection, IsCollection}
use Rattle.series_core.specs.Flat.{joined}
use Rattle.series_core.specs.declared.rows.TheConstants.{MAX_VALUES}
use Rattle.series_file.specs.declared.error.Form.{Form}
use Rattle.series_file.specs.declared.error.Form.TheVariants.{Headed, Raw}

-- the four bytes that a file with a header begins with: `ISER`
abbrev pub magic : List ℕ
magic = 73 ∷ 83 ∷ 69 ∷ 82 ∷ []

-- a value has two bytes, the lower first
abbrev pub value_bytes : ℤ → List ℕ
value_bytes v = little_bytes 2 (cast_unsigned w16 v)

-- how many values all series have
abbrev pub values_of : Collection → ℕ
values_of rows = length rows.series * rows.points

-- the values, series after series
abbrev pub values_text : Collection → List ℕ
values_text rows = flat_map value_bytes (joined rows.series)

-- the numbers of the series, from 0, in order
abbrev pub numbers_of : Collection → List ℕ
numbers_of rows = range_with_len 0 (length rows.series)

-- the labels, of eight bytes each
abbrev pub labels_text : List ℕ → List ℕ
labels_text labels = flat_map (little_bytes 8) labels

-- the header of version 1: magic, version, length of a series, number of series, reserved
abbrev pub header_one : Collection → List ℕ
header_one rows =
    magic ++ (little_bytes 2 1 ++ (little_bytes 2 rows.points ++ (little_bytes 4 (length rows.series) ++ little_bytes 4 0)))

-- the header of version 2: magic, version, reserved, length of a series, number of series
abbrev pub header_two : Collection → List ℕ
header_two rows =
    magic ++ (little_bytes 2 2 ++ (little_bytes 2 0 ++ (little_bytes 4 rows.points ++ little_bytes 4 (length rows.series))))

-- all bytes of a file: values alone, or a header of version 1 and values, or one of version 2, labels and values
abbrev pub text : Form → Collection → Option (List ℕ) → List ℕ
text (Raw n) rows labels = values_text rows
text Headed rows None = header_one rows ++ values_text rows
text Headed rows (Some labels) = header_two rows ++ (labels_text labels ++ values_text rows)

-- The collection has a spelling in this form: raw, its length is the given one and there are no labels;
-- without labels, its length fits two bytes; with labels, there is one a series.
abbrev pub HasForm : Form → Collection → Option (List ℕ) → Type 0
HasForm (Raw n) rows labels = (rows.points ≡ n) × (labels ≡ None)
HasForm Headed rows None = rows.points ≤ 65535
HasForm Headed rows (Some labels) = (length labels ≡ length rows.series) × All (λ l. l < 2 ^ 64) labels

-- the bytes are a series file of this form, and stand for this collection with these labels
pub record IsFile (form : Form) (bytes : List ℕ) (rows : Collection) (labels : Option (List ℕ)) : Type 0 where
  pub sound : IsCollection rows
  pub total : values_of rows ≤ MAX_VALUES
  pub fits : HasForm form rows labels
  pub spelled : bytes ≡ text form rows labels

-- the collection with these labels has a text in this form
abbrev pub HasText : Form → Collection → Option (List ℕ) → Type 0
HasText form rows labels = IsFile form (text form rows labels) rows labels

-- with no more values than a file may have, the bytes are the series file of this collection with these labels
abbrev pub SpellsFile : Collection → Option (List ℕ) → List ℕ → Type 0
SpellsFile rows labels bytes = values_of rows ≤ MAX_VALUES → IsFile Headed bytes rows labels
