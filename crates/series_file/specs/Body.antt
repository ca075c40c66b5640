-- What follows the header of a series file: labels, where it has them, then values, then the end.
use Rattle.std.specs.Prelude.{◌≡◌, ℕ, ◌+◌, ◌*◌, ◌<◌, ⊤, ℤ, List, [], ◌∷◌, length, Option, None, Some, IfSome, nat_lt, if◌then◌else◌}
use Rattle.std.specs.List.{All}
use Rattle.std.specs.Io.KnownBytes.{prepend_known, IsAtEnd}
use Rattle.series_core.specs.Collection.{IsCollection}
use Rattle.series_core.specs.Flat.{rows_of}
use Rattle.series_file.specs.declared.header.Header.{Header}
use Rattle.series_file.specs.declared.error.Loaded.{Loaded}
use Rattle.series_file.specs.declared.error.FileError.{FileError}
use Rattle.series_file.specs.declared.error.FileError.TheVariants.{ReadFault, NoMemory, Truncated, Trailing}
use Rattle.series_file.specs.Faults.{first_of}
use Rattle.series_file.specs.Items.{items_from, value_at, label_at}

-- how many bytes the labels, the values and the whole file have by the header
abbrev pub label_bytes : Header → ℕ
label_bytes h = if h.labelled then 8 * h.count else 0

abbrev pub value_bytes : Header → ℕ
value_bytes h = 2 * (h.count * h.length)

abbrev pub file_bytes : Header → ℕ
file_bytes h = 16 + label_bytes h + value_bytes h

-- the labels that these bytes spell
abbrev pub labels_in : Header → List ℕ → Option (List ℕ)
labels_in h bytes = if h.labelled then Some (items_from label_at 8 h.count bytes) else None

-- the values that these bytes spell, row by row
abbrev pub rows_in : Header → List ℕ → List (List ℤ)
rows_in h bytes = rows_of h.length h.count (items_from value_at 2 (h.count * h.length) bytes)

-- whole labels were taken
pub record LabelsTaken (h : Header) (before now : Option (List ℕ)) (labels : Option (List ℕ)) (bytes : List ℕ) : Type 0 where
  pub taken : before ≡ prepend_known bytes now
  pub each : All (λ b. b < 256) bytes
  pub size : length bytes ≡ label_bytes h
  pub spelled : labels ≡ labels_in h bytes

abbrev pub LabelsCame : Header → Option (List ℕ) → Option (List ℕ) → Option (List ℕ) → Type 0
LabelsCame h before now labels = (bytes : List ℕ) × LabelsTaken h before now labels bytes

-- all values were taken, and then the file is at its end
pub record ValuesTaken (h : Header) (before now : Option (List ℕ)) (labels : Option (List ℕ)) (loaded : Loaded)
    (bytes : List ℕ) : Type 0 where
  pub taken : before ≡ prepend_known bytes now
  pub end : IsAtEnd now
  pub each : All (λ b. b < 256) bytes
  pub size : length bytes ≡ value_bytes h
  pub sound : IsCollection loaded.rows
  pub points : loaded.rows.points ≡ h.length
  pub series : loaded.rows.series ≡ rows_in h bytes
  pub labels_kept : loaded.labels ≡ labels

abbrev pub ValuesCame : Header → Option (List ℕ) → Option (List ℕ) → Option (List ℕ) → Loaded → Type 0
ValuesCame h before now labels loaded = (bytes : List ℕ) × ValuesTaken h before now labels loaded bytes

-- the file ends too early or too late, where `before` bytes came before these
abbrev pub size_fault : Header → ℕ → List ℕ → Option FileError
size_fault h before rest =
    first_of
    ((nat_lt (before + length rest) (file_bytes h), Truncated (before + length rest) (file_bytes h))
    ∷ (nat_lt (file_bytes h) (before + length rest), Trailing (file_bytes h))
    ∷ [])

-- the error is that of the size, where the rest is known, or one that no bytes explain
abbrev pub ExplainsSize : Header → ℕ → Option (List ℕ) → FileError → Type 0
ExplainsSize h before rest ReadFault = ⊤
ExplainsSize h before rest NoMemory = ⊤
ExplainsSize h before rest e = IfSome rest (λ bytes. size_fault h before bytes ≡ Some e)
