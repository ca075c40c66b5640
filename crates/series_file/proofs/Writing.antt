-- Values written series after series are the text of the values.
use Rattle.std.proofs.Common.{◌≡◌, ℕ, zero, suc, ◌+◌, List, [], ◌∷◌, ◌++◌, length, take, Option, None, Some, sym, ap, ◌∙◌, append_assoc, append-nil, arith}
use Rattle.std.specs.Prelude.{ℤ, slice_get}
use Rattle.std.specs.List.{flat_map}
use Rattle.std.proofs.lemmas.Option.{none-some}
use Rattle.std.proofs.lemmas.List.Concat.{flat_map-append}
use Rattle.byteorder.specs.Endian.{little_bytes}
use Rattle.series_core.specs.Collection.{Collection}
use Rattle.series_core.specs.Flat.{joined}
use Rattle.series_file.specs.Format.{value_bytes, header_two}

-- what an option holds, or the given
abbrev held : {X : Type 0} → X → Option X → X
held x None = x
held x (Some y) = y

-- one row more is joined behind the rows before it
joined_next : (i : ℕ) (rows : List (List ℤ)) (row : List ℤ) → slice_get rows i ≡ Some row
    → joined (take (suc i) rows) ≡ joined (take i rows) ++ row
joined_next i [] row found = absurd (none-some row found)
joined_next zero (r ∷ rs) row found = append-nil r ∙ ap (held r) found
joined_next (suc i) (r ∷ rs) row found =
    ap (λ xs. r ++ xs) (joined_next i rs row found) ∙ sym (append_assoc r (joined (take i rs)) row)

-- the values of one row more are written behind those of the rows before it
pub values_next : (i : ℕ) (rows : List (List ℤ)) (row : List ℤ) (old : List ℕ)
    → slice_get rows i ≡ Some row
    → (old ++ flat_map value_bytes (joined (take i rows))) ++ flat_map value_bytes row
    ≡ old ++ flat_map value_bytes (joined (take (i + 1) rows))
values_next i rows row old found =
    append_assoc old (flat_map value_bytes (joined (take i rows))) (flat_map value_bytes row)
    ∙ ap (λ xs. old ++ xs)
    (sym (ap (flat_map value_bytes) (joined_next i rows row found)
    ∙ flat_map-append value_bytes (joined (take i rows)) row))
    ∙ ap (λ m. old ++ flat_map value_bytes (joined (take m rows))) next
  where
    next : suc i ≡ i + 1
    next = omega arith

-- the parts of the header of version 2, written one after another
pub header_two_written : (old one two three four : List ℕ) (rows : Collection)
    → one ≡ old ++ (73 ∷ 83 ∷ 69 ∷ 82 ∷ 2 ∷ 0 ∷ []) → two ≡ one ++ (0 ∷ 0 ∷ [])
    → three ≡ two ++ little_bytes 4 rows.points
    → four ≡ three ++ little_bytes 4 (length rows.series)
    → four ≡ old ++ header_two rows
header_two_written old one two three four rows e f g h =
    h ∙ ap (λ xs. xs ++ count) (g ∙ ap (λ xs. xs ++ points) (f ∙ ap (λ xs. xs ++ reserved) e))
    ∙ append_assoc ((old ++ version) ++ reserved) points count
    ∙ append_assoc (old ++ version) reserved (points ++ count)
    ∙ append_assoc old version (reserved ++ (points ++ count))
  where
    version : List ℕ
    version = 73 ∷ 83 ∷ 69 ∷ 82 ∷ 2 ∷ 0 ∷ []

    reserved : List ℕ
    reserved = 0 ∷ 0 ∷ []

    points : List ℕ
    points = little_bytes 4 rows.points

    count : List ℕ
    count = little_bytes 4 (length rows.series)
