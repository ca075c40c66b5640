-- What is read out of the text of a collection: the fields of its header, its labels and its values.
use Rattle.std.proofs.Common.{◌≡◌, ℕ, suc, ◌*◌, ◌<◌, ◌≤◌, List, [], ◌∷◌, ◌++◌, length, drop, refl, sym, ap, ◌∙◌, arith, append_assoc, append-nil, length-append}
use Rattle.std.specs.Prelude.{ℤ, pos, negsuc, FitsSigned, ◌^◌}
use Rattle.std.specs.List.{All, flat_map}
use Rattle.std.specs.Int.{cast_signed, cast_unsigned}
use Rattle.std.proofs.lemmas.Int.{to_z-of_z}
use Rattle.std.proofs.lemmas.List.{take_at, drop_at}
use Rattle.std.proofs.lemmas.List.Elements.{All-nil, All-append, All-head, All-tail}
use Rattle.std.proofs.Math.Nat.{suc-mul}
use mir.Syntax.{w16}
use Rattle.byteorder.specs.Endian.{little_bytes}
use Rattle.byteorder.specs.Numbers.{little_number-reads_back}
use Rattle.series_core.specs.Collection.{Collection, IsSeries, IsCollection}
use Rattle.series_core.specs.Flat.{rows_of, joined}
use Rattle.series_file.specs.Items.{items_from, value_at, label_at}
use Rattle.series_file.specs.Format.{value_bytes, values_text, labels_text, header_one, header_two}
use Rattle.series_file.specs.Faults.{length_of, count_of}

-- items are read out of their text
items_back : {X : Type 0} (at : List ℕ → X) (spelled : X → List ℕ) (n : ℕ) (P : X → Type 0)
    → ((x : X) (rest : List ℕ) → P x → at (spelled x ++ rest) ≡ x)
    → ((x : X) → length (spelled x) ≡ n)
    → (xs : List X) (rest : List ℕ) → All P xs
    → items_from at n (length xs) (flat_map spelled xs ++ rest) ≡ xs
items_back at spelled n P back size [] rest all = refl
items_back at spelled n P back size (x ∷ xs) rest all =
    ap (items_from at n (suc (length xs))) (append_assoc (spelled x) (flat_map spelled xs) rest)
    ∙ ap (λ y. y ∷ items_from at n (length xs) (drop n (spelled x ++ more)))
    (back x more (All-head P x xs all))
    ∙ ap (λ ys. x ∷ items_from at n (length xs) ys) (drop_at (spelled x) more n (size x))
    ∙ ap (λ ys. x ∷ ys) (items_back at spelled n P back size xs rest (All-tail P x xs all))
  where
    more : List ℕ
    more = flat_map spelled xs ++ rest

-- the text of items has n bytes for each
length-spelled : {X : Type 0} (spelled : X → List ℕ) (n : ℕ) → ((x : X) → length (spelled x) ≡ n)
    → (xs : List X) → length (flat_map spelled xs) ≡ length xs * n
length-spelled spelled n size [] =
    let none : 0 * n ≡ 0 = omega arith in sym none
length-spelled spelled n size (x ∷ xs) =
    omega (
      arith,
      length-append (spelled x)
          (flat_map spelled xs),
      size x,
      length-spelled spelled n size xs,
      suc-mul (length xs) n,
    )

-- a 16-bit value is a number of two bytes
unsigned_fits : (v : ℤ) → FitsSigned w16 v → cast_unsigned w16 v < 256 ^ 2
unsigned_fits (pos n) fits = omega (arith, fits)
unsigned_fits (negsuc n) fits = omega arith

-- a value is read out of its bytes
value_back : (v : ℤ) (rest : List ℕ) → FitsSigned w16 v → value_at (value_bytes v ++ rest) ≡ v
value_back v rest fits =
    ap (cast_signed w16) (little_number-reads_back 2 (cast_unsigned w16 v) rest
    (unsigned_fits v fits)) ∙ to_z-of_z w16 v fits

-- so is a label
label_back : (l : ℕ) (rest : List ℕ) → l < 2 ^ 64 → label_at (little_bytes 8 l ++ rest) ≡ l
label_back l rest fits = little_number-reads_back 8 l rest fits

-- the rows of the values of all rows are the rows
rows_back : (n : ℕ) (rows : List (List ℤ)) → All (IsSeries n) rows
    → rows_of n (length rows) (joined rows) ≡ rows
rows_back n [] each = refl
rows_back n (r ∷ rs) each =
    ap (λ x. x ∷ rows_of n (length rs) (drop n (r ++ joined rs)))
    (take_at r (joined rs) n first.points)
    ∙ ap (λ xs. r ∷ rows_of n (length rs) xs) (drop_at r (joined rs) n first.points)
    ∙ ap (λ xs. r ∷ xs) (rows_back n rs (All-tail (IsSeries n) r rs each))
  where
    first : IsSeries n r
    first = All-head (IsSeries n) r rs each

-- there are n values for each row, each of 16 bits
pub length-joined : (n : ℕ) (rows : List (List ℤ)) → All (IsSeries n) rows
    → length (joined rows) ≡ length rows * n
length-joined n [] each =
    let none : 0 * n ≡ 0 = omega arith in sym none
length-joined n (r ∷ rs) each =
    let first : IsSeries n r = All-head (IsSeries n) r rs each in
    omega (
      arith,
      length-append r (joined rs),
      first.points,
      length-joined n rs
          (All-tail (IsSeries n) r rs each),
      suc-mul (length rs) n,
    )

joined_fits : (n : ℕ) (rows : List (List ℤ)) → All (IsSeries n) rows
    → All (FitsSigned w16) (joined rows)
joined_fits n [] each = All-nil (FitsSigned w16)
joined_fits n (r ∷ rs) each =
    let first : IsSeries n r = All-head (IsSeries n) r rs each in
    All-append (FitsSigned w16) r (joined rs) first.values
    (joined_fits n rs (All-tail (IsSeries n) r rs each))

-- the series are read out of the text of the values
pub series_back : (rows : Collection) → IsCollection rows
    → rows_of rows.points (length rows.series)
    (items_from value_at 2 (length rows.series * rows.points) (values_text rows))
    ≡ rows.series
series_back rows sound =
    ap (rows_of rows.points (length rows.series))
    (ap (λ m. items_from value_at 2 m (values_text rows))
    (sym (length-joined rows.points rows.series sound.each)) ∙ values)
    ∙ rows_back rows.points rows.series sound.each
  where
    values : items_from value_at 2 (length (joined rows.series))
        (values_text rows) ≡ joined rows.series
    values =
        ap (items_from value_at 2 (length (joined rows.series)))
        (sym (append-nil (values_text rows)))
        ∙ items_back value_at value_bytes 2 (FitsSigned w16) value_back (λ v. refl)
        (joined rows.series) []
        (joined_fits rows.points rows.series sound.each)

-- the values have two bytes each
pub length-values_text : (rows : Collection) → IsCollection rows
    → length (values_text rows) ≡ 2 * (length rows.series * rows.points)
length-values_text rows sound =
    let size : length (values_text rows) ≡ length (joined rows.series) * 2 =
    length-spelled value_bytes 2 (λ v. refl) (joined rows.series) in
    omega (arith, size, length-joined rows.points rows.series sound.each)

-- the labels are read out of their text, of eight bytes each
pub labels_back : (labels rest : List ℕ) → All (λ l. l < 2 ^ 64) labels
    → items_from label_at 8 (length labels) (labels_text labels ++ rest) ≡ labels
labels_back labels rest each =
    items_back label_at (little_bytes 8) 8 (λ l. l < 2 ^ 64) label_back
    (λ l. refl) labels rest each

pub length-labels_text : (labels : List ℕ) → length (labels_text labels) ≡ length labels * 8
length-labels_text labels = length-spelled (little_bytes 8) 8 (λ l. refl) labels

-- the fields are read out of a header of version 1
pub length_one : (rows : Collection) (rest : List ℕ) → rows.points ≤ 65535
    → length_of (header_one rows ++ rest) ≡ rows.points
length_one rows rest narrow =
    little_number-reads_back 2 rows.points
    (little_bytes 4 (length rows.series) ++ (little_bytes 4 0 ++ rest)) (omega (arith, narrow))

pub count_one : (rows : Collection) (rest : List ℕ) → IsCollection rows
    → count_of (header_one rows ++ rest) ≡ length rows.series
count_one rows rest sound =
    little_number-reads_back 4 (length rows.series) (little_bytes 4 0 ++ rest)
    (omega (arith, sound.count_limit))

-- and of a header of version 2
pub length_two : (rows : Collection) (rest : List ℕ) → IsCollection rows
    → length_of (header_two rows ++ rest) ≡ rows.points
length_two rows rest sound =
    little_number-reads_back 4 rows.points (little_bytes 4 (length rows.series) ++ rest)
    (omega (arith, sound.length_limit))

pub count_two : (rows : Collection) (rest : List ℕ) → IsCollection rows
    → count_of (header_two rows ++ rest) ≡ length rows.series
count_two rows rest sound =
    little_number-reads_back 4 (length rows.series) rest (omega (arith, sound.count_limit))
