-- The bytes of a file say which collection and which labels it stands for.
use Rattle.std.proofs.Common.{◌≡◌, ℕ, ◌+◌, ◌*◌, ◌/◌, ◌<◌, ◌≤◌, List, ◌++◌, length, drop, Option, None, Some, refl, sym, ap, ◌∙◌, subst, arith}
use Rattle.std.specs.Prelude.{ℤ, ◌^◌}
use Rattle.std.specs.List.{All}
use Rattle.std.proofs.lemmas.List.{drop_at, drop-drop}
use Rattle.std.proofs.Math.Nat.{mul-div_cancel, mul_comm, mul_assoc}
use Rattle.series_core.specs.Collection.{Collection, IsCollection}
use Rattle.series_core.specs.Flat.{rows_of}
use Rattle.series_file.specs.Items.{items_from, value_at, label_at}
use Rattle.series_file.specs.Format.{values_text, labels_text, header_one, header_two, IsFile}
use Rattle.series_file.specs.Faults.{length_of, count_of, labels_size}
use Rattle.series_file.specs.Header.{header_of}
use Rattle.series_file.specs.Body.{labels_in}
use Rattle.series_file.specs.declared.error.Form.{Form}
use Rattle.series_file.specs.declared.error.Form.TheVariants.{Headed, Raw}
use Rattle.series_file.proofs.ReadBack.{series_back, length-values_text, labels_back, length-labels_text, length_one, count_one, length_two, count_two}

-- the series of a file with a header, and its labels, by its bytes
abbrev series_by : ℕ → ℕ → List ℕ → List (List ℤ)
series_by n count bytes = rows_of n count (items_from value_at 2 (count * n) bytes)

abbrev series_of : List ℕ → List (List ℤ)
series_of bytes = series_by (length_of bytes) (count_of bytes)
    (drop (16 + labels_size bytes) bytes)

abbrev labels_of : List ℕ → Option (List ℕ)
labels_of bytes = labels_in (header_of bytes) (drop 16 bytes)

-- a collection and labels are these
record Said (n : ℕ) (stored : List (List ℤ)) (told : Option (List ℕ)) (rows : Collection)
    (held : Option (List ℕ)) : Type 0 where
  points : rows.points ≡ n
  series : rows.series ≡ stored
  labels : held ≡ told

-- the same numbers in the place of those that were read
series_same : (n m count total : ℕ) (bytes : List ℕ) → n ≡ m → count ≡ total
    → series_by n count bytes ≡ series_by m total bytes
series_same n m count total bytes e f =
    ap (λ k. series_by k count bytes) e ∙ ap (λ k. series_by m k bytes) f

-- twice as many values of series of n are series of twice as many
pub doubled : (count n : ℕ) → 2 * (count * n) ≡ count * (2 * n)
doubled count n = mul_comm 2 (count * n) ∙ mul_assoc count n 2 ∙ ap (λ m. count * m) (mul_comm n 2)

-- a file of version 1 says its collection
said_one : (rows : Collection) → IsCollection rows → rows.points ≤ 65535
    → Said (length_of (header_one rows ++ values_text rows))
    (series_of (header_one rows ++ values_text rows))
    (labels_of (header_one rows ++ values_text rows)) rows None
said_one rows sound narrow =
    let points = length_one rows (values_text rows) narrow in
    let count = count_one rows (values_text rows) sound in
    record {
      points = sym points;
      series = sym (series_same _ rows.points _ (length rows.series)
          (values_text rows) points count ∙ series_back rows sound);
      labels = refl;
    }

-- a file of version 2 says its collection and its labels
said_two : (rows : Collection) (labels : List ℕ) → IsCollection rows
    → length labels ≡ length rows.series
    → All (λ l. l < 2 ^ 64) labels
    → Said (length_of (header_two rows ++ (labels_text labels ++ values_text rows)))
    (series_of (header_two rows ++ (labels_text labels ++ values_text rows)))
    (labels_of (header_two rows ++ (labels_text labels ++ values_text rows))) rows (Some labels)
said_two rows labels sound each fits = record {
  points = sym points;
  series = sym
      (ap (λ xs. series_by (length_of bytes) (count_of bytes) xs) behind
      ∙ series_same _ rows.points _ (length rows.series) (values_text rows) points count
      ∙ series_back rows sound);
  labels = sym
      (ap (λ m. Some (items_from label_at 8 m (labels_text labels ++ values_text rows))) (count
      ∙ sym each)
      ∙ ap (λ ls. Some ls) (labels_back labels (values_text rows) fits));
}
  where
    bytes : List ℕ
    bytes = header_two rows ++ (labels_text labels ++ values_text rows)

    points : length_of bytes ≡ rows.points
    points = length_two rows (labels_text labels ++ values_text rows) sound

    count : count_of bytes ≡ length rows.series
    count = count_two rows (labels_text labels ++ values_text rows) sound

    size : length (labels_text labels) ≡ 8 * count_of bytes
    size = omega (arith, length-labels_text labels, each, count)

    behind : drop (16 + 8 * count_of bytes) bytes ≡ values_text rows
    behind =
        sym (drop-drop (8 * count_of bytes) 16 bytes)
        ∙ drop_at (labels_text labels) (values_text rows) (8 * count_of bytes) size

-- so does each file with a header
said_headed : (bytes : List ℕ) (rows : Collection) (labels : Option (List ℕ))
    → IsFile Headed bytes rows labels
    → Said (length_of bytes) (series_of bytes) (labels_of bytes) rows labels
said_headed bytes rows None file =
    subst (λ (bs : List ℕ). Said (length_of bs) (series_of bs) (labels_of bs) rows None)
    (sym file.spelled)
    (said_one rows file.sound file.fits)
said_headed bytes rows (Some labels) file =
    subst (λ (bs : List ℕ). Said (length_of bs) (series_of bs) (labels_of bs) rows (Some labels))
    (sym file.spelled)
    (said_two rows labels file.sound file.fits.0 file.fits.1)

-- and each raw file, of series of n values
said_raw : (n : ℕ) (bytes : List ℕ) (rows : Collection) (labels : Option (List ℕ))
    → IsFile (Raw n) bytes rows labels
    → Said n (series_by n (length bytes / (2 * n)) bytes) None rows labels
said_raw n bytes rows labels file = record {
  points = file.fits.0;
  series = sym
      (ap (λ xs. series_by n (length bytes / (2 * n)) xs) file.spelled
      ∙ series_same n rows.points _ (length rows.series) (values_text rows) (sym file.fits.0) count
      ∙ series_back rows file.sound);
  labels = file.fits.1;
}
  where
    some : 0 < n
    some = subst (λ (m : ℕ). 0 < m) file.fits.0 file.sound.some_point

    count : length bytes / (2 * n) ≡ length rows.series
    count =
        ap (λ m. m / (2 * n))
        (ap length file.spelled ∙ length-values_text rows file.sound
        ∙ ap (λ m. 2 * (length rows.series * m)) file.fits.0 ∙ doubled (length rows.series) n)
        ∙ mul-div_cancel (length rows.series) (omega (arith, some))

-- two that are the same are the same
same_said : (n : ℕ) (series : List (List ℤ)) (told : Option (List ℕ)) (rows others : Collection)
    (labels those : Option (List ℕ))
    → Said n series told rows labels → Said n series told others those
    → (rows ≡ others) × (labels ≡ those)
same_said n series told rows others labels those a b = (
  ap (λ (m : ℕ). record { points = m; series = rows.series }) (a.points ∙ sym b.points)
      ∙ ap (λ (rs : List (List ℤ)). record { points = others.points; series = rs }) (a.series
      ∙ sym b.series),
  a.labels ∙ sym b.labels,
)

-- the text of a collection is the text of no other
pub one_collection : (form : Form) (bytes : List ℕ) (rows others : Collection)
    (labels those : Option (List ℕ))
    → IsFile form bytes rows labels → IsFile form bytes others those
    → (rows ≡ others) × (labels ≡ those)
one_collection Headed bytes rows others labels those a b =
    same_said (length_of bytes) (series_of bytes) (labels_of bytes) rows others labels those
    (said_headed bytes rows labels a) (said_headed bytes others those b)
one_collection (Raw n) bytes rows others labels those a b =
    same_said n (series_by n (length bytes / (2 * n)) bytes) None rows others labels those
    (said_raw n bytes rows labels a) (said_raw n bytes others those b)
