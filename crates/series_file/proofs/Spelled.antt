-- A file whose parts came whole is spelled by its format.
use Rattle.std.proofs.Common.{◌≡◌, ℕ, zero, suc, ◌*◌, ◌<◌, ◌≤◌, List, [], ◌++◌, length, drop, true, false, Option, None, Some, refl, sym, ap, ◌∙◌, subst, ⊎_elim, arith}
use Rattle.std.specs.Prelude.{not, ◌^◌, if◌then◌else◌}
use Rattle.std.specs.List.{All, flat_map}
use Rattle.std.proofs.lemmas.Bool.{cases_Bool, cond-true}
use Rattle.std.proofs.lemmas.List.{take_all, nil_from_length}
use Rattle.std.proofs.lemmas.List.Elements.{All-nil, All-cons}
use Rattle.byteorder.specs.Numbers.{little_from-lt}
use Rattle.byteorder.specs.Endian.{little_number, little_bytes}
use Rattle.series_core.specs.Collection.{Collection, IsCollection}
use Rattle.series_core.specs.Flat.{rows_of, joined}
use Rattle.series_core.specs.declared.rows.TheConstants.{MAX_VALUES}
use Rattle.series_core.proofs.RowsOf.{length-rows_of, joined-rows_of}
use Rattle.series_file.specs.Items.{items_from, value_at, label_at}
use Rattle.series_file.specs.Format.{value_bytes as bytes_of_value, values_text, labels_text, IsFile, HasForm, text}
use Rattle.series_file.specs.Faults.{first_of, field, is_first, length_of, count_of, header_tests}
use Rattle.series_file.specs.Header.{header_of, IsHeader}
use Rattle.series_file.specs.Body.{label_bytes, value_bytes, labels_in, rows_in}
use Rattle.series_file.specs.declared.header.Header.{Header}
use Rattle.series_file.specs.declared.error.Form.TheVariants.{Headed, Raw}
use Rattle.series_file.proofs.Numbers.{AreBytes, drop_bytes, items_again, value_again, label_again}
use Rattle.series_file.proofs.Values.{length-items_from}
use Rattle.series_file.proofs.HeaderSpelled.{Passes, passes_all, header_one_again, header_two_again}

-- values that were read have their bytes
pub values_spelled : (h : Header) (vb : List ℕ) (rows : Collection) → AreBytes vb
    → length vb ≡ value_bytes h
    → rows.series ≡ rows_in h vb → values_text rows ≡ vb
values_spelled h vb rows each size series =
    let n : ℕ = h.count * h.length in
    let whole : n * 2 ≤ length vb = omega arith in
    let all : length vb ≤ n * 2 = omega arith in
    ap (λ rs. flat_map bytes_of_value (joined rs)) series
    ∙ ap (flat_map bytes_of_value)
    (joined-rows_of h.length h.count (items_from value_at 2 n vb)
    (length-items_from value_at 2 n vb))
    ∙ items_again value_at bytes_of_value 2 value_again n vb each whole
    ∙ take_all (n * 2) vb all

-- labels that were read have their bytes
pub labels_spelled : (count : ℕ) (lb : List ℕ) → AreBytes lb → length lb ≡ 8 * count
    → labels_text (items_from label_at 8 count lb) ≡ lb
labels_spelled count lb each size =
    items_again label_at (little_bytes 8) 8 label_again count lb each (omega arith)
    ∙ take_all (count * 8) lb (omega arith)

-- there is one label a series, each of eight bytes
labels_fit : (count : ℕ) (lb : List ℕ) → AreBytes lb
    → All (λ l. l < 2 ^ 64) (items_from label_at 8 count lb)
labels_fit zero lb each = All-nil (λ l. l < 2 ^ 64)
labels_fit (suc count) lb each =
    All-cons (λ l. l < 2 ^ 64) (label_at lb) (items_from label_at 8 count (drop 8 lb))
    (little_from-lt 0 8 lb each)
    (labels_fit count (drop 8 lb) (drop_bytes 8 lb each))

-- header, labels and values that came whole are a series file with a header
pub is_headed : (head lb vb : List ℕ) (rows : Collection) (labels : Option (List ℕ))
    → AreBytes head → length head ≡ 16 → first_of (header_tests head) ≡ None
    → IsHeader (header_of head)
    → AreBytes lb → length lb ≡ label_bytes (header_of head)
    → labels ≡ labels_in (header_of head) lb
    → AreBytes vb → length vb ≡ value_bytes (header_of head) → IsCollection rows
    → rows.points ≡ length_of head → rows.series ≡ rows_in (header_of head) vb
    → IsFile Headed (head ++ (lb ++ vb)) rows labels
is_headed head lb vb rows labels hb hs tests sound lbb ls le vbb vs collection points series =
    subst (λ (o : Option (List ℕ)). IsFile Headed (head ++ (lb ++ vb)) rows o) (sym le)
    (⊎_elim one_file two_file (cases_Bool (is_first head)))
  where
    h : Header
    h = header_of head

    count : length rows.series ≡ count_of head
    count = ap length series ∙ length-rows_of (length_of head) (count_of head)
        (items_from value_at 2 (count_of head * length_of head) vb)

    passed : Passes head
    passed = passes_all head tests

    total : length rows.series * rows.points ≤ MAX_VALUES
    total = rw (count, points) sound.values_limit

    values : values_text rows ≡ vb
    values = values_spelled (header_of head) vb rows vbb vs series

    no_labels : is_first head ≡ true → labels_in (header_of head) lb ≡ None
    no_labels e = ap (λ b. if not b then Some (items_from label_at 8 (count_of head) lb) else None)
        e

    with_labels : is_first head ≡ false
        → labels_in (header_of head) lb ≡ Some (items_from label_at 8 (count_of head) lb)
    with_labels e = ap (λ b. if not b then Some
        (items_from label_at 8 (count_of head) lb) else None) e

    as_file : (o : Option (List ℕ)) → labels_in (header_of head) lb ≡ o → HasForm Headed rows o
        → head ++ (lb ++ vb) ≡ text Headed rows o
        → IsFile Headed (head ++ (lb ++ vb)) rows (labels_in (header_of head) lb)
    as_file o is fits spelled = subst (λ (l : Option (List ℕ)). IsFile Headed (head ++ (lb ++ vb)) rows l) (sym is)
        (record { sound = collection; total = total; fits = fits; spelled = spelled })

    one_file : is_first head ≡ true
        → IsFile Headed (head ++ (lb ++ vb)) rows (labels_in (header_of head) lb)
    one_file e = as_file None (no_labels e) narrow
        (ap (λ xs. head ++ (xs ++ vb)) empty ∙ ap (λ xs. head ++ xs) (sym values)
        ∙ ap (λ xs. xs ++ values_text rows)
        (sym (header_one_again head rows hb hs passed e points count)))
      where
        empty : lb ≡ []
        empty = nil_from_length lb (ls ∙ ap (λ b. if not b then 8 * count_of head else 0) e)

        narrow : rows.points ≤ 65535
        narrow =
            let field_limit : little_number 2 (drop 6 head) < 256 ^ 2 =
            little_from-lt 0 2 (drop 6 head) (drop_bytes 6 head hb) in
            let same : rows.points ≡ little_number 2 (drop 6 head) = points
            ∙ cond-true (is_first head) (field 6 2 head) (field 8 4 head) e in
            rw same (omega (arith, field_limit))

    two_file : is_first head ≡ false
        → IsFile Headed (head ++ (lb ++ vb)) rows (labels_in (header_of head) lb)
    two_file e = as_file (Some (items_from label_at 8 (count_of head) lb)) (with_labels e)
        (length-items_from label_at 8 (count_of head) lb ∙ sym count, labels_fit (count_of head) lb lbb)
        (ap (λ xs. head ++ (xs ++ vb)) (sym (labels_spelled (count_of head) lb lbb size))
        ∙ ap (λ xs. head ++ (labels_text (items_from label_at 8 (count_of head) lb) ++ xs)) (sym values)
        ∙ ap (λ xs. xs ++ (labels_text (items_from label_at 8 (count_of head) lb) ++ values_text rows))
        (sym (header_two_again head rows hb hs passed e points count)))
      where
        size : length lb ≡ 8 * count_of head
        size = ls ∙ ap (λ b. if not b then 8 * count_of head else 0) e

-- values that came whole, as many as whole series have, are a raw series file
pub is_raw : (n count : ℕ) (vb : List ℕ) (rows : Collection)
    → AreBytes vb → length vb ≡ count * n * 2 → IsCollection rows → rows.points ≡ n
    → rows.series ≡ rows_of n count (items_from value_at 2 (count * n) vb) → count * n ≤ MAX_VALUES
    → IsFile (Raw n) vb rows None
is_raw n count vb rows each size collection points series limit =
    record {
      sound = collection;
      total = rw (
        ap length series ∙ length-rows_of n count
            (items_from value_at 2 (count * n) vb),
        points,
      ) limit;
      fits = (points, refl);
      spelled = sym
          (ap (λ rs. flat_map bytes_of_value (joined rs)) series
          ∙ ap (flat_map bytes_of_value)
          (joined-rows_of n count (items_from value_at 2 (count * n) vb)
          (length-items_from value_at 2 (count * n) vb))
          ∙ items_again value_at bytes_of_value 2 value_again (count * n) vb each (omega arith)
          ∙ take_all (count * n * 2) vb (omega arith));
    }
