-- Bytes that fail no test are a file, and stand for a collection.
use Rattle.std.proofs.Common.{◌≡◌, ℕ, zero, suc, ◌+◌, ◌*◌, ◌/◌, ◌%◌, ◌<◌, ◌≤◌, List, [], ◌∷◌, ◌++◌, length, take, drop, Bool, false, Option, None, Some, refl, sym, ap, ◌∙◌, subst, arith, length-drop}
use Rattle.std.specs.Prelude.{not, ◌||◌, nat_eq, nat_lt, FitsSigned}
use Rattle.std.specs.Str.{bytes_eq}
use Rattle.std.specs.List.{All}
use Rattle.std.proofs.lemmas.Bool.Decides.{nat_tests}
use Rattle.std.proofs.lemmas.Option.{none-some}
use Rattle.std.proofs.lemmas.List.{take-append-drop, length-take-le}
use Rattle.std.proofs.lemmas.List.Elements.{All-nil, All-cons, All-take, All-drop}
use Rattle.std.proofs.Math.Facts.{Fits-of_lt, sfits_to_z}
use mir.Syntax.{w16}
use Rattle.byteorder.specs.Endian.{little_number}
use Rattle.byteorder.specs.Numbers.{little_from-lt}
use Rattle.series_core.specs.Collection.{Collection, IsCollection}
use Rattle.series_core.specs.Flat.{rows_of}
use Rattle.series_core.specs.declared.rows.TheConstants.{MAX_LENGTH, MAX_COUNT, MAX_VALUES}
use Rattle.series_core.proofs.RowsOf.{is_collection}
use Rattle.series_file.specs.Items.{items_from, value_at}
use Rattle.series_file.specs.Format.{magic, IsFile}
use Rattle.series_file.specs.Faults.{first_of, version_of, is_first, length_of, count_of, reserved_of, field_tests, header_tests, size_tests, raw_limit, fault}
use Rattle.series_file.specs.Header.{header_of, IsHeader}
use Rattle.series_file.specs.Body.{label_bytes, value_bytes, file_bytes, size_fault, labels_in, rows_in}
use Rattle.series_file.specs.Stages.{IsForm}
use Rattle.series_file.specs.declared.header.Header.{Header}
use Rattle.series_file.specs.declared.error.Form.{Form}
use Rattle.series_file.specs.declared.error.Form.TheVariants.{Headed, Raw}
use Rattle.series_file.specs.declared.error.FileError.{FileError}
use Rattle.series_file.specs.declared.error.FileError.TheVariants.{ShortHeader, Magic, Version, Length, Count, Reserved, TooLarge, Truncated, Trailing, Uneven}
use Rattle.series_file.proofs.HeaderTests.{fault_header, fault_size}
use Rattle.series_file.proofs.Numbers.{are_bytes}
use Rattle.series_file.proofs.Values.{length-items_from}
use Rattle.series_file.proofs.RawValues.{raw_whole, raw_limits}
use Rattle.series_file.proofs.HeaderSpelled.{passes}
use Rattle.series_file.proofs.Spelled.{is_headed, is_raw}

-- what is no error is none
no_error : (o : Option FileError) → ((e : FileError) → o ≡ Some e → ⊥) → o ≡ None
no_error None never = refl
no_error (Some e) never = absurd (never e refl)

-- the limits that fields that pass keep
fields_keep : (points count reserved : ℕ) → first_of (field_tests points count reserved) ≡ None
    → (0 < points) × (points ≤ MAX_LENGTH) × (count ≤ MAX_COUNT) × (count * points ≤ MAX_VALUES)
fields_keep points count reserved none =
    let last : List (Bool × FileError) =
    (nat_lt MAX_VALUES (count * points), TooLarge (count * points)) ∷ [] in
    let third : List (Bool × FileError) = (not (nat_eq reserved 0), Reserved reserved) ∷ last in
    let second : List (Bool × FileError) = (nat_lt MAX_COUNT count, Count count) ∷ third in
    let one = passes (nat_eq points 0 || nat_lt MAX_LENGTH points) (Length points) second none in
    let two = passes (nat_lt MAX_COUNT count) (Count count) third one.1 in
    let three = passes (not (nat_eq reserved 0)) (Reserved reserved) last two.1 in
    let four = passes (nat_lt MAX_VALUES (count * points))
    (TooLarge (count * points)) [] three.1 in (
      some points one.0,
      limit points one.0,
      within MAX_COUNT count two.0,
      within MAX_VALUES
          (count * points) four.0,
    )
  where
    some : (p : ℕ) → (nat_eq p 0 || nat_lt MAX_LENGTH p) ≡ false → 0 < p
    some p e = grind (arith, nat_tests)

    limit : (p : ℕ) → (nat_eq p 0 || nat_lt MAX_LENGTH p) ≡ false → p ≤ MAX_LENGTH
    limit p e = grind (arith, nat_tests)

    within : (most n : ℕ) → nat_lt most n ≡ false → n ≤ most
    within most n e = grind (arith, nat_tests)

-- a header that passes keeps the limits
is_header : (head : List ℕ) → first_of (header_tests head) ≡ None → IsHeader (header_of head)
is_header head none =
    let fields : List (Bool × FileError) =
    field_tests (length_of head) (count_of head) (reserved_of head) in
    let one = passes (not (bytes_eq (take 4 head) magic)) Magic
    ((not (is_first head || nat_eq (version_of head) 2), Version (version_of head)) ∷ fields)
    none in
    let two = passes (not (is_first head || nat_eq (version_of head) 2))
    (Version (version_of head)) fields one.1 in
    let kept = fields_keep (length_of head) (count_of head) (reserved_of head) two.1 in
    record {
      some_point = kept.0;
      length_limit = kept.1;
      count_limit = kept.2;
      values_limit =
          kept.3;
    }

-- a size that passes is right
right_size : (h : Header) (rest : List ℕ) → size_fault h 16 rest ≡ None
    → 16 + length rest ≡ file_bytes h
right_size h rest none =
    let last : List (Bool × FileError) =
    (nat_lt (file_bytes h) (16 + length rest), Trailing (file_bytes h)) ∷ [] in
    let one = passes (nat_lt (16 + length rest) (file_bytes h))
    (Truncated (16 + length rest) (file_bytes h)) last none in
    let two = passes (nat_lt (file_bytes h) (16 + length rest))
    (Trailing (file_bytes h)) [] one.1 in
    same (16 + length rest) (file_bytes h) one.0 two.0
  where
    same : (a b : ℕ) → nat_lt a b ≡ false → nat_lt b a ≡ false → a ≡ b
    same a b e f = grind (arith, nat_tests)

-- values that were read are 16-bit values
values_fit : (count : ℕ) (bytes : List ℕ) → All (λ b. b < 256) bytes
    → All (FitsSigned w16) (items_from value_at 2 count bytes)
values_fit zero bytes each = All-nil (FitsSigned w16)
values_fit (suc count) bytes each =
    All-cons (FitsSigned w16) (value_at bytes) (items_from value_at 2 count (drop 2 bytes))
    (sfits_to_z {w = w16} {n = little_number 2 bytes}
    (Fits-of_lt (little_from-lt 0 2 bytes (are_bytes bytes each))))
    (values_fit count (drop 2 bytes) (All-drop (λ b. b < 256) 2 bytes each))

-- `count` series of n values, read out of bytes
read_rows : (n count : ℕ) (bytes : List ℕ) → 0 < n → n ≤ MAX_LENGTH → count ≤ MAX_COUNT
    → count * n ≤ MAX_VALUES
    → All (λ b. b < 256) bytes
    → IsCollection (record {
      points = n;
      series =
          rows_of n count (items_from value_at 2 (count * n) bytes);
    })
read_rows n count bytes some limit counted total each =
    let size : length (items_from value_at 2 (count * n) bytes) ≡ count * n =
    length-items_from value_at 2 (count * n) bytes in
    is_collection n count (items_from value_at 2 (count * n) bytes) (record {
      some_point = some;
      length_limit = limit;
      count_limit = counted;
      size = size;
      values_limit = omega (arith, size, total);
      each = values_fit (count * n) bytes each;
    })

-- a whole header and what follows it
headed_parts : (head rest : List ℕ) → length head ≡ 16 → All (λ b. b < 256) head
    → All (λ b. b < 256) rest
    → fault Headed (head ++ rest) ≡ None
    → (rows : Collection) × (labels : Option (List ℕ)) × IsFile Headed (head ++ rest) rows labels
headed_parts head rest size hb rb none = (
  rows,
  labels_in h lb,
  subst (λ (bs : List ℕ). IsFile Headed (head ++ bs) rows (labels_in h lb))
      (take-append-drop (label_bytes h) rest)
      (is_headed head lb vb rows (labels_in h lb) (are_bytes head hb) size tests sound
      (are_bytes lb (All-take (λ b. b < 256) (label_bytes h) rest rb))
      (length-take-le (label_bytes h) rest (omega (arith, whole)))
      refl (are_bytes vb vbytes) (omega (arith, whole, length-drop (label_bytes h) rest))
      (read_rows (length_of head) (count_of head)
      vb sound.some_point sound.length_limit sound.count_limit sound.values_limit vbytes)
      refl refl),
)
  where
    h : Header
    h = header_of head

    tests : first_of (header_tests head) ≡ None
    tests = no_error (first_of (header_tests head))
        (λ e some. none-some e (sym none ∙ fault_header head rest e size some))

    sound : IsHeader (header_of head)
    sound = is_header head tests

    whole : 16 + length rest ≡ 16 + label_bytes (header_of head) + value_bytes (header_of head)
    whole = right_size (header_of head) rest (sym (fault_size head rest size tests) ∙ none)

    lb : List ℕ
    lb = take (label_bytes (header_of head)) rest

    vb : List ℕ
    vb = drop (label_bytes (header_of head)) rest

    vbytes : All (λ b. b < 256) (drop (label_bytes (header_of head)) rest)
    vbytes = All-drop (λ b. b < 256) (label_bytes (header_of head)) rest rb

    rows : Collection
    rows = record {
      points = length_of head;
      series =
          rows_in (header_of head) (drop (label_bytes (header_of head)) rest);
    }

-- bytes that fail no test are a file
pub is_a_file : (form : Form) (bytes : List ℕ) → IsForm form → All (λ b. b < 256) bytes
    → fault form bytes ≡ None
    → (rows : Collection) × (labels : Option (List ℕ)) × IsFile form bytes rows labels
is_a_file Headed bytes sound each none =
    let long = passes (nat_lt (length bytes) 16) (ShortHeader (length bytes))
    (header_tests bytes ++ size_tests bytes) none in
    let parts = take-append-drop 16 bytes in
    subst (λ (bs : List ℕ). (rows : Collection) ×
    (labels : Option (List ℕ)) × IsFile Headed bs rows labels) parts
    (headed_parts (take 16 bytes) (drop 16 bytes)
    (length-take-le 16 bytes (whole (length bytes) long.0))
    (All-take (λ b. b < 256) 16 bytes each) (All-drop (λ b. b < 256) 16 bytes each)
    (ap (fault Headed) parts ∙ none))
  where
    whole : (m : ℕ) → nat_lt m 16 ≡ false → 16 ≤ m
    whole m e = grind (arith, nat_tests)
is_a_file (Raw n) bytes sound each none =
    let last : List (Bool × FileError) =
    (not (nat_eq (length bytes % (2 * n)) 0), Uneven (length bytes)) ∷ [] in
    let one = passes (nat_lt (raw_limit n) (length bytes))
    (TooLarge (raw_limit n + 1)) last none in
    let two = passes (not (nat_eq (length bytes % (2 * n)) 0)) (Uneven (length bytes)) [] one.1 in
    let even : length bytes % (2 * n) ≡ 0 = no_rest (length bytes % (2 * n)) two.0 in
    let limits = raw_limits n (length bytes) sound.0
    (within (raw_limit n) (length bytes) one.0) even in
    let q : ℕ = length bytes / (2 * n) in
    let rows : Collection = record {
      points = n;
      series =
          rows_of n q (items_from value_at 2 (q * n) bytes);
    } in (
      rows,
      None,
      is_raw n q bytes rows (are_bytes bytes each) (raw_whole n (length bytes) even)
          (read_rows n q bytes sound.0 sound.1 limits.0 limits.1 each) refl refl limits.1,
    )
  where
    no_rest : (m : ℕ) → not (nat_eq m 0) ≡ false → m ≡ 0
    no_rest m e = grind (arith, nat_tests)

    within : (most m : ℕ) → nat_lt most m ≡ false → m ≤ most
    within most m e = grind (arith, nat_tests)
