-- The text of a collection passes all tests.
use Rattle.std.proofs.Common.{◌≡◌, ℕ, ◌+◌, ◌*◌, ◌%◌, ◌<◌, ◌≤◌, List, [], ◌∷◌, ◌++◌, length, Bool, false, Option, None, Some, refl, sym, ap, ◌∙◌, subst, arith, length-append, mul-le-mul_right}
use Rattle.std.specs.Prelude.{not, ◌||◌, nat_eq, nat_lt}
use Rattle.std.proofs.lemmas.Bool.{cond-false}
use Rattle.std.proofs.lemmas.Bool.Decides.{nat_tests}
use Rattle.std.proofs.Math.Nat.{mul-mod_left}
use Rattle.series_core.specs.Collection.{Collection, IsCollection}
use Rattle.series_core.specs.declared.rows.TheConstants.{MAX_LENGTH, MAX_COUNT, MAX_VALUES}
use Rattle.series_file.specs.Format.{values_text, labels_text, header_one, header_two, IsFile}
use Rattle.series_file.specs.Faults.{first_of, length_of, count_of, field_tests, raw_limit, fault}
use Rattle.series_file.specs.Header.{header_of}
use Rattle.series_file.specs.Body.{file_bytes, size_fault}
use Rattle.series_file.specs.declared.header.Header.{Header}
use Rattle.series_file.specs.declared.error.Form.{Form}
use Rattle.series_file.specs.declared.error.Form.TheVariants.{Headed, Raw}
use Rattle.series_file.specs.declared.error.FileError.{FileError}
use Rattle.series_file.specs.declared.error.FileError.TheVariants.{Length, Count, Reserved, TooLarge, Truncated, Trailing, Uneven}
use Rattle.series_file.proofs.HeaderTests.{fault_size}
use Rattle.series_file.proofs.Unique.{doubled}
use Rattle.series_file.proofs.ReadBack.{length-values_text, length-labels_text, length_one, count_one, length_two, count_two}

-- a test that does not hold leaves the others
skip : (test : Bool) (e : FileError) (rest : List (Bool × FileError)) → test ≡ false
    → first_of rest ≡ None
    → first_of ((test, e) ∷ rest) ≡ None
skip test e rest fails none = cond-false test (Some e) (first_of rest) fails ∙ none

is_no_less : (a b : ℕ) → b ≤ a → nat_lt a b ≡ false
is_no_less a b h = grind (arith, nat_tests)

is_length : (points : ℕ) → 0 < points → points ≤ MAX_LENGTH
    → (nat_eq points 0 || nat_lt MAX_LENGTH points) ≡ false
is_length points some limit = grind (arith, nat_tests)

-- fields within the limits pass
fields_pass : (points count : ℕ) → 0 < points → points ≤ MAX_LENGTH → count ≤ MAX_COUNT
    → count * points ≤ MAX_VALUES
    → first_of (field_tests points count 0) ≡ None
fields_pass points count some limit counted total =
    let last : List (Bool × FileError) =
    (nat_lt MAX_VALUES (count * points), TooLarge (count * points)) ∷ [] in
    skip _ (Length points) ((nat_lt MAX_COUNT count, Count count) ∷ (false, Reserved 0) ∷ last)
    (is_length points some limit)
    (skip _ (Count count) ((false, Reserved 0) ∷ last) (is_no_less MAX_COUNT count counted)
    (skip false (Reserved 0) last refl
    (skip _ (TooLarge (count * points)) [] (is_no_less MAX_VALUES (count * points) total) refl)))

-- so do fields that tell the length and the count of a collection
limits_pass : (points count : ℕ) (rows : Collection) → IsCollection rows
    → length rows.series * rows.points ≤ MAX_VALUES → points ≡ rows.points → count ≡ length rows.series
    → first_of (field_tests points count 0) ≡ None
limits_pass points count rows sound total is_points is_count =
    ap (λ m. first_of (field_tests m count 0)) is_points
    ∙ ap (λ m. first_of (field_tests rows.points m 0)) is_count
    ∙ fields_pass rows.points (length rows.series) sound.some_point sound.length_limit sound.count_limit total

-- what follows the header has the right size
size_passes : (h : Header) (rest : List ℕ) → 16 + length rest ≡ file_bytes h
    → size_fault h 16 rest ≡ None
size_passes h rest e =
    skip _ (Truncated (16 + length rest) (file_bytes h))
    ((nat_lt (file_bytes h) (16 + length rest), Trailing (file_bytes h)) ∷ [])
    (is_no_less (16 + length rest) (file_bytes h) (omega (arith, e)))
    (skip _ (Trailing (file_bytes h)) []
    (is_no_less (file_bytes h) (16 + length rest) (omega (arith, e))) refl)

-- a file of version 1 passes
one_passes : (rows : Collection) → IsCollection rows
    → length rows.series * rows.points ≤ MAX_VALUES → rows.points ≤ 65535
    → fault Headed (header_one rows ++ values_text rows) ≡ None
one_passes rows sound total narrow =
    fault_size (header_one rows) (values_text rows) refl
    (limits_pass (length_of (header_one rows)) (count_of (header_one rows)) rows sound total points count)
    ∙ size_passes (header_of (header_one rows)) (values_text rows) size
  where
    points : length_of (header_one rows) ≡ rows.points
    points = length_one rows [] narrow

    count : count_of (header_one rows) ≡ length rows.series
    count = count_one rows [] sound

    size : 16 + length (values_text rows) ≡ file_bytes (header_of (header_one rows))
    size =
        ap (λ m. 16 + m) (length-values_text rows sound)
        ∙ ap (λ m. 16 + 2 * (length rows.series * m)) (sym points)
        ∙ ap (λ m. 16 + 2 * (m * length_of (header_one rows))) (sym count)

-- so does one of version 2
two_passes : (rows : Collection) (labels : List ℕ) → IsCollection rows
    → length rows.series * rows.points ≤ MAX_VALUES
    → length labels ≡ length rows.series
    → fault Headed (header_two rows ++ (labels_text labels ++ values_text rows)) ≡ None
two_passes rows labels sound total each =
    fault_size (header_two rows) (labels_text labels ++ values_text rows) refl
    (limits_pass (length_of (header_two rows)) (count_of (header_two rows)) rows sound total points count)
    ∙ size_passes (header_of (header_two rows)) (labels_text labels ++ values_text rows) size
  where
    points : length_of (header_two rows) ≡ rows.points
    points = length_two rows [] sound

    count : count_of (header_two rows) ≡ length rows.series
    count = count_two rows [] sound

    parts : length (labels_text labels ++ values_text rows) ≡ 8 * length rows.series + 2 *
        (length rows.series * rows.points)
    parts = omega (
      arith,
      length-append (labels_text labels) (values_text rows),
      length-labels_text labels,
      each,
      length-values_text rows sound,
    )

    size : 16 + length (labels_text labels ++ values_text rows) ≡ file_bytes
        (header_of (header_two rows))
    size =
        ap (λ m. 16 + m) parts
        ∙ by_sum (8 * length rows.series) (2 * (length rows.series * rows.points))
        ∙ ap (λ m. 16 + 8 * length rows.series + 2 * (length rows.series * m)) (sym points)
        ∙ ap (λ m. 16 + 8 * m + 2 * (m * length_of (header_two rows))) (sym count)
      where
        by_sum : (a b : ℕ) → 16 + (a + b) ≡ 16 + a + b
        by_sum a b = omega arith

-- whole series of n values leave no rest
even : (count n : ℕ) → 2 * (count * n) % (2 * n) ≡ 0
even count n = ap (λ m. m % (2 * n)) (doubled count n) ∙ mul-mod_left count (2 * n)

-- and a raw file
raw_passes : (n : ℕ) (bytes : List ℕ) (rows : Collection) (labels : Option (List ℕ))
    → IsFile (Raw n) bytes rows labels
    → fault (Raw n) bytes ≡ None
raw_passes n bytes rows labels file =
    skip _ (TooLarge (raw_limit n + 1))
    ((not (nat_eq (length bytes % (2 * n)) 0), Uneven (length bytes)) ∷ [])
    (is_no_less (raw_limit n) (length bytes) within)
    (skip _ (Uneven (length bytes)) [] (ap (λ m. not (nat_eq m 0)) whole) refl)
  where
    size : length bytes ≡ 2 * (length rows.series * n)
    size = ap length file.spelled ∙ length-values_text rows file.sound
        ∙ ap (λ m. 2 * (length rows.series * m)) file.fits.0

    total : length rows.series * n ≤ MAX_VALUES
    total = subst (λ (m : ℕ). length rows.series * m ≤ MAX_VALUES) file.fits.0 file.total

    product : length rows.series * n ≤ MAX_COUNT * n
    product = mul-le-mul_right n file.sound.count_limit

    within : length bytes ≤ raw_limit n
    within = omega (arith, size, total, product)

    whole : length bytes % (2 * n) ≡ 0
    whole = ap (λ m. m % (2 * n)) size ∙ even (length rows.series) n

-- a file that stands for a collection passes all tests
pub no_fault : (form : Form) (bytes : List ℕ) (rows : Collection) (labels : Option (List ℕ))
    → IsFile form bytes rows labels → fault form bytes ≡ None
no_fault Headed bytes rows None file =
    ap (fault Headed) file.spelled ∙ one_passes rows file.sound file.total file.fits
no_fault Headed bytes rows (Some labels) file =
    ap (fault Headed) file.spelled ∙ two_passes rows labels file.sound file.total file.fits.0
no_fault (Raw n) bytes rows labels file = raw_passes n bytes rows labels file
