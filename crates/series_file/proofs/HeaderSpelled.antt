-- A header that passes its tests is spelled by its fields.
use Rattle.std.proofs.Common.{◌≡◌, ℕ, ◌+◌, ◌*◌, ◌≤◌, List, [], ◌∷◌, ◌++◌, length, take, drop, Bool, true, false, None, Some, refl, sym, ap, ◌∙◌, ⊎_elim, arith, length-drop}
use Rattle.std.specs.Prelude.{not, nat_eq, nat_lt, ◌||◌}
use Rattle.std.specs.Str.{bytes_eq}
use Rattle.std.specs.Cmp.Lexicographic.{bytes_decides}
use Rattle.std.proofs.lemmas.Bool.{cases_Bool, cond-true, cond-false, true≢false}
use Rattle.std.proofs.lemmas.Bool.Decides.{nat_tests}
use Rattle.std.proofs.lemmas.Option.{none-some}
use Rattle.std.proofs.lemmas.List.{take-append-drop, take_all, drop-drop}
use Rattle.byteorder.specs.Endian.{little_bytes}
use Rattle.series_core.specs.Collection.{Collection}
use Rattle.series_core.specs.declared.rows.TheConstants.{MAX_LENGTH, MAX_COUNT, MAX_VALUES}
use Rattle.series_file.specs.Format.{magic, header_one, header_two}
use Rattle.series_file.specs.Faults.{first_of, field, version_of, is_first, length_of, count_of, reserved_of, header_tests}
use Rattle.series_file.specs.declared.error.FileError.{FileError}
use Rattle.series_file.specs.declared.error.FileError.TheVariants.{Magic, Version, Length, Count, Reserved, TooLarge}
use Rattle.series_file.proofs.Numbers.{AreBytes, drop_bytes, bytes_again}

-- two numbers that the test finds equal are one number
is_equal : (m n : ℕ) → nat_eq m n ≡ true → m ≡ n
is_equal m n h = grind (arith, nat_tests)

-- a first test that passes fails nothing, nor do those behind it
pub passes : (test : Bool) (e : FileError) (rest : List (Bool × FileError))
    → first_of ((test, e) ∷ rest) ≡ None
    → (test ≡ false) × (first_of rest ≡ None)
passes test e rest none =
    ⊎_elim
    (λ (t : test ≡ true). absurd (none-some e (sym none
    ∙ cond-true test (Some e) (first_of rest) t)))
    (λ (f : test ≡ false). (f, sym (cond-false test (Some e) (first_of rest) f) ∙ none))
    (cases_Bool test)

-- what a header that passes its tests has in its fields
pub record Passes (bytes : List ℕ) : Type 0 where
  pub magic : take 4 bytes ≡ magic
  pub version : (is_first bytes || nat_eq (version_of bytes) 2) ≡ true
  pub reserved : reserved_of bytes ≡ 0

-- where none of five tests fails, the first, the second and the fifth pass
five_pass : (a b c d r : Bool) (e f g h i : FileError) (rest : List (Bool × FileError))
    → first_of ((a, e) ∷ (b, f) ∷ (c, g) ∷ (d, h) ∷ (r, i) ∷ rest) ≡ None
    → (a ≡ false) × (b ≡ false) × (r ≡ false)
five_pass a b c d r e f g h i rest none =
    let one = passes a e ((b, f) ∷ (c, g) ∷ (d, h) ∷ (r, i) ∷ rest) none in
    let two = passes b f ((c, g) ∷ (d, h) ∷ (r, i) ∷ rest) one.1 in
    let three = passes c g ((d, h) ∷ (r, i) ∷ rest) two.1 in
    let four = passes d h ((r, i) ∷ rest) three.1 in
    let five = passes r i rest four.1 in
    (one.0, two.0, five.0)

not_false : (b : Bool) → not b ≡ false → b ≡ true
not_false true e = refl
not_false false e = absurd (true≢false e)

pub passes_all : (bytes : List ℕ) → first_of (header_tests bytes) ≡ None → Passes bytes
passes_all bytes none =
    let p = five_pass
    (not (bytes_eq (take 4 bytes) magic)) (not (is_first bytes || nat_eq (version_of bytes) 2))
    (nat_eq (length_of bytes) 0 || nat_lt MAX_LENGTH (length_of bytes))
    (nat_lt MAX_COUNT (count_of bytes))
    (not (nat_eq (reserved_of bytes) 0))
    Magic (Version (version_of bytes)) (Length (length_of bytes)) (Count (count_of bytes))
    (Reserved (reserved_of bytes))
    ((
      nat_lt MAX_VALUES (count_of bytes * length_of bytes),
      TooLarge
          (count_of bytes * length_of bytes),
    ) ∷ []) none in
    record {
      magic = (bytes_decides (take 4 bytes) magic).0 (not_false _ p.0);
      version = not_false _ p.1;
      reserved = is_zero (reserved_of bytes) (not_false _ p.2);
    }
  where
    is_zero : (n : ℕ) → nat_eq n 0 ≡ true → n ≡ 0
    is_zero n h = grind (arith, nat_tests)

-- five fields in a row are the sixteen bytes
fields : (bytes : List ℕ) → length bytes ≡ 16
    → take 4 bytes ++ (take 2 (drop 4 bytes) ++
    (take 2 (drop 6 bytes) ++ (take 4 (drop 8 bytes) ++ take 4 (drop 12 bytes)))) ≡ bytes
fields bytes size =
    ap (λ xs. take 4 bytes ++ xs)
    (ap (λ xs. take 2 (drop 4 bytes) ++ xs)
    (ap (λ xs. take 2 (drop 6 bytes) ++ xs)
    (ap (λ xs. take 4 (drop 8 bytes) ++ xs)
    (take_all 4 (drop 12 bytes) (omega (arith, length-drop 12 bytes)))
    ∙ next 4 8 12 refl)
    ∙ next 2 6 8 refl)
    ∙ next 2 4 6 refl)
    ∙ take-append-drop 4 bytes
  where
    next : (n place end : ℕ) → place + n ≡ end
        → take n (drop place bytes) ++ drop end bytes ≡ drop place bytes
    next n place end e =
        ap (λ xs. take n (drop place bytes) ++ xs) (ap (λ m. drop m bytes) (sym e)
        ∙ sym (drop-drop n place bytes))
        ∙ take-append-drop n (drop place bytes)

-- a field of n bytes at a place, spelled again
field_again : (place n : ℕ) (bytes : List ℕ) → AreBytes bytes → length bytes ≡ 16 → place + n ≤ 16
    → little_bytes n (field place n bytes) ≡ take n (drop place bytes)
field_again place n bytes each size within =
    bytes_again n (drop place bytes) (drop_bytes place bytes each)
    (omega (arith, length-drop place bytes))

-- a header of version 1 is spelled by its fields
pub header_one_again : (bytes : List ℕ) (rows : Collection) → AreBytes bytes → length bytes ≡ 16
    → Passes bytes → is_first bytes ≡ true → rows.points ≡ length_of bytes → length rows.series ≡ count_of bytes
    → header_one rows ≡ bytes
header_one_again bytes rows each size passed first points count =
    ap (λ m. m ++ (little_bytes 2 1 ++
    (little_bytes 2 rows.points ++ (little_bytes 4 (length rows.series) ++ little_bytes 4 0))))
    (sym passed.magic)
    ∙ ap (λ m. take 4 bytes ++ (m ++
    (little_bytes 2 rows.points ++ (little_bytes 4 (length rows.series) ++ little_bytes 4 0))))
    (ap (little_bytes 2) (sym version) ∙ field_again 4 2 bytes each size (omega arith))
    ∙ ap (λ m. take 4 bytes ++ (take 2 (drop 4 bytes) ++
    (m ++ (little_bytes 4 (length rows.series) ++ little_bytes 4 0))))
    (ap (little_bytes 2) (points ∙ cond-true (is_first bytes) (field 6 2 bytes)
    (field 8 4 bytes) first) ∙ field_again 6 2 bytes each size (omega arith))
    ∙ ap (λ m. take 4 bytes ++ (take 2 (drop 4 bytes) ++
    (take 2 (drop 6 bytes) ++ (m ++ little_bytes 4 0))))
    (ap (little_bytes 4) (count ∙ cond-true (is_first bytes) (field 8 4 bytes)
    (field 12 4 bytes) first) ∙ field_again 8 4 bytes each size (omega arith))
    ∙ ap (λ m. take 4 bytes ++ (take 2 (drop 4 bytes) ++
    (take 2 (drop 6 bytes) ++ (take 4 (drop 8 bytes) ++ m))))
    (ap (little_bytes 4) (sym reserved) ∙ field_again 12 4 bytes each size (omega arith))
    ∙ fields bytes size
  where
    version : version_of bytes ≡ 1
    version = is_equal (version_of bytes) 1 first

    reserved : field 12 4 bytes ≡ 0
    reserved = sym (cond-true (is_first bytes) (field 12 4 bytes) (field 6 2 bytes) first)
        ∙ passed.reserved

-- a header of version 2 is spelled by its fields
pub header_two_again : (bytes : List ℕ) (rows : Collection) → AreBytes bytes → length bytes ≡ 16
    → Passes bytes → is_first bytes ≡ false → rows.points ≡ length_of bytes → length rows.series ≡ count_of bytes
    → header_two rows ≡ bytes
header_two_again bytes rows each size passed later points count =
    ap (λ m. m ++ (little_bytes 2 2 ++
    (little_bytes 2 0 ++ (little_bytes 4 rows.points ++ little_bytes 4 (length rows.series)))))
    (sym passed.magic)
    ∙ ap (λ m. take 4 bytes ++ (m ++
    (little_bytes 2 0 ++ (little_bytes 4 rows.points ++ little_bytes 4 (length rows.series)))))
    (ap (little_bytes 2) (sym version) ∙ field_again 4 2 bytes each size (omega arith))
    ∙ ap (λ m. take 4 bytes ++ (take 2 (drop 4 bytes) ++
    (m ++ (little_bytes 4 rows.points ++ little_bytes 4 (length rows.series)))))
    (ap (little_bytes 2) (sym reserved) ∙ field_again 6 2 bytes each size (omega arith))
    ∙ ap (λ m. take 4 bytes ++ (take 2 (drop 4 bytes) ++
    (take 2 (drop 6 bytes) ++ (m ++ little_bytes 4 (length rows.series)))))
    (ap (little_bytes 4) (points ∙ cond-false (is_first bytes) (field 6 2 bytes)
    (field 8 4 bytes) later) ∙ field_again 8 4 bytes each size (omega arith))
    ∙ ap (λ m. take 4 bytes ++ (take 2 (drop 4 bytes) ++
    (take 2 (drop 6 bytes) ++ (take 4 (drop 8 bytes) ++ m))))
    (ap (little_bytes 4) (count ∙ cond-false (is_first bytes) (field 8 4 bytes)
    (field 12 4 bytes) later) ∙ field_again 12 4 bytes each size (omega arith))
    ∙ fields bytes size
  where
    version : version_of bytes ≡ 2
    version = is_equal (version_of bytes) 2 (ap (λ b. b || nat_eq (version_of bytes) 2) (sym later)
        ∙ passed.version)

    reserved : field 6 2 bytes ≡ 0
    reserved = sym (cond-false (is_first bytes) (field 12 4 bytes) (field 6 2 bytes) later)
        ∙ passed.reserved
