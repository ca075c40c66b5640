-- The tests of a file with a header, by the header in front and the size of what follows.
use Rattle.std.proofs.Common.{◌≡◌, ℕ, ◌+◌, ◌*◌, ◌<◌, ◌≤◌, List, [], ◌∷◌, ◌++◌, length, take, drop, Bool, true, false, Option, None, Some, refl, sym, ap, ◌∙◌, subst, ⊎_elim, arith, length-append, length-drop}
use Rattle.std.specs.Prelude.{Result, not, ◌||◌, nat_eq, nat_lt, if◌then◌else◌}
use Rattle.std.specs.Str.{bytes_eq}
use Rattle.std.proofs.lemmas.Bool.{cases_Bool, cond-true, cond-false}
use Rattle.std.proofs.lemmas.Bool.Decides.{nat_tests}
use Rattle.std.proofs.lemmas.Option.{none-some}
use Rattle.std.proofs.lemmas.List.{take-append-le, drop-append-le}
use Rattle.byteorder.specs.Endian.{little_number}
use Rattle.byteorder.specs.Numbers.{little_from-append}
use Rattle.series_file.specs.Format.{magic}
use Rattle.series_file.specs.Faults.{first_of, field, is_first, length_of, count_of, size_of, field_tests, header_tests, size_tests, fault}
use Rattle.series_file.specs.Header.{header_of, TestsTo}
use Rattle.series_file.specs.Body.{file_bytes, size_fault}
use Rattle.series_file.specs.declared.error.Form.TheVariants.{Headed}
use Rattle.series_file.specs.declared.header.Header.{Header}
use Rattle.series_file.specs.declared.error.FileError.{FileError}
use Rattle.series_file.specs.declared.error.FileError.TheVariants.{ShortHeader, Magic, Version, Truncated, Trailing}

-- a field within the front does not look behind it
field-append : (place n : ℕ) (head rest : List ℕ) → place + n ≤ length head
    → field place n (head ++ rest) ≡ field place n head
field-append place n head rest within =
    ap (λ xs. little_number n xs) (drop-append-le place head rest (omega arith))
    ∙ little_from-append n (drop place head) rest (omega (arith, length-drop place head))

-- the tests of a header by its first four bytes and its four numbers
abbrev tests_by : List ℕ → ℕ → ℕ → ℕ → ℕ → List (Bool × FileError)
tests_by four version narrow middle last =
    (not (bytes_eq four magic), Magic)
    ∷ (not (nat_eq version 1 || nat_eq version 2), Version version)
    ∷ field_tests (if nat_eq version 1 then narrow else middle)
    (if nat_eq version 1 then middle else last)
    (if nat_eq version 1 then last else narrow)

-- what the tests of a header give, by whether its first four bytes are the magic, and by its four numbers
abbrev pub Gives : Bool → ℕ → ℕ → ℕ → ℕ → Result Header FileError → Type 0
Gives is_magic version narrow middle last r =
    TestsTo
    ((not is_magic, Magic)
    ∷ (not (nat_eq version 1 || nat_eq version 2), Version version)
    ∷ field_tests (if nat_eq version 1 then narrow else middle)
    (if nat_eq version 1 then middle else last)
    (if nat_eq version 1 then last else narrow))
    (record {
      labelled = not (nat_eq version 1);
      length = if nat_eq version 1 then narrow else middle;
      count = if nat_eq version 1 then middle else last;
    }) r

-- behind the magic they give that of equal numbers
pub gives : (is_magic : Bool) (version narrow middle last v n m l : ℕ) (r : Result Header FileError) → is_magic ≡ true
    → version ≡ v → narrow ≡ n → middle ≡ m → last ≡ l → Gives true v n m l r → Gives is_magic version narrow middle last r
gives is_magic version narrow middle last v n m l r magical first e f g tests =
    subst (λ b. Gives b version narrow middle last r) (sym magical)
    (subst (λ k. Gives true k narrow middle last r) (sym first)
    (subst (λ k. Gives true v k middle last r) (sym e)
    (subst (λ k. Gives true v n k last r) (sym f)
    (subst (λ k. Gives true v n m k r) (sym g) tests))))

-- the header in front has the tests of the whole
pub header_tests-append : (head rest : List ℕ) → length head ≡ 16
    → header_tests (head ++ rest) ≡ header_tests head
header_tests-append head rest size =
    ap (λ four. tests_by four (field 4 2 (head ++ rest)) (field 6 2 (head ++ rest))
    (field 8 4 (head ++ rest)) (field 12 4 (head ++ rest)))
    (take-append-le 4 head rest (omega arith))
    ∙ ap (λ m. tests_by (take 4 head) m (field 6 2 (head ++ rest)) (field 8 4 (head ++ rest))
    (field 12 4 (head ++ rest)))
    (field-append 4 2 head rest (omega arith))
    ∙ ap (λ m. tests_by (take 4 head) (field 4 2 head) m (field 8 4 (head ++ rest))
    (field 12 4 (head ++ rest)))
    (field-append 6 2 head rest (omega arith))
    ∙ ap (λ m. tests_by (take 4 head) (field 4 2 head) (field 6 2 head) m
    (field 12 4 (head ++ rest)))
    (field-append 8 4 head rest (omega arith))
    ∙ ap (λ m. tests_by (take 4 head) (field 4 2 head) (field 6 2 head) (field 8 4 head) m)
    (field-append 12 4 head rest (omega arith))

-- the size that a whole file should have, by four numbers
abbrev size_by : ℕ → ℕ → ℕ → ℕ → ℕ
size_by version narrow middle last =
    16 + (if nat_eq version 1 then 0 else 8 * (if nat_eq version 1 then middle else last))
    + 2 * ((if nat_eq version 1 then middle else last) *
    (if nat_eq version 1 then narrow else middle))

pub size_of-append : (head rest : List ℕ) → length head ≡ 16 → size_of (head ++ rest) ≡ size_of head
size_of-append head rest size =
    ap (λ m. size_by m (field 6 2 (head ++ rest)) (field 8 4 (head ++ rest))
    (field 12 4 (head ++ rest)))
    (field-append 4 2 head rest (omega arith))
    ∙ ap (λ m. size_by (field 4 2 head) m (field 8 4 (head ++ rest)) (field 12 4 (head ++ rest)))
    (field-append 6 2 head rest (omega arith))
    ∙ ap (λ m. size_by (field 4 2 head) (field 6 2 head) m (field 12 4 (head ++ rest)))
    (field-append 8 4 head rest (omega arith))
    ∙ ap (λ m. size_by (field 4 2 head) (field 6 2 head) (field 8 4 head) m)
    (field-append 12 4 head rest (omega arith))

-- a choice turned round
turned : (b : Bool) (m : ℕ) → (if not b then m else 0) ≡ (if b then 0 else m)
turned true m = refl
turned false m = refl

-- the size by the header is the size by its bytes
pub file_bytes-header : (head : List ℕ) → file_bytes (header_of head) ≡ size_of head
file_bytes-header head =
    ap (λ m. 16 + m + 2 * (count_of head * length_of head))
    (turned (is_first head) (8 * count_of head))

-- the first failing test of two lists
pub first_of-append_none : (xs ys : List (Bool × FileError)) → first_of xs ≡ None
    → first_of (xs ++ ys) ≡ first_of ys
first_of-append_none [] ys none = refl
first_of-append_none (x ∷ xs) ys none =
    ⊎_elim
    (λ (t : x.0 ≡ true). absurd (none-some x.1 (sym none
    ∙ cond-true x.0 (Some x.1) (first_of xs) t)))
    (λ (f : x.0 ≡ false).
    cond-false x.0 (Some x.1) (first_of (xs ++ ys)) f
    ∙ first_of-append_none xs ys (sym (cond-false x.0 (Some x.1) (first_of xs) f) ∙ none))
    (cases_Bool x.0)

pub first_of-append_some : (xs ys : List (Bool × FileError)) (e : FileError) → first_of xs ≡ Some e
    → first_of (xs ++ ys) ≡ Some e
first_of-append_some [] ys e some = absurd (none-some e some)
first_of-append_some (x ∷ xs) ys e some =
    ⊎_elim
    (λ (t : x.0 ≡ true).
    cond-true x.0 (Some x.1) (first_of (xs ++ ys)) t
    ∙ sym (cond-true x.0 (Some x.1) (first_of xs) t) ∙ some)
    (λ (f : x.0 ≡ false).
    cond-false x.0 (Some x.1) (first_of (xs ++ ys)) f
    ∙ first_of-append_some xs ys e (sym (cond-false x.0 (Some x.1) (first_of xs) f) ∙ some))
    (cases_Bool x.0)

below : (a b : ℕ) → a < b → nat_lt a b ≡ true
below a b h = grind (arith, nat_tests)

not_below : (a b : ℕ) → b ≤ a → nat_lt a b ≡ false
not_below a b h = grind (arith, nat_tests)

-- a file of fewer bytes than a header has ends within it
pub fault_short : (bytes : List ℕ) → length bytes < 16
    → fault Headed bytes ≡ Some (ShortHeader (length bytes))
fault_short bytes short =
    cond-true (nat_lt (length bytes) 16) (Some (ShortHeader (length bytes)))
    (first_of (header_tests bytes ++ size_tests bytes)) (below (length bytes) 16 short)

-- a whole header is tested first
fault_whole : (bytes : List ℕ) → 16 ≤ length bytes
    → fault Headed bytes ≡ first_of (header_tests bytes ++ size_tests bytes)
fault_whole bytes whole =
    cond-false (nat_lt (length bytes) 16) (Some (ShortHeader (length bytes)))
    (first_of (header_tests bytes ++ size_tests bytes)) (not_below (length bytes) 16 whole)

-- a header that fails a test is the fault, whatever follows
pub fault_header : (head rest : List ℕ) (e : FileError) → length head ≡ 16
    → first_of (header_tests head) ≡ Some e
    → fault Headed (head ++ rest) ≡ Some e
fault_header head rest e size some =
    fault_whole (head ++ rest) (omega (arith, length-append head rest))
    ∙ first_of-append_some (header_tests (head ++ rest)) (size_tests (head ++ rest)) e
    (ap first_of (header_tests-append head rest size) ∙ some)

-- the tests of the size by the number of bytes and the number wanted
abbrev sizes_by : ℕ → ℕ → Option FileError
sizes_by size want =
    first_of ((nat_lt size want, Truncated size want) ∷ (nat_lt want size, Trailing want) ∷ [])

-- behind a header that passes, the size decides
pub fault_size : (head rest : List ℕ) → length head ≡ 16 → first_of (header_tests head) ≡ None
    → fault Headed (head ++ rest) ≡ size_fault (header_of head) 16 rest
fault_size head rest size none =
    fault_whole (head ++ rest) (omega (arith, length-append head rest))
    ∙ first_of-append_none (header_tests (head ++ rest)) (size_tests (head ++ rest))
    (ap first_of (header_tests-append head rest size) ∙ none)
    ∙ ap (λ m. sizes_by m (size_of (head ++ rest))) (length-append head rest
    ∙ ap (λ m. m + length rest) size)
    ∙ ap (sizes_by (16 + length rest)) (size_of-append head rest size
    ∙ sym (file_bytes-header head))
