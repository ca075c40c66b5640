-- Numbers and their bytes, the lowest first: the bytes of the number that some bytes are, are these bytes.
use Rattle.std.proofs.Common.{◌≡◌, ℕ, zero, suc, ◌+◌, ◌*◌, ◌/◌, ◌^◌, ◌<◌, ◌≤◌, List, [], ◌∷◌, ◌++◌, length, take, drop, slice_index, refl, sym, ap, ◌∙◌, arith, append-nil, length-drop}
use Rattle.std.specs.List.{All, flat_map}
use Rattle.std.specs.Int.{byte_at, bytes_low_first}
use Rattle.std.proofs.Math.Nat.{mod-lt, suc-mul}
use Rattle.std.proofs.Math.Seq.{take-add}
use Rattle.std.proofs.lemmas.Int.{of_z-to_z}
use mir.Syntax.{w16}
use Rattle.std.proofs.lemmas.List.{take_all}
use Rattle.byteorder.specs.Endian.{little_from, little_number, little_bytes}
use Rattle.byteorder.specs.Numbers.{little_from-cons, little_number-reads_back, little_from-lt}
use Rattle.series_file.specs.Items.{items_from, value_at, label_at}
use Rattle.series_file.specs.Format.{value_bytes}

-- each number of the list is a byte
abbrev pub AreBytes : List ℕ → Type 0
AreBytes bytes = (k : ℕ) → slice_index bytes k < 256

-- the same with what stands at each place
pub are_bytes : (bytes : List ℕ) → All (λ b. b < 256) bytes → AreBytes bytes
are_bytes [] each k = omega arith
are_bytes (b ∷ bs) each zero = each 0 0 (omega arith)
are_bytes (b ∷ bs) each (suc k) = are_bytes bs (λ i d h. each (suc i) d (omega arith)) k

-- so are those of its rest
rest_bytes : (b : ℕ) (bs : List ℕ) → AreBytes (b ∷ bs) → AreBytes bs
rest_bytes b bs each k = each (suc k)

pub drop_bytes : (n : ℕ) (bs : List ℕ) → AreBytes bs → AreBytes (drop n bs)
drop_bytes zero bs each = each
drop_bytes (suc n) [] each = each
drop_bytes (suc n) (b ∷ bs) each = drop_bytes n bs (rest_bytes b bs each)

-- bytes that are one number are the same
same_bytes : (n : ℕ) (xs ys : List ℕ) → AreBytes xs → AreBytes ys → n ≤ length xs → n ≤ length ys
    → little_from 0 n xs ≡ little_from 0 n ys → take n xs ≡ take n ys
same_bytes zero xs ys bx by hx hy e = refl
same_bytes (suc n) [] ys bx by hx hy e = absurd (omega arith)
same_bytes (suc n) (x ∷ xs) [] bx by hx hy e = absurd (omega arith)
same_bytes (suc n) (x ∷ xs) (y ∷ ys) bx by hx hy e =
    let bx0 : x < 256 = bx 0 in
    let by0 : y < 256 = by 0 in
    let number : x + 256 * little_from 0 n xs ≡ y + 256 * little_from 0 n ys =
    ap (λ m. x + 256 * m) (sym (little_from-cons 0 n x xs)) ∙ e
    ∙ ap (λ m. y + 256 * m) (little_from-cons 0 n y ys) in
    let first : x ≡ y = omega arith in
    let others : little_from 0 n xs ≡ little_from 0 n ys = omega arith in
    ap (λ z. z ∷ take n xs) first
    ∙ ap (λ zs. y ∷ zs) (same_bytes n xs ys (rest_bytes x xs bx) (rest_bytes y ys by) (omega arith)
    (omega arith) others)

-- a number has as many bytes as asked for, and each is a byte
pub length-little_bytes : (i n x : ℕ) → length (bytes_low_first i n x) ≡ n
length-little_bytes i zero x = refl
length-little_bytes i (suc n) x = ap suc (length-little_bytes (suc i) n x)

byte_below : (i x : ℕ) → byte_at i x < 256
byte_below zero x = mod-lt x (omega arith)
byte_below (suc i) x = mod-lt (x / 256 ^ suc i) (omega arith)

little_are_bytes : (i n x : ℕ) → AreBytes (bytes_low_first i n x)
little_are_bytes i zero x k = omega arith
little_are_bytes i (suc n) x zero = byte_below i x
little_are_bytes i (suc n) x (suc k) = little_are_bytes (suc i) n x k

-- the bytes of the number that the first n bytes are, are the first n bytes
pub bytes_again : (n : ℕ) (xs : List ℕ) → AreBytes xs → n ≤ length xs
    → little_bytes n (little_number n xs) ≡ take n xs
bytes_again n xs each fits =
    let x : ℕ = little_number n xs in
    let size = length-little_bytes 0 n x in
    let back : little_from 0 n (bytes_low_first 0 n x) ≡ x =
    ap (little_from 0 n) (sym (append-nil (bytes_low_first 0 n x)))
    ∙ little_number-reads_back n x [] (little_from-lt 0 n xs each) in
    sym (take_all n (bytes_low_first 0 n x) (omega arith))
    ∙ same_bytes n (bytes_low_first 0 n x) xs (little_are_bytes 0 n x) each (omega arith) fits back

-- where each item has the bytes that it was read from, items have the bytes that they were read from
pub items_again : {X : Type 0} (at : List ℕ → X) (spelled : X → List ℕ) (n : ℕ)
    → ((xs : List ℕ) → AreBytes xs → n ≤ length xs → spelled (at xs) ≡ take n xs)
    → (count : ℕ) (xs : List ℕ) → AreBytes xs → count * n ≤ length xs
    → flat_map spelled (items_from at n count xs) ≡ take (count * n) xs
items_again at spelled n again zero xs each fits =
    let none : 0 * n ≡ 0 = omega arith in ap (λ m. take m xs) (sym none)
items_again at spelled n again (suc count) xs each fits =
    let split : n + count * n ≡ suc count * n = omega (arith, suc-mul count n) in
    let rest : count * n ≤ length (drop n xs) = omega (arith, length-drop n xs, suc-mul count n) in
    ap (λ zs. zs ++ flat_map spelled (items_from at n count (drop n xs)))
    (again xs each (omega (arith, suc-mul count n)))
    ∙ ap (λ zs. take n xs ++ zs) (items_again at spelled n again count (drop n xs)
    (drop_bytes n xs each) rest)
    ∙ sym (take-add n (count * n) xs) ∙ ap (λ m. take m xs) split

-- a value has the bytes that it was read from
pub value_again : (xs : List ℕ) → AreBytes xs → 2 ≤ length xs
    → value_bytes (value_at xs) ≡ take 2 xs
value_again xs each fits =
    ap (little_bytes 2) (of_z-to_z w16 (little_number 2 xs) (little_from-lt 0 2 xs each))
    ∙ bytes_again 2 xs each fits

-- a label has the bytes that it was read from
pub label_again : (xs : List ℕ) → AreBytes xs → 8 ≤ length xs
    → little_bytes 8 (label_at xs) ≡ take 8 xs
label_again xs each fits = bytes_again 8 xs each fits
