-- The bit behind those that a word has, found by its place value (`has_next_bit`) or in lanes (`bits_are`), and how counts of members grow
-- by it (`count_grows`, `sums_are`, `sums_stay_few`) or by those of some more (`count_of_parts`, `parts_are`, `parts_stay_few`).
use Rattle.std.proofs.Common.{◌≡◌, ℕ, zero, suc, ◌+◌, ◌-◌, ◌*◌, ◌/◌, ◌%◌, ◌^◌, ◌<◌, ◌≤◌, arith, Bool, true, false, cond, List, [], ◌∷◌, map, replicate, length, get_or, take, drop, bit_and, sym, ap, ◌∙◌, length-append}
use Rattle.std.specs.Prelude.{◌==◌, not, filter, count_by}
use Rattle.std.specs.Int.{bit_at}
use Rattle.std.proofs.lemmas.Bool.Decides.{nat_tests}
use Rattle.std.proofs.lemmas.Nat.{pow_pos}
use Rattle.std.proofs.lemmas.Nat.Bits.{and_pow, bit_at-lt}
use Rattle.std.proofs.lemmas.List.{take-append-drop}
use Rattle.std.proofs.lemmas.List.Elements.{filter-append}
use Rattle.std.proofs.lemmas.List.Sums.{count_by_more_no, count_by_more_yes, length-filter}
use lib.Lanes.{zip2, sel_l, top, Each1}
use lib.Dec.{eqb}
use Rattle.isax_word.specs.Word.{next_bit}
use Rattle.subtree_build.specs.NextBits.{has_bit}

-- whether a bit times its place value is 0 tells the bit
bit_shows : (b p : ℕ) → b < 2 → 1 ≤ p → cond (not (b * p == 0)) 1 0 ≡ b
bit_shows zero p low some =
    let none : 0 * p ≡ 0 = omega arith in
    ap (λ n. cond (not (n == 0)) 1 0) none
bit_shows (suc zero) p low some =
    let one : 1 * p ≡ p = omega arith in
    let there : (p == 0) ≡ false = grind (arith, nat_tests) in
    ap (λ n. cond (not (n == 0)) 1 0) one ∙ ap (λ b. cond (not b) 1 0) there
bit_shows (suc (suc b)) p low some = grind arith

-- a test counts 1 at most
test_le : (b : Bool) → cond (not b) 1 0 ≤ 1
test_le true = omega arith
test_le false = omega arith

-- a symbol has the bit of a place value once at most
pub has_bit_le : (symbol place : ℕ) → has_bit symbol place ≤ 1
has_bit_le symbol place = test_le (bit_and symbol place == 0)

-- the bit of the place value behind those that a word has
pub has_next_bit : (bits symbol : ℕ) → has_bit symbol (2 ^ (7 - bits)) ≡ next_bit bits symbol
has_next_bit bits symbol =
    let place : 7 - bits ≡ 8 - (bits + 1) = omega arith in
    ap (λ n. cond (not (n == 0)) 1 0) (and_pow symbol (7 - bits))
    ∙ bit_shows (bit_at symbol (7 - bits)) (2 ^ (7 - bits)) (bit_at-lt symbol (7 - bits)) (pow_pos (7 - bits))
    ∙ ap (λ e. symbol / 2 ^ e % 2) place

-- a count of members for whom a bit is 1 grows by the bit of the next
pub count_grows : {X : Type 0} (p : X → Bool) (xs : List X) (i : ℕ) (d : X) (b : ℕ) → b < 2 → i < length xs
    → p (get_or xs i d) ≡ (b == 1) → count_by p (take (i + 1) xs) ≡ count_by p (take i xs) + b
count_grows p xs i d zero low inside is =
    let no = count_by_more_no p xs i d inside is in
    omega (arith, no)
count_grows p xs i d (suc zero) low inside is = count_by_more_yes p xs i d inside is
count_grows p xs i d (suc (suc b)) low inside is = grind arith

-- one lane of what a comparison selects
selects : (b : Bool) → ◌≡◌ {A = ℕ} (cond (top 7 (cond (not b) 255 0)) 1 0) (cond (not b) 1 0)
selects true = λ i. 0
selects false = λ i. 1

-- what a comparison with zeros selects
pub bits_are : (xs ys : List ℕ) (n : ℕ) → length xs ≡ n
    → sel_l (map (top 7) (zip2 (λ a b. cond (not (eqb a b)) 255 0) (zip2 bit_and xs ys) (replicate n 0))) (replicate n 1) (replicate n 0)
    ≡ zip2 has_bit xs ys
bits_are [] ys n long = λ i. []
bits_are (x ∷ xs) [] n long = λ i. []
bits_are (x ∷ xs) (y ∷ ys) zero long = grind arith
bits_are (x ∷ xs) (y ∷ ys) (suc n) long =
    let first : cond (top 7 (cond (not (eqb (bit_and x y) 0)) 255 0)) 1 0 ≡ has_bit x y = selects (eqb (bit_and x y) 0) in
    let rest = bits_are xs ys n (omega (arith, long)) in
    λ i. first i ∷ rest i

-- each bit counts 1 at most
pub bits_few : (xs ys : List ℕ) → Each1 (λ b. b ≤ 1) (zip2 has_bit xs ys)
bits_few [] ys = tt
bits_few (x ∷ xs) [] = tt
bits_few (x ∷ xs) (y ∷ ys) = (has_bit_le x y, bits_few xs ys)

-- counts with room do not wrap
pub sums_are : (ns bs : List ℕ) → Each1 (λ n. n + 1 < 256) ns → Each1 (λ b. b ≤ 1) bs
    → zip2 (λ a b. (a + b) % 256) ns bs ≡ zip2 (λ n b. n + b) ns bs
sums_are [] bs room few = λ i. []
sums_are (n ∷ ns) [] room few = λ i. []
sums_are (n ∷ ns) (b ∷ bs) room few =
    let first : (n + b) % 256 ≡ n + b = omega (arith, room.0, few.0) in
    let rest = sums_are ns bs room.1 few.1 in
    λ i. first i ∷ rest i

-- counts of at most i members are of at most one more
pub sums_stay_few : (i : ℕ) (ns bs : List ℕ) → Each1 (λ n. n ≤ i) ns → Each1 (λ b. b ≤ 1) bs
    → Each1 (λ n. n ≤ i + 1) (zip2 (λ n b. n + b) ns bs)
sums_stay_few i [] bs room few = tt
sums_stay_few i (n ∷ ns) [] room few = tt
sums_stay_few i (n ∷ ns) (b ∷ bs) room few = (omega (arith, room.0, few.0), sums_stay_few i ns bs room.1 few.1)

-- a count over all is that over the first and that over the others
pub count_of_parts : {X : Type 0} (p : X → Bool) (n : ℕ) (xs : List X)
    → count_by p (take n xs) + count_by p (drop n xs) ≡ count_by p xs
count_of_parts p n xs =
    let both : length (filter p (take n xs)) + length (filter p (drop n xs)) ≡ length (filter p xs)
    = sym (length-append (filter p (take n xs)) (filter p (drop n xs)))
    ∙ ap (λ l. length l) (sym (filter-append p (take n xs) (drop n xs)))
    ∙ ap (λ l. length (filter p l)) (take-append-drop n xs) in
    omega (arith, both, length-filter p (take n xs), length-filter p (drop n xs), length-filter p xs)

-- with the counts of k members more, counts of all but r of t do not wrap
pub parts_are : (k r t : ℕ) (ns bs : List ℕ) → t < 4294967296 → k ≤ r → Each1 (λ n. n + r ≤ t) ns → Each1 (λ b. b ≤ k) bs
    → zip2 (λ a b. (a + b) % 4294967296) ns (map (λ b. b) bs) ≡ zip2 (λ n b. n + b) ns bs
parts_are k r t [] bs low some room few = λ i. []
parts_are k r t (n ∷ ns) [] low some room few = λ i. []
parts_are k r t (n ∷ ns) (b ∷ bs) low some room few =
    let first : (n + b) % 4294967296 ≡ n + b = omega (arith, room.0, few.0, low, some) in
    let rest = parts_are k r t ns bs low some room.1 few.1 in
    λ i. first i ∷ rest i

-- they are then of all but r - k
pub parts_stay_few : (k r t : ℕ) (ns bs : List ℕ) → k ≤ r → Each1 (λ n. n + r ≤ t) ns → Each1 (λ b. b ≤ k) bs
    → Each1 (λ n. n + (r - k) ≤ t) (zip2 (λ n b. n + b) ns bs)
parts_stay_few k r t [] bs some room few = tt
parts_stay_few k r t (n ∷ ns) [] some room few = tt
parts_stay_few k r t (n ∷ ns) (b ∷ bs) some room few =
    (omega (arith, room.0, few.0, some), parts_stay_few k r t ns bs some room.1 few.1)
