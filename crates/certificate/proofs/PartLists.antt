-- The parts of a word in two lists, one of prefixes and one of bits: one more part, and when the parts make a word.
use Rattle.std.proofs.Common.{◌≡◌, ℕ, zero, suc, ◌+◌, ◌<◌, List, [], ◌∷◌, ◌++◌, length, take, refl, ap, ◌∙◌, arith}
use Rattle.std.specs.Prelude.{slice_set}
use Rattle.isax_word.specs.declared.word.Part.{Part}
use Rattle.isax_word.specs.Word.{parts_of}

-- the parts up to a new one
parts_to : (prefixes bits : List ℕ) (count p b : ℕ) → count < length prefixes → count < length bits
    → parts_of (take (suc count) (slice_set prefixes count p)) (take (suc count) (slice_set bits count b))
    ≡ parts_of (take count prefixes) (take count bits) ++ record { prefix = p; bits = b } ∷ []
parts_to [] bits count p b in_prefixes in_bits = absurd (omega arith)
parts_to (x ∷ xs) [] count p b in_prefixes in_bits = absurd (omega arith)
parts_to (x ∷ xs) (y ∷ ys) zero p b in_prefixes in_bits = refl
parts_to (x ∷ xs) (y ∷ ys) (suc count) p b in_prefixes in_bits =
    let first : Part = record { prefix = x; bits = y } in
    ap (λ ps. first ∷ ps) (parts_to xs ys count p b (omega arith) (omega arith))

-- one more part
pub parts_push : (prefixes bits : List ℕ) (count p b : ℕ) → count < length prefixes → count < length bits
    → parts_of (take (count + 1) (slice_set prefixes count p)) (take (count + 1) (slice_set bits count b))
    ≡ parts_of (take count prefixes) (take count bits) ++ record { prefix = p; bits = b } ∷ []
parts_push prefixes bits count p b in_prefixes in_bits =
    let next : count + 1 ≡ suc count = omega arith in
    ap (λ n. parts_of (take n (slice_set prefixes count p)) (take n (slice_set bits count b))) next
    ∙ parts_to prefixes bits count p b in_prefixes in_bits

-- as many parts as there are of both
pub length-parts_of : (prefixes bits : List ℕ) → length prefixes ≡ length bits
    → length (parts_of prefixes bits) ≡ length prefixes
length-parts_of [] bits same = refl
length-parts_of (x ∷ xs) [] same = absurd (omega arith)
length-parts_of (x ∷ xs) (y ∷ ys) same =
    let rest = length-parts_of xs ys (omega arith) in omega arith
