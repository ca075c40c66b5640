-- Items of fixed size that stand one after another in a list of bytes.
use Rattle.std.specs.Prelude.{◌≡◌, ℕ, ◌/◌, ◌<◌, ◌≤◌, zero, suc, ℤ, List, [], ◌∷◌, ◌++◌, drop, length, Option}
use Rattle.std.specs.List.{All}
use Rattle.std.specs.Io.KnownBytes.{prepend_known, IsAtEnd}
use Rattle.std.proofs.Common.{ap}
use Rattle.byteorder.specs.Numbers.{little_from-append}
use Rattle.std.specs.Int.{cast_signed}
use Rattle.byteorder.specs.Endian.{little_number}
use mir.Syntax.{w16}

-- `count` items of n bytes each, the first of them at the front
abbrev pub items_from : {X : Type 0} → (List ℕ → X) → ℕ → ℕ → List ℕ → List X
items_from at n zero bytes = []
items_from at n (suc count) bytes = at bytes ∷ items_from at n count (drop n bytes)

-- the 16-bit value at the front of the bytes
abbrev pub value_at : List ℕ → ℤ
value_at bytes = cast_signed w16 (little_number 2 bytes)

-- the label at the front of the bytes
abbrev pub label_at : List ℕ → ℕ
label_at bytes = little_number 8 bytes

-- the value at the front does not look behind its bytes
pub value_at-append : (xs ys : List ℕ) → 2 ≤ length xs → value_at (xs ++ ys) ≡ value_at xs
value_at-append xs ys h = ap (cast_signed w16) (little_from-append 2 xs ys h)

-- the label at the front does not look behind its bytes
pub label_at-append : (xs ys : List ℕ) → 8 ≤ length xs → label_at (xs ++ ys) ≡ label_at xs
label_at-append xs ys h = little_from-append 8 xs ys h

-- Items of n bytes came: `count` bytes, at most as many as wanted, fewer only at the end of the file.
pub record Came {X : Type 0} (at : List ℕ → X) (n want : ℕ) (before now : Option (List ℕ)) (came : List X)
    (count : ℕ) (bytes : List ℕ) : Type 0 where
  pub taken : before ≡ prepend_known bytes now
  pub each : All (λ b. b < 256) bytes
  pub amount : length bytes ≡ count
  pub limit : count ≤ want
  pub end : count < want → IsAtEnd now
  pub items : came ≡ items_from at n (count / n) bytes

-- so did some bytes
abbrev pub Comes : {X : Type 0} → (List ℕ → X) → ℕ → ℕ → Option (List ℕ) → Option (List ℕ) → List X → ℕ → Type 0
Comes at n want before now came count = (bytes : List ℕ) × Came at n want before now came count bytes
