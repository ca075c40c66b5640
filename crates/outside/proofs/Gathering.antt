-- Reading in pieces: what came so far is the front of what was left.
use Rattle.std.proofs.Common.{◌≡◌, ℕ, ◌+◌, ◌≤◌, List, ◌++◌, length, take, Option, ap, ◌∙◌, length-append}
use Rattle.std.proofs.lemmas.List.{length-take-le}
use Rattle.std.specs.Io.KnownBytes.{prepend_known}
use Rattle.outside.specs.Files.{Held}

-- these bytes were taken, at most `limit` of them, and nothing else was done
pub record Gathered {F : Type 0} (held : F → Option Held) (left at blamed : F → Option (List ℕ))
    (faults misses : F → ℕ) (reliable : F → Type 0) (first now : F) (bytes : List ℕ) (limit : ℕ)
    : Type 0 where
  pub taken : left first ≡ prepend_known bytes (left now)
  pub within : length bytes ≤ limit
  pub kept : held now ≡ held first
  pub stays_open : (at now ≡ at first) × (blamed now ≡ blamed first)
  pub counts : (faults first ≤ faults now) × (misses first ≤ misses now)
  pub faultless : reliable first → (faults now ≡ faults first) × reliable now

-- how many bytes are gathered with the front of a buffer
pub length-gathered : (bytes buf : List ℕ) (count : ℕ) → count ≤ length buf
    → length (bytes ++ take count buf) ≡ length bytes + count
length-gathered bytes buf count within =
    length-append bytes (take count buf) ∙ ap (λ n. length bytes + n) (length-take-le count buf within)
