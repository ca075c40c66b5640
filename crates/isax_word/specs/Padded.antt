-- Lists of at most 16 items kept in 16 places: the places behind the items hold a padding.
use Rattle.std.specs.Prelude.{ℕ, ◌≡◌, ◌-◌, List, ◌++◌, length, replicate, take}

-- the items, then the padding up to 16 places
abbrev pub padded : {X : Type 0} → X → List X → List X
padded padding items = items ++ replicate (16 - length items) padding

-- a list whose first k items are all that is kept in it
pub record IsKept {X : Type 0} (padding : X) (xs : List X) (k : ℕ) : Type 0 where
  pub long : length (take k xs) ≡ k
  pub kept : xs ≡ padded padding (take k xs)
