-- Lines of numbers, and the lines of a list by rank.
use Rattle.std.specs.Prelude.{ℕ, ◌+◌, List, [], ◌∷◌, ◌++◌, decimal}

-- these bytes, then each number in decimals behind a space, and at last a line feed
abbrev pub line_behind : List ℕ → List ℕ → List ℕ
line_behind text [] = text ++ 10 ∷ []
line_behind text (n ∷ ns) = line_behind (text ++ 32 ∷ decimal n) ns

-- the line of a number and others behind it, parted by one space each
abbrev pub line_of : ℕ → List ℕ → List ℕ
line_of n ns = line_behind (decimal n) ns

-- the lines of these items, one for each, the first of them of rank r
abbrev pub ranked : {A : Type 0} → (ℕ → A → List ℕ) → ℕ → List A → List ℕ
ranked line r [] = []
ranked line r (x ∷ xs) = line r x ++ ranked line (r + 1) xs
