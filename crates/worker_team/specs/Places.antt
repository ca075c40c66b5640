-- Something that holds at each place of a list, where its first element stands at any place.
use Rattle.std.specs.Prelude.{◌≡◌, ℕ, ◌+◌, List, [], ◌∷◌}

-- P holds of each place and its element
abbrev pub AllFrom : {X : Type 0} → (ℕ → X → Type 0) → ℕ → List X → Type 0
AllFrom P n [] = Unit {0}
AllFrom P n (x ∷ xs) = P n x × AllFrom P (n + 1) xs

-- the lists are as long, and R holds of each place and its elements in both
abbrev pub BothFrom : {X : Type 0} → (ℕ → X → X → Type 0) → ℕ → List X → List X → Type 0
BothFrom R n [] ys = ys ≡ []
BothFrom R n (x ∷ xs) [] = ⊥
BothFrom R n (x ∷ xs) (y ∷ ys) = R n x y × BothFrom R (n + 1) xs ys
