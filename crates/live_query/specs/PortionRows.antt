-- The passes of the words that hold the limits of portions, in a row for each word.
use Rattle.std.specs.Prelude.{◌≡◌, ℕ, List, Some, Vec, All, length, slice_get}
use Rattle.std.specs.Global.{Global}
use Rattle.best_word.specs.Passes.{Best, Pass, fresh_pass}
use Rattle.search_machine.specs.Ground.{Ground}
use Rattle.query_core.specs.Portions.{portion_last}

-- a row of passes
abbrev pub PassRow : Type 0
PassRow = Vec Pass Global

-- n passes of the word of portion c, by which no offer is below the portion's last distance
abbrev pub IsRow : Ground → ℕ → Best → ℕ → List Pass → Type 0
IsRow g c b n row = (length row ≡ n) × All (λ p. p ≡ fresh_pass b (portion_last g c)) row

-- a row of n passes for each of these words
pub record AreRows (g : Ground) (words : List Best) (n : ℕ) (rows : List PassRow) : Type 0 where
  pub count : length rows ≡ length words
  pub each : (c : ℕ) (b : Best) (row : PassRow) → slice_get words c ≡ Some b → slice_get rows c ≡ Some row → IsRow g c b n row.items

-- a pass from each row
pub record AreTaken (g : Ground) (words : List Best) (passes : List Pass) : Type 0 where
  pub count : length passes ≡ length words
  pub each : (c : ℕ) (b : Best) (p : Pass) → slice_get words c ≡ Some b → slice_get passes c ≡ Some p
      → p ≡ fresh_pass b (portion_last g c)
