-- The lower bound of a row by its codes. What the codes stand for lies so far from the query, and the row lies at most as far from it as
-- what is forgotten is long: so the row is as far from the query at least as the one is above the other. Lengths are doubled, so that little is
-- lost where they are rounded, and the squares of two lists that stand one behind the other add up.
use Rattle.std.specs.Prelude.{◌≡◌, Bool, leb, slice_index, ℕ, ℤ, ◌+◌, ◌-◌, ◌*◌, ◌/◌, List, [], ◌∷◌, drop, length, max, take}
use Rattle.series_core.specs.Distance.{squared_distance}
use Rattle.row_codes.specs.Roots.{root, square}
use Rattle.row_codes.specs.Codes.{codes_of, pictured, value_squares}
use Rattle.row_codes.specs.Rows.{Block, block_count}

-- how far the query lies from what the codes of a block stand for, squared
abbrev pub block_distance : List ℤ → Block → ℕ
block_distance query b = squared_distance (pictured b.low b.step (codes_of b.words)) query

-- the bound up to the end of a block: a quarter of the square by which twice a length, of which the square is known, is above another one
abbrev pub bound_at : ℕ → ℕ → ℕ
bound_at squared rest = square (root (4 * squared) - rest) / 4

-- the greatest of the bounds up to the ends of blocks, where the squares of those before add up to so much
abbrev pub bound_from : ℕ → List ℤ → List Block → ℕ
bound_from before query [] = 0
bound_from before query (b ∷ bs) =
    let here = before + block_distance query b in
    max (bound_at here b.rest) (bound_from here (drop 256 query) bs)

-- the lower bound of a row by its codes
abbrev pub code_bound : List ℤ → List Block → ℕ
code_bound query bs = bound_from 0 query bs

-- the squares of blocks of a row of length n are those of what the codes of its values stand for
abbrev pub HaveSquares : ℕ → List Block → Type 0
HaveSquares n [] = Unit {0}
HaveSquares n (b ∷ bs) =
    (b.squares ≡ value_squares (pictured b.low b.step (take n (codes_of b.words)))) × HaveSquares (n - 256) bs

-- blocks of a row of length n: as many as it has, and each with its squares
pub record AreCodesFor (n : ℕ) (bs : List Block) : Type 0 where
  pub count : length bs ≡ block_count n
  pub squares : HaveSquares n bs

-- for each query in turn, whether the bound is at most the limit at its place, from some place on
abbrev pub within_from : ℕ → List Block → List ℕ → List (List ℤ) → List Bool
within_from k bs limits [] = []
within_from k bs limits (query ∷ queries) =
    leb (code_bound query bs) (slice_index limits k) ∷ within_from (k + 1) bs limits queries

-- for each of some queries, whether the bound is at most its limit
abbrev pub each_within : List Block → List ℕ → List (List ℤ) → List Bool
each_within bs limits queries = within_from 0 bs limits queries
