-- Products of codes and a query's values, and how they add up in lanes: sums are told up to multiples of 2^32, until the last.
use Rattle.std.specs.Prelude.{◌≡◌, ℕ, zero, suc, ◌+◌, ◌*◌, ◌/◌, ◌%◌, ◌≤◌, ℤ, pos, ◌+ℤ◌, ◌*ℤ◌, List, [], ◌∷◌, length, map, unsigned_abs, FitsSigned}
use Rattle.std.specs.List.{All}
use Rattle.std.specs.Int.{int_wrap}
use Rattle.std.specs.Simd.Lanes.{chunk}
use mir.Syntax.{w16, w32}
use Rattle.row_codes.specs.Codes.{codes_of}

-- the sum of lanes
abbrev pub lane_total : List ℤ → ℤ
lane_total [] = pos 0
lane_total (x ∷ xs) = x +ℤ lane_total xs

-- up to multiples of 2^32
abbrev pub wrapped : ℤ → ℤ
wrapped z = int_wrap w32 z

-- the sum of the products of codes and values
abbrev pub code_dot : List ℕ → List ℤ → ℤ
code_dot [] qs = pos 0
code_dot (c ∷ cs) [] = pos 0
code_dot (c ∷ cs) (q ∷ qs) = (pos c *ℤ q) +ℤ code_dot cs qs

-- what the codes of sixteen words add, with the values at their places: the first of each sixteen stands at this place or a multiple of
-- 64 behind it
abbrev pub words_dot : List ℕ → ℕ → List ℤ → ℤ
words_dot ws at qs =
    ((code_dot (map (λ w. w % 16) ws) (chunk at 16 qs) +ℤ code_dot (map (λ w. w / 16 % 16) ws) (chunk (64 + at) 16 qs))
    +ℤ code_dot (map (λ w. w / 256 % 16) ws) (chunk (128 + at) 16 qs))
    +ℤ code_dot (map (λ w. w / 4096 % 16) ws) (chunk (192 + at) 16 qs)

-- what so many sixteens of words add
abbrev pub sixteens_dot : ℕ → List ℕ → List ℤ → ℤ
sixteens_dot zero ws qs = pos 0
sixteens_dot (suc n) ws qs = sixteens_dot n ws qs +ℤ words_dot (chunk (16 * n) 16 ws) (16 * n) qs

-- eight lanes hold what so many sixteens of words add, up to multiples of 2^32
pub record HoldSixteens (n : ℕ) (ws : List ℕ) (qs sums : List ℤ) : Type 0 where
  pub value : wrapped (lane_total sums) ≡ wrapped (sixteens_dot n ws qs)
  pub lanes : length sums ≡ 8
  pub fits : All (FitsSigned w32) sums

-- the values of a block: 256 of 16 bits
pub record AreBlockValues (qs : List ℤ) : Type 0 where
  pub count : length qs ≡ 256
  pub fits : All (FitsSigned w16) qs

-- the sum of the products of the codes that words hold and values, which takes 28 bits
pub record IsBlockDot (ws : List ℕ) (qs : List ℤ) (dot : ℤ) : Type 0 where
  pub value : dot ≡ code_dot (codes_of ws) qs
  pub small : unsigned_abs dot ≤ 125829120

-- the values of a block of four queries
pub record AreFourValues (one two three four : List ℤ) : Type 0 where
  pub a : AreBlockValues one
  pub b : AreBlockValues two
  pub c : AreBlockValues three
  pub d : AreBlockValues four
