-- Boxes of means: of some series the least and the greatest of each mean. The bound of a box is that of the means in it that
-- are nearest to the query.
use Rattle.std.specs.Prelude.{ℕ, ◌*◌, min, max, List, [], ◌∷◌, map, replicate}
use Rattle.std.specs.Simd.Lanes.{zip2, sum_l}
use Rattle.mean_bound.specs.MeanBound.{View, square, gaps_between}

-- a box: the least and the greatest of each mean
pub record Box : Type 0 where
  pub lows : List ℕ
  pub highs : List ℕ

-- the box of the means of some series; that of none holds nothing
abbrev pub box_of : List (List ℕ) → Box
box_of [] = record { lows = replicate 16 65535; highs = replicate 16 0 }
box_of (means ∷ rest) = record {
  lows = zip2 min (box_of rest).lows means;
  highs = zip2 max (box_of rest).highs means;
}

-- the box of some boxes, which holds what one of them holds; that of none holds nothing
abbrev pub box_of_boxes : List Box → Box
box_of_boxes [] = record { lows = replicate 16 65535; highs = replicate 16 0 }
box_of_boxes (b ∷ rest) = record {
  lows = zip2 min (box_of_boxes rest).lows b.lows;
  highs = zip2 max (box_of_boxes rest).highs b.highs;
}

-- the lower bound of all series whose means lie in a box
abbrev pub box_bound : View → Box → ℕ
box_bound v b = v.least_length * sum_l (map square (gaps_between v.lows v.highs b.lows b.highs))
