-- The bound of a box is at most that of each of those that it joins (`joined_below`): so is the bound of a box of means (`box_below`), and
-- that of a box of boxes (`wider_below`).
use Rattle.std.proofs.Common.{ℕ, zero, suc, ◌-◌, ◌<◌, ◌≤◌, arith, List, [], ◌∷◌, length, map, slice_index_or}
use Rattle.std.specs.Prelude.{min, max}
use Rattle.std.specs.Simd.Lanes.{zip2, sum_l}
use Rattle.std.proofs.lemmas.Nat.{mul-le}
use Rattle.mean_bound.specs.MeanBound.{View, square, gaps_between, mean_bound}
use Rattle.mean_bound.specs.Boxes.{Box, box_of, box_of_boxes, box_bound}

-- what reaches less far has no smaller gap
gap_grows : (l h least a b greatest : ℕ) → least ≤ a → b ≤ greatest
    → square (min (max (l - greatest) (least - h)) 16383) ≤ square (min (max (l - b) (a - h)) 16383)
gap_grows l h least a b greatest low high =
    let less : min (max (l - greatest) (least - h)) 16383 ≤ min (max (l - b) (a - h)) 16383 = omega (arith, low, high) in
    mul-le _ _ _ _ less less

-- so neither of two boxes has smaller gaps than what joins them
joined_grow : (lows highs ms cs bs ds : List ℕ)
    → (sum_l (map square (gaps_between lows highs (zip2 min ms cs) (zip2 max bs ds))) ≤ sum_l (map square (gaps_between lows highs ms bs)))
    × (sum_l (map square (gaps_between lows highs (zip2 min ms cs) (zip2 max bs ds))) ≤ sum_l (map square (gaps_between lows highs cs ds)))
joined_grow [] highs ms cs bs ds = (omega arith, omega arith)
joined_grow (l ∷ lows) highs ms cs [] ds = (omega arith, omega arith)
joined_grow (l ∷ lows) highs ms cs (b ∷ bs) [] = (omega arith, omega arith)
joined_grow (l ∷ lows) highs [] cs (b ∷ bs) (d ∷ ds) = (omega arith, omega arith)
joined_grow (l ∷ lows) highs (a ∷ ms) [] (b ∷ bs) (d ∷ ds) = (omega arith, omega arith)
joined_grow (l ∷ lows) [] (a ∷ ms) (c ∷ cs) (b ∷ bs) (d ∷ ds) = (omega arith, omega arith)
joined_grow (l ∷ lows) (h ∷ highs) (a ∷ ms) (c ∷ cs) (b ∷ bs) (d ∷ ds) =
    let one = gap_grows l h (min a c) a b (max b d) (omega arith) (omega arith) in
    let other = gap_grows l h (min a c) c d (max b d) (omega arith) (omega arith) in
    let behind = joined_grow lows highs ms cs bs ds in
    (omega (arith, one, behind.0), omega (arith, other, behind.1))

-- and so it is with their bounds
joined_below : (v : View) (b e : Box)
    → (box_bound v (record { lows = zip2 min b.lows e.lows; highs = zip2 max b.highs e.highs }) ≤ box_bound v b)
    × (box_bound v (record { lows = zip2 min b.lows e.lows; highs = zip2 max b.highs e.highs }) ≤ box_bound v e)
joined_below v b e =
    let both = joined_grow v.lows v.highs b.lows e.lows b.highs e.highs in
    (mul-le _ _ _ _ (omega arith) both.0, mul-le _ _ _ _ (omega arith) both.1)

-- the bound of a box of means is at most that of each of them
pub box_below : (v : View) (all : List (List ℕ)) (i : ℕ) → i < length all
    → box_bound v (box_of all) ≤ mean_bound v (slice_index_or all i [])
box_below v [] i inside = absurd (omega (arith, inside))
box_below v (ms ∷ rest) zero inside = (joined_below v (box_of rest) (record { lows = ms; highs = ms })).1
box_below v (ms ∷ rest) (suc i) inside =
    omega (arith, (joined_below v (box_of rest) (record { lows = ms; highs = ms })).0, box_below v rest i (omega (arith, inside)))

-- the bound of a box of boxes is at most that of each of them
pub wider_below : (v : View) (all : List Box) (i : ℕ) → i < length all
    → box_bound v (box_of_boxes all) ≤ box_bound v (slice_index_or all i (box_of []))
wider_below v [] i inside = absurd (omega (arith, inside))
wider_below v (b ∷ rest) zero inside = (joined_below v (box_of_boxes rest) b).1
wider_below v (b ∷ rest) (suc i) inside =
    omega (arith, (joined_below v (box_of_boxes rest) b).0, wider_below v rest i (omega (arith, inside)))
