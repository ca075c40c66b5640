-- The bound of a row by its codes is at most its distance (`bound_below`), and its codes have their squares (`have_squares`).
use Rattle.std.proofs.Common.{◌≡◌, ℕ, zero, suc, ◌+◌, ◌-◌, ◌*◌, ◌≤◌, arith, sym, ap, subst, ◌∙◌, refl, ℤ, List, [], ◌++◌, length, take, drop}
use Rattle.std.specs.Prelude.{max}
use Rattle.std.proofs.lemmas.List.{length-append, length-map, length-take, length-drop, append_assoc, take-append-drop}
use Rattle.series_core.specs.Distance.{squared_distance}
use Rattle.lower_bound.proofs.Distances.{squared_distance-append}
use Rattle.row_codes.specs.Roots.{root, root_up, square}
use Rattle.row_codes.specs.Codes.{code_of, least, pictured, step_of, value_squares}
use Rattle.row_codes.specs.Rows.{block_codes, block_count, block_of, blocks_of, forgotten, pictures, row_codes, value_codes}
use Rattle.row_codes.specs.Bound.{AreCodesFor, HaveSquares, block_distance, bound_at, bound_from, code_bound}
use Rattle.row_codes.proofs.RootLemmas.{root_up_high}
use Rattle.row_codes.proofs.Triangle.{distance_turned, side_left}
use Rattle.row_codes.proofs.Lists.{pictured_front}
use Rattle.row_codes.proofs.OfBlocks.{front_codes, held_codes, length-block_codes}

-- a side is as long at least as another is longer than the third: so of twice their lengths, rounded
doubled_left : (us ps vs : List ℤ) → length us ≡ length ps
    → square (root (4 * squared_distance ps vs) - root_up (4 * squared_distance us ps)) ≤ 4 * squared_distance us vs
doubled_left us ps vs long =
    side_left (root_up (4 * squared_distance us ps)) ps us vs (sym long)
    (omega (arith, root_up_high (4 * squared_distance us ps), distance_turned ps us))

-- no block has more than 256 values
few_values : (xs : List ℤ) → length (take 256 xs) ≤ 256
few_values xs = omega (arith, length-take 256 xs)

-- how far a query lies from what a block of a row as long stands for
distance_of_block : (before : ℕ) (xs qs : List ℤ) → length xs ≡ length qs
    → block_distance qs (block_of before (take 256 xs)) ≡ squared_distance (pictures (take 256 xs)) (take 256 qs)
distance_of_block before xs qs same =
    let own = take 256 xs in
    let m = length (take 256 qs) in
    let as_long : m ≡ length own = omega (arith, length-take 256 xs, length-take 256 qs, same) in
    ap (λ cs. squared_distance (pictured (least own) (step_of own) cs) qs) (held_codes own (few_values xs))
    ∙ pictured_front 256 (least own) (step_of own) (block_codes own) qs (omega (arith, length-block_codes own (few_values xs)))
    ∙ ap (λ cs. squared_distance (pictured (least own) (step_of own) cs) (take 256 qs))
    (front_codes own m (few_values xs) (omega (arith, as_long, few_values xs)))

-- 256 values stand in front of the others
parted : (us xs : List ℤ) → us ++ xs ≡ (us ++ take 256 xs) ++ drop 256 xs
parted us xs = ap (λ l. us ++ l) (sym (take-append-drop 256 xs)) ∙ sym (append_assoc us (take 256 xs) (drop 256 xs))

-- the bounds from some block on: before it stand values, what codes stand for, and the query's values
below_from : (k : ℕ) (us ps vs xs qs : List ℤ) → length us ≡ length ps → length ps ≡ length vs → length xs ≡ length qs
    → bound_from (squared_distance ps vs) qs (blocks_of k (squared_distance us ps) xs) ≤ squared_distance (us ++ xs) (vs ++ qs)
below_from zero us ps vs xs qs long_u long_p same = omega arith
below_from (suc k) us ps vs xs qs long_u long_p same =
    let x = take 256 xs in
    let q = take 256 qs in
    let own = pictures x in
    let before = squared_distance us ps + forgotten x in
    let here = squared_distance ps vs + block_distance qs (block_of (squared_distance us ps) x) in
    let long_x : length x ≡ length q = omega (arith, length-take 256 xs, length-take 256 qs, same) in
    let long_own : length own ≡ length x = length-map (value_codes x) _ ∙ length-map x (code_of (least x) (step_of x)) in
    let is_before : before ≡ squared_distance (us ++ x) (ps ++ own) = sym (squared_distance-append us ps x own long_u) in
    let is_here : here ≡ squared_distance (ps ++ own) (vs ++ q)
    = ap (λ n. squared_distance ps vs + n) (distance_of_block (squared_distance us ps) xs qs same)
    ∙ sym (squared_distance-append ps vs own q long_p) in
    let next_u : length (us ++ x) ≡ length (ps ++ own)
    = omega (arith, length-append us x, length-append ps own, long_u, long_own) in
    let next_p : length (ps ++ own) ≡ length (vs ++ q)
    = omega (arith, length-append ps own, length-append vs q, long_p, long_own, long_x) in
    let left : length (drop 256 xs) ≡ length (drop 256 qs) = omega (arith, length-drop 256 xs, length-drop 256 qs, same) in
    let near : square (root (4 * here) - root_up (4 * before)) ≤ 4 * squared_distance (us ++ x) (vs ++ q)
    = subst (λ n. square (root (4 * n) - root_up (4 * before)) ≤ 4 * squared_distance (us ++ x) (vs ++ q)) (sym is_here)
    (subst (λ n. square (root (4 * squared_distance (ps ++ own) (vs ++ q)) - root_up (4 * n)) ≤ 4 * squared_distance (us ++ x) (vs ++ q))
    (sym is_before) (doubled_left (us ++ x) (ps ++ own) (vs ++ q) next_u)) in
    let rest = below_from k (us ++ x) (ps ++ own) (vs ++ q) (drop 256 xs) (drop 256 qs) next_u next_p left in
    let rest_is : bound_from here (drop 256 qs) (blocks_of k before (drop 256 xs))
    ≡ bound_from (squared_distance (ps ++ own) (vs ++ q)) (drop 256 qs)
    (blocks_of k (squared_distance (us ++ x) (ps ++ own)) (drop 256 xs))
    = ap (λ n. bound_from n (drop 256 qs) (blocks_of k before (drop 256 xs))) is_here
    ∙ ap (λ n. bound_from (squared_distance (ps ++ own) (vs ++ q)) (drop 256 qs) (blocks_of k n (drop 256 xs))) is_before in
    let whole : squared_distance (us ++ xs) (vs ++ qs) ≡ squared_distance ((us ++ x) ++ drop 256 xs) ((vs ++ q) ++ drop 256 qs)
    = ap (λ l. squared_distance l (vs ++ qs)) (parted us xs)
    ∙ ap (λ l. squared_distance ((us ++ x) ++ drop 256 xs) l) (parted vs qs) in
    let sum = squared_distance-append (us ++ x) (vs ++ q) (drop 256 xs) (drop 256 qs) (next_u ∙ next_p) in
    greater (bound_at here (root_up (4 * before))) (bound_from here (drop 256 qs) (blocks_of k before (drop 256 xs)))
    (squared_distance (us ++ xs) (vs ++ qs))
    (omega (arith, near, whole, sum)) (omega (arith, rest, rest_is, whole))
  where
    greater : (a b m : ℕ) → a ≤ m → b ≤ m → max a b ≤ m
    greater a b m one two = omega (arith, one, two)

-- the bound of a row is at most its distance
pub bound_below : (xs qs : List ℤ) → length xs ≡ length qs → code_bound qs (row_codes xs) ≤ squared_distance xs qs
bound_below xs qs same = below_from (block_count (length xs)) [] [] [] xs qs refl refl same

-- so many blocks are so many
length-blocks_of : (k before : ℕ) (xs : List ℤ) → length (blocks_of k before xs) ≡ k
length-blocks_of zero before xs = refl
length-blocks_of (suc k) before xs = omega (arith, length-blocks_of k (before + forgotten (take 256 xs)) (drop 256 xs))

-- the squares of blocks are those of what the codes of their values stand for
squares_of_blocks : (k n before : ℕ) (xs : List ℤ) → n ≡ length xs → HaveSquares n (blocks_of k before xs)
squares_of_blocks zero n before xs long = tt
squares_of_blocks (suc k) n before xs long =
    let own = take 256 xs in
    let left : n - 256 ≡ length (drop 256 xs) = omega (arith, length-drop 256 xs, long) in
    let front = ap (take n) (held_codes own (few_values xs))
    ∙ front_codes own n (few_values xs) (omega (arith, length-take 256 xs, long)) in
    (ap (λ cs. value_squares (pictured (least own) (step_of own) cs)) (sym front), squares_of_blocks k (n - 256) (before + forgotten own) (drop 256 xs) left)

-- the codes of a row are codes for each query of its length
pub have_squares : (xs : List ℤ) → AreCodesFor (length xs) (row_codes xs)
have_squares xs = record {
  count = length-blocks_of (block_count (length xs)) 0 xs;
  squares = squares_of_blocks (block_count (length xs)) (length xs) 0 xs refl;
}
