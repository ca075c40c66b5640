-- The distance as it is walked from the front: one place at a time (`distance_from_place`), a part at a time
-- (`distance_from_part`, `distance_from_sixteen`, `distance_from_block`), and to the end (`distance_of_rest`).
use Rattle.std.proofs.Common.{◌≡◌, ℕ, ◌+◌, ◌-◌, ◌*◌, ◌<◌, ◌≤◌, ℤ, pos, List, [], ◌∷◌, ◌++◌, length, drop, take, get_or, add-one, zero-add, drop-cons, sym, ap, ◌∙◌, arith}
use Rattle.std.proofs.lemmas.List.{take_all, length-drop}
use Rattle.std.proofs.lemmas.Simd.{chunk-drop, length-chunk}
use Rattle.series_core.specs.Distance.{squared_difference, squared_distance}

-- the distance of what is left at a place is the square there and the distance of what is left
-- after it
pub distance_from_place : (xs ys : List ℤ) (i : ℕ) → i < length xs → i < length ys
    → squared_distance (drop i xs) (drop i ys)
    ≡ squared_difference (get_or xs i (pos 0)) (get_or ys i (pos 0))
    + squared_distance (drop (i + 1) xs) (drop (i + 1) ys)
distance_from_place xs ys i in_xs in_ys =
    rw (add-one, drop-cons xs i (pos 0), drop-cons ys i (pos 0))

-- the distance of two lists that are each put together of two is the sum of the parts' distances
pub distance_of_parts : (xs ys us vs : List ℤ) → length xs ≡ length us
    → squared_distance (xs ++ ys) (us ++ vs) ≡ squared_distance xs us + squared_distance ys vs
distance_of_parts [] ys [] vs long = sym (zero-add (squared_distance ys vs))
distance_of_parts [] ys (u ∷ us) vs long = absurd (omega arith)
distance_of_parts (x ∷ xs) ys [] vs long = absurd (omega arith)
distance_of_parts (x ∷ xs) ys (u ∷ us) vs long =
    let rest = distance_of_parts xs ys us vs (omega arith) in
    omega arith

-- the distance of what is left at a place is that of the next n values and that of what is left
-- after them, at m
pub distance_from_part : (xs ys : List ℤ) (i n m : ℕ) → i + n ≡ m → m ≤ length xs → m ≤ length ys
    → squared_distance (drop i xs) (drop i ys)
    ≡ squared_distance (take n (drop i xs)) (take n (drop i ys))
    + squared_distance (drop m xs) (drop m ys)
distance_from_part xs ys i n m is in_xs in_ys =
    let long : length (take n (drop i xs)) ≡ length (take n (drop i ys))
    = length-chunk i n xs (omega arith) ∙ sym (length-chunk i n ys (omega arith)) in
    let first : drop i xs ≡ take n (drop i xs) ++ drop m xs
    = chunk-drop i n xs ∙ ap (λ k. take n (drop i xs) ++ drop k xs) is in
    let second : drop i ys ≡ take n (drop i ys) ++ drop m ys
    = chunk-drop i n ys ∙ ap (λ k. take n (drop i ys) ++ drop k ys) is in
    ap (λ l. squared_distance l (drop i ys)) first
    ∙ ap (squared_distance (take n (drop i xs) ++ drop m xs)) second
    ∙ distance_of_parts (take n (drop i xs)) (drop m xs) (take n (drop i ys)) (drop m ys) long

-- what a slice has of n values from a place on is those values
distance_of_slice : (xs ys : List ℤ) (i n : ℕ)
    → squared_distance (take (i + n - i) (drop i xs)) (take (i + n - i) (drop i ys))
    ≡ squared_distance (take n (drop i xs)) (take n (drop i ys))
distance_of_slice xs ys i n =
    let is : i + n - i ≡ n = omega arith in
    ap (λ m. squared_distance (take m (drop i xs)) (take m (drop i ys))) is

-- the distance of what is left at a run of sixteen is that of the run and that of what is left after it
pub distance_from_sixteen : (xs ys : List ℤ) (i : ℕ) → 16 * (i + 1) ≤ length xs → 16 * (i + 1) ≤ length ys
    → squared_distance (drop (16 * i) xs) (drop (16 * i) ys)
    ≡ squared_distance (take 16 (drop (16 * i) xs)) (take 16 (drop (16 * i) ys))
    + squared_distance (drop (16 * (i + 1)) xs) (drop (16 * (i + 1)) ys)
distance_from_sixteen xs ys i in_xs in_ys =
    distance_from_part xs ys (16 * i) 16 (16 * (i + 1)) (omega arith) in_xs in_ys

-- the distance of what is left at a block of 64 is that of the block's slice and that of what is left after it
pub distance_from_block : (xs ys : List ℤ) (i : ℕ) → (i + 1) * 64 ≤ length xs → (i + 1) * 64 ≤ length ys
    → squared_distance (drop (i * 64) xs) (drop (i * 64) ys)
    ≡ squared_distance (take (i * 64 + 64 - i * 64) (drop (i * 64) xs)) (take (i * 64 + 64 - i * 64) (drop (i * 64) ys))
    + squared_distance (drop ((i + 1) * 64) xs) (drop ((i + 1) * 64) ys)
distance_from_block xs ys i in_xs in_ys =
    distance_from_part xs ys (i * 64) 64 ((i + 1) * 64) (omega arith) in_xs in_ys
    ∙ ap (λ n. n + squared_distance (drop ((i + 1) * 64) xs) (drop ((i + 1) * 64) ys))
    (sym (distance_of_slice xs ys (i * 64) 64))

-- what a slice has from a place to its end is what is left there
pub distance_of_rest : (xs ys : List ℤ) (i : ℕ)
    → squared_distance (take (length xs - i) (drop i xs)) (take (length ys - i) (drop i ys))
    ≡ squared_distance (drop i xs) (drop i ys)
distance_of_rest xs ys i =
    ap (λ l. squared_distance l (take (length ys - i) (drop i ys)))
    (take_all (length xs - i) (drop i xs) (omega (arith, length-drop i xs)))
    ∙ ap (squared_distance (drop i xs))
    (take_all (length ys - i) (drop i ys) (omega (arith, length-drop i ys)))
