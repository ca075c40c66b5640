-- The blocks of a query's view: what is cut out of it, its last block, and how far it lies from what the codes of a block stand for.
use Rattle.std.proofs.Common.{◌≡◌, ℕ, suc, ◌+◌, ◌-◌, ◌*◌, ◌/◌, ◌<◌, ◌≤◌, arith, sym, ap, ◌∙◌, subst, ◌⊎◌, inl, inr, ℤ, pos, List, ◌∷◌, ◌++◌, length, map, take, drop, replicate, get_or, leb}
use Rattle.std.specs.Prelude.{min, max}
use Rattle.std.specs.List.{range_with_len}
use Rattle.std.proofs.lemmas.Bool.{cases_lt, le-leb, lt-leb}
use Rattle.std.proofs.lemmas.List.{take_all, length-take, length-drop, length-append, length-replicate, append-nil, drop-drop, get_or-take}
use Rattle.std.proofs.lemmas.List.FromFn.{get_or-map-range_with_len}
use Rattle.std.proofs.Math.Seq.{drop-cons}
use Rattle.row_codes.specs.Codes.{codes_of, pictured, value_squares}
use Rattle.row_codes.specs.Rows.{Block}
use Rattle.row_codes.specs.Bound.{HaveSquares, block_distance, bound_at, bound_from}
use Rattle.row_codes.specs.Lanes.{code_dot}
use Rattle.row_codes.specs.Kept.{Sums, filled, multiplied_out, sums_at, values_at}
use Rattle.row_codes.proofs.Dots.{codes_long, dot_filled}
use Rattle.row_codes.proofs.Lists.{pictured_front}
use Rattle.row_codes.proofs.Pictures.{picture_distance}

-- a whole block needs no zeros
pub whole_block : (query : List ℤ) (k : ℕ) → 256 * k + 256 ≤ length query → values_at query k ≡ filled (values_at query k)
whole_block query k inside =
    let long : length (values_at query k) ≡ 256
    = omega (arith, length-take 256 (drop (256 * k) query), length-drop (256 * k) query, inside) in
    let none : 256 - length (values_at query k) ≡ 0 = omega (arith, long) in
    sym (append-nil (values_at query k)) ∙ ap (λ n. values_at query k ++ replicate n (pos 0)) (sym none)

-- a block behind which nothing stands is the last
pub last_block : (query : List ℤ) (k : ℕ) → 256 * k ≤ length query - 1 → length query ≤ 256 * k + 256
    → filled (drop (256 * ((length query - 1) / 256)) query) ≡ filled (values_at query k)
last_block query k inside short =
    let number : (length query - 1) / 256 ≡ k = omega (arith, inside, short) in
    ap (λ n. filled (drop (256 * n) query)) number
    ∙ ap filled (sym (take_all 256 (drop (256 * k) query) (omega (arith, length-drop (256 * k) query, short))))

-- how far a query lies from what the codes of a block stand for
pub far_from_block : (query : List ℤ) (b : Block) (k : ℕ) → length b.words ≡ 64
    → b.squares ≡ value_squares (pictured b.low b.step (take (length query - 256 * k) (codes_of b.words)))
    → pos (block_distance (drop (256 * k) query) b)
    ≡ multiplied_out b.low b.step b.squares (code_dot (codes_of b.words) (filled (values_at query k))) (sums_at query k)
far_from_block query b k words squares =
    let q = values_at query k in
    let codes = codes_of b.words in
    let many : length codes ≡ 256 = omega (arith, codes_long b.words, words) in
    let long : length q ≡ min 256 (length query - 256 * k)
    = omega (arith, length-take 256 (drop (256 * k) query), length-drop (256 * k) query) in
    let front : take (length query - 256 * k) codes ≡ take (length q) codes = fronts (cases_lt (length query - 256 * k) 256) many long in
    let as_many : length (take (length q) codes) ≡ length q = omega (arith, length-take (length q) codes, many, long) in
    ap pos (pictured_front 256 b.low b.step codes (drop (256 * k) query) (omega (arith, many)))
    ∙ picture_distance b.low b.step (take (length q) codes) q as_many
    ∙ ap (λ n. multiplied_out b.low b.step n (code_dot (take (length q) codes) q) (sums_at query k))
    (sym (squares ∙ ap (λ cs. value_squares (pictured b.low b.step cs)) front))
    ∙ ap (λ z. multiplied_out b.low b.step b.squares z (sums_at query k)) (sym (dot_filled codes q (256 - length q)))
  where
    fronts : (length query - 256 * k < 256) ⊎ (256 ≤ length query - 256 * k) → length (codes_of b.words) ≡ 256
        → length (values_at query k) ≡ min 256 (length query - 256 * k)
        → take (length query - 256 * k) (codes_of b.words) ≡ take (length (values_at query k)) (codes_of b.words)
    fronts (inl less) many long = ap (λ n. take n (codes_of b.words)) (omega (arith, less, long))
    fronts (inr most) many long =
        take_all (length query - 256 * k) (codes_of b.words) (omega (arith, most, many))
        ∙ sym (take_all (length (values_at query k)) (codes_of b.words) (omega (arith, most, many, long)))

-- the place of a front holds the value that fills it
pub at_front : {X : Type 0} (f : ℕ → X) (xs : List X) (n k : ℕ) (d : X)
    → take n xs ≡ map f (range_with_len 0 n) → k < n → get_or xs k d ≡ f k
at_front f xs n k d so inside =
    sym (get_or-take n xs k d inside) ∙ ap (λ front. get_or front k d) so
    ∙ get_or-map-range_with_len f 0 n k k d inside (omega (arith, inside))

-- 256 values are filled
pub length-filled : (xs : List ℤ) → length xs ≤ 256 → length (filled xs) ≡ 256
length-filled xs few =
    omega (arith, length-append xs (replicate (256 - length xs) (pos 0)), length-replicate {A = ℤ} (256 - length xs) (pos 0), few)

-- where one bound is within the limit, the other decides on the greater
within_greater : (a b limit : ℕ) → a ≤ limit → leb (max a b) limit ≡ leb b limit
within_greater a b limit near = by_cases (cases_lt limit b)
  where
    by_cases : (limit < b) ⊎ (b ≤ limit) → leb (max a b) limit ≡ leb b limit
    by_cases (inl less) = lt-leb (max a b) limit (omega (arith, less)) ∙ sym (lt-leb b limit less)
    by_cases (inr most) = le-leb (max a b) limit (omega (arith, near, most)) ∙ sym (le-leb b limit most)

-- where the row is not too far up to the end of a block, what is left decides
pub within_more : (query : List ℤ) (codes : List Block) (limit before k far : ℕ) (b : Block) → k < length codes
    → b ≡ get_or codes k b → far ≡ block_distance (drop (256 * k) query) b → bound_at (before + far) b.rest ≤ limit
    → leb (bound_from before (drop (256 * k) query) (drop k codes)) limit
    ≡ leb (bound_from (before + far) (drop (256 * (k + 1)) query) (drop (k + 1) codes)) limit
within_more query codes limit before k far b inside is_b is_far near =
    let q = drop (256 * k) query in
    let here = before + block_distance q b in
    let next : suc k ≡ k + 1 = omega arith in
    let place : 256 * k + 256 ≡ 256 * (k + 1) = omega arith in
    let left : drop k codes ≡ b ∷ drop (k + 1) codes
    = drop-cons codes k b inside ∙ ap (λ x. x ∷ drop (suc k) codes) (sym is_b) ∙ ap (λ n. b ∷ drop n codes) next in
    let same : here ≡ before + far = ap (λ n. before + n) (sym is_far) in
    ap (λ l. leb (bound_from before q l) limit) left
    ∙ within_greater (bound_at here b.rest) (bound_from here (drop 256 q) (drop (k + 1) codes)) limit
    (subst (λ n. bound_at n b.rest ≤ limit) (sym same) near)
    ∙ ap (λ n. leb (bound_from n (drop 256 q) (drop (k + 1) codes)) limit) same
    ∙ ap (λ l. leb (bound_from (before + far) l (drop (k + 1) codes)) limit)
    (drop-drop 256 (256 * k) query ∙ ap (λ n. drop n query) place)

-- the squares of the blocks that are left
pub squares_left : (n k : ℕ) (codes : List Block) (d : Block) → k < length codes → HaveSquares (n - 256 * k) (drop k codes)
    → HaveSquares (n - 256 * (k + 1)) (drop (k + 1) codes)
squares_left n k codes d inside squares =
    let next : suc k ≡ k + 1 = omega arith in
    let place : n - 256 * k - 256 ≡ n - 256 * (k + 1) = omega arith in
    let all = subst (λ l. HaveSquares (n - 256 * k) l) (drop-cons codes k d inside) squares in
    subst (λ m. HaveSquares m (drop (k + 1) codes)) place
    (subst (λ m. HaveSquares (n - 256 * k - 256) (drop m codes)) next all.1)

-- how far, of what a view keeps and of what a block's fields say
pub far_as_kept : (query kept : List ℤ) (sums : List Sums) (own b : Block) (k : ℕ) (dot passed : ℤ) (s : Sums) → kept ≡ query → own ≡ b
    → length own.words ≡ 64 → 256 * k < length query → s ≡ get_or sums k s
    → take ((length kept + 255) / 256) sums ≡ map (sums_at kept) (range_with_len 0 ((length kept + 255) / 256))
    → b.squares ≡ value_squares (pictured b.low b.step (take (length query - 256 * k) (codes_of b.words)))
    → dot ≡ code_dot (codes_of b.words) (filled (values_at query k)) → passed ≡ dot
    → pos (block_distance (drop (256 * k) query) b) ≡ multiplied_out own.low own.step own.squares passed s
far_as_kept query kept sums own b k dot passed s is_query is_b words inside is_s summed squares is_dot is_passed =
    let long : length kept ≡ length query = ap (λ (q : List ℤ). length q) is_query in
    let far = far_from_block query b k (ap (λ (x : Block). length x.words) (sym is_b) ∙ words) squares in
    let own_sums = is_s ∙ at_front (sums_at kept) sums ((length kept + 255) / 256) k s summed (omega (arith, inside, long))
    ∙ ap (λ (q : List ℤ). sums_at q k) is_query in
    far
    ∙ ap (λ z. multiplied_out b.low b.step b.squares z (sums_at query k)) (sym (is_passed ∙ is_dot))
    ∙ ap (multiplied_out b.low b.step b.squares passed) (sym own_sums)
    ∙ ap (λ (x : Block). multiplied_out x.low x.step x.squares passed s) (sym is_b)
