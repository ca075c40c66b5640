-- Items cut out of bytes: by their places, and in two parts.
use Rattle.std.proofs.Common.{div-mul-le_self, ◌/◌, take, ◌≡◌, ℕ, zero, suc, ◌+◌, ◌*◌, ◌<◌, ◌≤◌, List, [], ◌∷◌, ◌++◌, length, drop, All, Fits, w8, get_or, zero-add, add-zero, append-nil, length-append, length-drop, length-take, refl, ap, ◌∙◌, subst, sym, arith}
use Rattle.std.proofs.lemmas.Grind.{get_or_default_zero}
use Rattle.std.specs.Prelude.{slice_index}
use Rattle.std.proofs.lemmas.List.{drop-drop, nil_from_length, take-append-drop, length-take-le, drop-append-le, take_at}
use Rattle.std.proofs.Math.Nat.{mul-suc, suc-mul}
use Rattle.series_file.specs.Items.{items_from}

-- values of eight bits are below 256
pub are_bytes : (bytes : List ℕ) → ((i : ℕ) → Fits w8 (get_or bytes i 0)) → All (λ b. b < 256) bytes
are_bytes bytes fit k d inside = subst (λ n. n < 256) (sym (get_or_default_zero bytes k d inside)) (omega (arith, fit k))

-- the bytes of whole items
pub whole_front : (size : ℕ) (xs : List ℕ) → length xs / size * size ≡ length (take (length xs / size * size) xs)
whole_front size xs = omega (arith, length-take (length xs / size * size) xs, div-mul-le_self (length xs) size)

-- cells in front, and as many in their place
module _ {X : Type 0} (n : ℕ) (xs : List X) where
  pub cells_front : n ≤ length xs → n ≡ length (take n xs)
  cells_front room = omega (arith, length-take n xs, room)

  pub cells_kept : (ys : List X) → n ≤ length xs → length ys ≡ length (take n xs) → length (ys ++ drop n xs) ≡ length xs
  cells_kept ys room same = omega (arith, length-append ys (drop n xs), length-drop n xs, length-take n xs, same, room)

-- what holds at each place the item that stands there in the bytes is the items of the bytes
pub items_by_place : {X : Type 0} (at : List ℕ → X) (n : ℕ) (items : List X) (bytes : List ℕ)
    → ((d : X) (k : ℕ) → k < length items → get_or items k d ≡ at (drop (n * k) bytes))
    → items ≡ items_from at n (length items) bytes
items_by_place at n [] bytes each = refl
items_by_place at n (x ∷ xs) bytes each =
    let none : n * 0 ≡ 0 = omega arith in
    let first : x ≡ at bytes = each x 0 (omega arith) ∙ ap (λ m. at (drop m bytes)) none in
    ap (λ y. y ∷ xs) first ∙ ap (λ ys. at bytes ∷ ys) (items_by_place at n xs (drop n bytes) rest)
  where
    rest : (d : _) (k : ℕ) → k < length xs → get_or xs k d ≡ at (drop (n * k) (drop n bytes))
    rest d k h =
        let next : n * suc k ≡ n + n * k = omega (arith, mul-suc n k) in
        each d (suc k) (omega arith)
        ∙ ap (λ m. at (drop m bytes)) next
        ∙ ap at (sym (drop-drop (n * k) n bytes))

-- the same where the places are read with 0 past the end
pub numbers_by_place : (at : List ℕ → ℕ) (n : ℕ) (items bytes : List ℕ)
    → ((k : ℕ) → k < length items → slice_index items k ≡ at (drop (n * k) bytes))
    → items ≡ items_from at n (length items) bytes
numbers_by_place at n items bytes each =
    items_by_place at n items bytes (λ d k h. within items k d h ∙ each k h)
  where
    within : (xs : List ℕ) (k d : ℕ) → k < length xs → get_or xs k d ≡ get_or xs k 0
    within [] k d h = absurd (omega arith)
    within (x ∷ xs) zero d h = refl
    within (x ∷ xs) (suc k) d h = within xs k d (omega arith)

-- where an item does not look behind its bytes, the items of two parts are those of the first and then of the second
pub items_from-append : {X : Type 0} (at : List ℕ → X) (n : ℕ)
    → ((xs ys : List ℕ) → n ≤ length xs → at (xs ++ ys) ≡ at xs)
    → (first more : ℕ) (xs ys : List ℕ) → length xs ≡ first * n
    → items_from at n (first + more)
    (xs ++ ys) ≡ items_from at n first xs ++ items_from at n more ys
items_from-append at n front zero more xs ys size =
    let none : xs ≡ [] = nil_from_length xs (omega arith) in
    ap (λ m. items_from at n m (xs ++ ys)) (zero-add more)
    ∙ ap (λ zs. items_from at n more (zs ++ ys)) none
items_from-append at n front (suc first) more xs ys size =
    let whole : n ≤ length xs = omega (arith, suc-mul first n) in
    let rest : length (drop n xs) ≡ first * n = omega (arith, suc-mul first n, length-drop n xs) in
    let next : suc first + more ≡ suc (first + more) = omega arith in
    ap (λ m. items_from at n m (xs ++ ys)) next
    ∙ ap (λ x. x ∷ items_from at n (first + more) (drop n (xs ++ ys))) (front xs ys whole)
    ∙ ap (λ zs. at xs ∷ items_from at n (first + more) zs) (drop-append-le n xs ys whole)
    ∙ ap (λ zs. at xs ∷ zs) (items_from-append at n front first more (drop n xs) ys rest)

-- the whole items of the front are those of all the bytes
pub items_from-front : {X : Type 0} (at : List ℕ → X) (n : ℕ)
    → ((xs ys : List ℕ) → n ≤ length xs → at (xs ++ ys) ≡ at xs)
    → (count : ℕ) (bytes : List ℕ) → count * n ≤ length bytes
    → items_from at n count (take (count * n) bytes) ≡ items_from at n count bytes
items_from-front at n front count bytes fits =
    sym (ap (items_from at n count) (sym (take-append-drop (count * n) bytes))
    ∙ ap (λ m. items_from at n m (part ++ drop (count * n) bytes)) (sym (add-zero count))
    ∙ items_from-append at n front count 0 part (drop (count * n) bytes)
    (length-take-le (count * n) bytes fits)
    ∙ append-nil (items_from at n count part))
  where
    part : List ℕ
    part = take (count * n) bytes

-- whole items are no longer than their bytes
whole_fits : (n size : ℕ) → 0 < n → size / n * n ≤ size
whole_fits n size some = div-mul-le_self size n

-- what was decoded of the front of some bytes, in cells of which more follow, is the items of the bytes
pub decoded_front : {X : Type 0} (at : List ℕ → X) (n : ℕ)
    → ((xs ys : List ℕ) → n ≤ length xs → at (xs ++ ys) ≡ at xs) → 0 < n
    → (bytes : List ℕ) (cells decoded rest : List X) → length bytes / n ≤ length cells
    → decoded ≡ items_from at n (length (take (length bytes / n) cells))
    (take (length bytes / n * n) bytes)
    → length decoded ≡ length (take (length bytes / n) cells)
    → take (length bytes / n) (decoded ++ rest) ≡ items_from at n (length bytes / n) bytes
decoded_front at n front some bytes cells decoded rest room e size =
    let whole = length-take-le (length bytes / n) cells room in
    take_at decoded rest (length bytes / n) (size ∙ whole)
    ∙ e ∙ ap (λ m. items_from at n m (take (length bytes / n * n) bytes)) whole
    ∙ items_from-front at n front (length bytes / n) bytes (whole_fits n (length bytes) some)
