-- Walks that are drawn one after another: the value after one more step, and the series of one more walk.
use Rattle.std.proofs.Common.{◌≡◌, ℕ, zero, suc, ◌+◌, ◌*◌, ◌≤◌, ◌<◌, ◌/◌, List, [], ◌∷◌, ◌++◌, length, take, drop, map, refl, sym, ap, ◌∙◌, arith, append_assoc, append-nil, length-append}
use Rattle.std.specs.Prelude.{ℤ}
use Rattle.std.specs.List.{range_with_len}
use Rattle.std.proofs.lemmas.List.FromFn.{map-range_with_len_more, length-map-range_with_len, length-range_with_len}
use Rattle.std.proofs.Math.Nat.{suc-mul, mul-div_cancel}
use Rattle.std.proofs.Math.Seq.{take-append_seam, drop-append_seam}
use Rattle.rand_xoshiro.specs.SplitMix64.{mix_u64}
use Rattle.series_core.specs.Collection.{Collection}
use Rattle.series_core.specs.Flat.{rows_of, joined}
use Rattle.random_walks.specs.Walks.{state_at, word_at, stepped, value_at, walk, walk_number, first_walks}

-- the state after one more word, and that word
pub state_next : (x i now next word : ℕ) → now ≡ state_at x i → (word, next) ≡ mix_u64 now → next ≡ state_at x (i + 1)
state_next x i now next word here drew =
    let more : suc i ≡ i + 1 = omega arith in
    ap (λ (d : ℕ × ℕ). d.1) drew ∙ ap (λ s. (mix_u64 s).1) here ∙ ap (state_at x) more

-- the value after one more step
pub value_next : (x i now next word : ℕ) (before value : ℤ) → now ≡ state_at x i → (word, next) ≡ mix_u64 now
    → before ≡ value_at x i → value ≡ stepped before word → value ≡ value_at x (i + 1)
value_next x i now next word before value here drew old step =
    let more : suc i ≡ i + 1 = omega arith in
    let drawn : word ≡ word_at x i = ap (λ (d : ℕ × ℕ). d.0) drew ∙ ap (λ s. (mix_u64 s).0) here in
    step ∙ ap (λ v. stepped v word) old ∙ ap (stepped (value_at x i)) drawn ∙ ap (value_at x) more

-- one more value stands behind those of the walk so far
pub values_next : (x i : ℕ) (old values next : List ℤ) (value : ℤ) → value ≡ value_at x (i + 1)
    → values ≡ old ++ map (value_at x) (range_with_len 1 i) → next ≡ values ++ value ∷ []
    → next ≡ old ++ map (value_at x) (range_with_len 1 (i + 1))
values_next x i old values next value here before grown =
    let front = map (value_at x) (range_with_len 1 i) in
    grown ∙ ap (λ zs. zs ++ value ∷ []) before ∙ append_assoc old front (value ∷ [])
    ∙ ap (λ v. old ++ (front ++ v ∷ [])) here
    ∙ ap (λ zs. old ++ zs) (sym (map-range_with_len_more (value_at x) 1 i (i + 1) (omega arith)))

-- a words and then b more lead where a + b words lead
pub state_at-add : (x a b : ℕ) → state_at (state_at x a) b ≡ state_at x (a + b)
state_at-add x a zero = let same : a ≡ a + 0 = omega arith in ap (state_at x) same
state_at-add x a (suc b) =
    let more : suc (a + b) ≡ a + suc b = omega arith in
    ap (λ s. (mix_u64 s).1) (state_at-add x a b) ∙ ap (state_at x) more

-- the state after one more walk
pub walk_ends : (n x i now next : ℕ) → now ≡ state_at x (i * n) → next ≡ state_at now n
    → next ≡ state_at x ((i + 1) * n)
walk_ends n x i now next here moved =
    let one : suc i ≡ i + 1 = omega arith in
    let more : i * n + n ≡ (i + 1) * n = omega (arith, suc-mul i n, ap (λ m. m * n) one) in
    moved ∙ ap (λ s. state_at s n) here ∙ state_at-add x (i * n) n ∙ ap (state_at x) more

-- the values of rows and of one more row
joined-last : (rows : List (List ℤ)) (row : List ℤ) → joined (rows ++ row ∷ []) ≡ joined rows ++ row
joined-last [] row = append-nil row
joined-last (r ∷ rows) row =
    ap (λ zs. r ++ zs) (joined-last rows row) ∙ sym (append_assoc r (joined rows) row)

-- one more walk stands behind those so far
pub walks_next : (n x i now : ℕ) (values next : List ℤ) → now ≡ state_at x (i * n)
    → values ≡ joined (first_walks n x i) → next ≡ values ++ walk n now
    → next ≡ joined (first_walks n x (i + 1))
walks_next n x i now values next here before grown =
    grown ∙ ap (λ zs. zs ++ walk n now) before
    ∙ ap (λ s. joined (first_walks n x i) ++ walk n s) here
    ∙ sym (joined-last (first_walks n x i) (walk_number n x i))
    ∙ ap joined (sym (map-range_with_len_more (walk_number n x) 0 i i (omega arith)))

-- a walk has n values
long : (n x i : ℕ) → length (walk_number n x i) ≡ n
long n x i = length-map-range_with_len (value_at (state_at x (i * n))) 1 n

-- walks of n values each are what is cut from their values
rows_of-walks : (n x : ℕ) (numbers : List ℕ)
    → rows_of n (length numbers) (joined (map (walk_number n x) numbers)) ≡ map (walk_number n x) numbers
rows_of-walks n x [] = refl
rows_of-walks n x (i ∷ numbers) =
    let row = walk_number n x i in
    let rest = joined (map (walk_number n x) numbers) in
    ap (λ m. take m (row ++ rest) ∷ rows_of n (length numbers) (drop m (row ++ rest))) (sym (long n x i))
    ∙ ap (λ front. front ∷ rows_of n (length numbers) (drop (length row) (row ++ rest))) (take-append_seam row rest)
    ∙ ap (λ back. row ∷ rows_of n (length numbers) back) (drop-append_seam row rest)
    ∙ ap (λ back. row ∷ back) (rows_of-walks n x numbers)

-- the values of walks of n values each are as many as the walks, n times
length-joined : (n x : ℕ) (numbers : List ℕ) → length (joined (map (walk_number n x) numbers)) ≡ length numbers * n
length-joined n x [] = omega arith
length-joined n x (i ∷ numbers) =
    let rest = joined (map (walk_number n x) numbers) in
    omega (arith, length-append (walk_number n x i) rest, long n x i, length-joined n x numbers, suc-mul (length numbers) n)

-- all values of the first walks
pub walks_size : (n x count : ℕ) → length (joined (first_walks n x count)) ≡ count * n
walks_size n x count =
    length-joined n x (range_with_len 0 count) ∙ ap (λ m. m * n) (length-range_with_len 0 count)

-- the values of m walks: they are all there, and make m rows of n values
pub record Whole (n x m long : ℕ) (all : List ℤ) : Type 0 where
  pub values : all ≡ joined (first_walks n x m)
  pub size : long ≡ m * n
  pub count : long / n ≡ m
  pub whole : long / n * n ≡ long

-- after as many turns as there are walks, all values are there
pub walks_whole : (n x count i size : ℕ) {values : List ℤ} → 0 < n → i ≤ count → count ≤ i → size ≡ length values
    → values ≡ joined (first_walks n x i) → Whole n x count size values
walks_whole n x count i size {values} some low high long here =
    let same : i ≡ count = omega arith in
    let all : values ≡ joined (first_walks n x count) = here ∙ ap (λ m. joined (first_walks n x m)) same in
    let sized : size ≡ count * n = long ∙ ap length all ∙ walks_size n x count in
    let counted : size / n ≡ count = ap (λ m. m / n) sized ∙ mul-div_cancel count some in
    record { values = all; size = sized; count = counted; whole = ap (λ m. m * n) counted ∙ sym sized }

-- two collections with the same length and series are the same
pub same_collection : (c d : Collection) → c.points ≡ d.points → c.series ≡ d.series → c ≡ d
same_collection c d points series =
    ap (λ n. record { points = n; series = c.series }) points
    ∙ ap (λ (rows : List (List ℤ)). record { points = d.points; series = rows }) series

-- the first walks are what is cut from their values
pub walks_rows : (n x count : ℕ) → rows_of n count (joined (first_walks n x count)) ≡ first_walks n x count
walks_rows n x count =
    ap (λ m. rows_of n m (joined (first_walks n x count))) (sym (length-range_with_len 0 count))
    ∙ rows_of-walks n x (range_with_len 0 count)
