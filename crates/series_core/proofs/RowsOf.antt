-- Rows cut out of one list of values: how many there are, what each holds, and that they are the list again.
use Rattle.std.proofs.Common.{mul-le-mul_right, ◌≡◌, ℕ, ◌+◌, ◌*◌, ◌<◌, ◌≤◌, zero, suc, List, ◌++◌, length, take, drop, refl, ap, ◌∙◌, sym, Some, arith, length-drop}
use Rattle.std.specs.Prelude.{ℤ, FitsSigned, slice_get}
use Rattle.std.specs.List.{All}
use Rattle.std.proofs.lemmas.List.{take-append-drop, drop-drop, nil_from_length, length-take-le}
use Rattle.std.proofs.Math.Nat.{suc-mul}
use Rattle.std.proofs.lemmas.List.Elements.{All-nil, All-cons, All-take, All-drop}
use mir.Syntax.{w16}
use Rattle.series_core.specs.Collection.{Collection, IsSeries, IsCollection}
use Rattle.series_core.specs.Flat.{rows_of, joined, IsFlat}

-- there are as many rows as asked for
pub length-rows_of : (n count : ℕ) (values : List ℤ) → length (rows_of n count values) ≡ count
length-rows_of n zero values = refl
length-rows_of n (suc count) values = ap suc (length-rows_of n count (drop n values))

-- what follows the first row holds one row less
length-rest : (n count : ℕ) (values : List ℤ) → length values ≡ suc count * n → length (drop n values) ≡ count * n
length-rest n count values e = omega (arith, length-drop n values, suc-mul count n)

-- where each row is whole, the rows joined are the list
pub joined-rows_of : (n count : ℕ) (values : List ℤ) → length values ≡ count * n
    → joined (rows_of n count values) ≡ values
joined-rows_of n zero values e = sym (nil_from_length values (omega arith))
joined-rows_of n (suc count) values e =
    ap (λ (rest : List ℤ). take n values ++ rest) (joined-rows_of n count (drop n values) (length-rest n count values e))
    ∙ take-append-drop n values

-- row i holds the n values from i * n on
pub slice_get-rows_of : (n count i : ℕ) (values : List ℤ) → i < count
    → slice_get (rows_of n count values) i ≡ Some (take n (drop (i * n) values))
slice_get-rows_of n zero i values h = absurd (omega arith)
slice_get-rows_of n (suc count) zero values h =
    let none : 0 * n ≡ 0 = omega arith in rw none refl
slice_get-rows_of n (suc count) (suc i) values h =
    let next : n + i * n ≡ suc i * n = omega (arith, suc-mul i n) in
    slice_get-rows_of n count i (drop n values) (omega arith)
    ∙ ap (λ (rest : List ℤ). Some (take n rest)) (drop-drop (i * n) n values ∙ ap (λ m. drop m values) next)

-- each row is a series of n values
pub All-rows_of : (n count : ℕ) (values : List ℤ) → length values ≡ count * n
    → All (FitsSigned w16) values → All (IsSeries n) (rows_of n count values)
All-rows_of n zero values e f = All-nil (IsSeries n)
All-rows_of n (suc count) values e f =
    All-cons (IsSeries n) (take n values) (rows_of n count (drop n values)) first
    (All-rows_of n count (drop n values) (length-rest n count values e) (All-drop (FitsSigned w16) n values f))
  where
    whole : n ≤ length values
    whole = omega (arith, suc-mul count n)

    first : IsSeries n (take n values)
    first = record { points = length-take-le n values whole; values = All-take (FitsSigned w16) n values f }

-- rows within the limits are a collection
pub is_collection : (n count : ℕ) (values : List ℤ) → IsFlat n count values
    → IsCollection (record { points = n; series = rows_of n count values })
is_collection n count values flat = record {
  some_point = flat.some_point;
  length_limit = flat.length_limit;
  count_limit = rw (length-rows_of n count values) flat.count_limit;
  each = All-rows_of n count values flat.size flat.each;
}

-- row i ends within the values
pub row_end : (n count i : ℕ) → i < count → i * n + n ≤ count * n
row_end n count i h = rw (← suc-mul i n) (mul-le-mul_right n h)

-- a row of the collection is one of those that were cut
pub row_below : (n count i : ℕ) (values : List ℤ) (c : Collection)
    → record { points = n; series = rows_of n count values } ≡ c → i < length c.series → i < count
row_below n count i values c e h =
    let size : length c.series ≡ count = ap (λ (d : Collection). length d.series) (sym e) ∙ length-rows_of n count values in
    omega arith
