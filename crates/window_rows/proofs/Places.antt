-- Windows by their places: there is one wherever the series has all its values, and all are a
-- collection.
use Rattle.std.proofs.Common.{◌≡◌, ℕ, zero, suc, ◌+◌, ◌-◌, ◌*◌, ◌/◌, ◌<◌, ◌≤◌, List, length, drop, None, Some, refl, sym, ap, ◌∙◌, ⊎_elim, arith, map, mul-suc, length-drop}
use Rattle.std.specs.Prelude.{ℤ, FitsSigned, slice_get, nat_le}
use Rattle.std.specs.List.{All, range_with_len}
use Rattle.std.specs.Option.{option_map}
use Rattle.std.proofs.lemmas.Bool.{cases_lt, cond-true, cond-false}
use Rattle.std.proofs.lemmas.Bool.Decides.{nat_tests}
use Rattle.std.proofs.lemmas.Option.{slice_get-map}
use Rattle.std.proofs.lemmas.List.{length-take-le}
use Rattle.std.proofs.lemmas.List.FromFn.{length-map-range_with_len}
use Rattle.std.proofs.lemmas.List.Elements.{All-nil, All-cons, All-take, All-drop}
use Rattle.std.proofs.Math.Nat.{le-div_iff_mul-le, div-le_self}
use mir.Syntax.{w16}
use Rattle.series_core.specs.Collection.{Collection, IsSeries, IsCollection}
use Rattle.window_rows.specs.Windows.{windows_count, window, windows, collection_of, IsLong}

-- the number of windows where there are n values, and where there are not
count_some : (size n step : ℕ) → n ≤ size → windows_count size n step ≡ (size - n) / step + 1
count_some size n step some = cond-true (nat_le n size) ((size - n) / step + 1) 0 (grind
    (arith, nat_tests))

count_none : (size n step : ℕ) → size < n → windows_count size n step ≡ 0
count_none size n step none = cond-false (nat_le n size) ((size - n) / step + 1) 0 (grind
    (arith, nat_tests))

-- a window with all its values is one of those that are counted
pub place_counted : (size n step i : ℕ) → 0 < step → i * step + n ≤ size
    → i < windows_count size n step
place_counted size n step i some fits =
    let last : i ≤ (size - n) / step = (le-div_iff_mul-le some).1 (omega arith) in
    omega (arith, count_some size n step (omega arith), last)

-- a window does not begin before its number
pub place_grows : (i step : ℕ) → 0 < step → i ≤ i * step
place_grows i zero some = absurd (omega (arith, some))
place_grows i (suc step) some = omega (arith, mul-suc i step)

-- and each of them has all its values
pub counted_place : (size n step i : ℕ) → 0 < step → i < windows_count size n step
    → i * step + n ≤ size
counted_place size n step i some counted =
    ⊎_elim
    (λ (none : size < n). absurd (omega (arith, count_none size n step none)))
    (λ (all : n ≤ size).
    let last : i * step ≤ size - n = (le-div_iff_mul-le some).0 (omega
    (arith, count_some size n step all)) in
    omega arith)
    (cases_lt size n)

-- there are no more windows than values
count_within : (size n step : ℕ) → 0 < n → windows_count size n step ≤ size
count_within size n step some =
    ⊎_elim
    (λ (none : size < n). omega (arith, count_none size n step none))
    (λ (all : n ≤ size). omega (arith, count_some size n step all, div-le_self (size - n) step))
    (cases_lt size n)

-- the numbers from a on, by their places
numbers_at : (a count i : ℕ) → i < count → slice_get (range_with_len a count) i ≡ Some (a + i)
numbers_at a zero i h = absurd (omega arith)
numbers_at a (suc count) zero h = ap (λ m. Some m) (omega arith)
numbers_at a (suc count) (suc i) h =
    numbers_at (a + 1) count i (omega arith) ∙ ap (λ m. Some m) (omega arith)

numbers_end : (a count i : ℕ) → count ≤ i → slice_get (range_with_len a count) i ≡ None
numbers_end a zero i h = refl
numbers_end a (suc count) zero h = absurd (omega arith)
numbers_end a (suc count) (suc i) h = numbers_end (a + 1) count i (omega arith)

-- entry i is window i
pub window_at : (values : List ℤ) (n step i : ℕ) → i < windows_count (length values) n step
    → slice_get (windows values n step) i ≡ Some (window values n step i)
window_at values n step i counted =
    slice_get-map (window values n step) (range_with_len 0 (windows_count (length values) n step)) i
    ∙ ap (option_map (window values n step)) (numbers_at 0 (windows_count
    (length values) n step) i counted)
    ∙ ap (λ m. Some (window values n step m)) from_none
  where
    from_none : 0 + i ≡ i
    from_none = omega arith

-- wherever the series has all its values
pub each_place : (values : List ℤ) (n step i : ℕ) → 0 < step → i * step + n ≤ length values
    → slice_get (windows values n step) i ≡ Some (window values n step i)
each_place values n step i some fits = window_at values n step i (place_counted
    (length values) n step i some fits)

-- where it has not, there is none
pub no_place : (values : List ℤ) (n step i : ℕ) → 0 < step → length values < i * step + n
    → slice_get (windows values n step) i ≡ None
no_place values n step i some over =
    slice_get-map (window values n step) (range_with_len 0 (windows_count (length values) n step)) i
    ∙ ap (option_map (window values n step)) (numbers_end 0 (windows_count
    (length values) n step) i past)
  where
    past : windows_count (length values) n step ≤ i
    past =
        ⊎_elim
        (λ (counted : i < windows_count (length values) n step).
        absurd (omega (arith, counted_place (length values) n step i some counted)))
        (λ (rest : windows_count (length values) n step ≤ i). rest)
        (cases_lt i (windows_count (length values) n step))

-- there are as many windows as counted
pub length-windows : (values : List ℤ) (n step : ℕ)
    → length (windows values n step) ≡ windows_count (length values) n step
length-windows values n step =
    length-map-range_with_len (window values n step) 0 (windows_count (length values) n step)

-- a window with all its values is a series
is_series : (values : List ℤ) (n step i : ℕ) → All (FitsSigned w16) values
    → i * step + n ≤ length values
    → IsSeries n (window values n step i)
is_series values n step i each fits = record {
  points = length-take-le n (drop (i * step) values) (omega (arith, length-drop (i * step) values));
  values = All-take (FitsSigned w16) n (drop (i * step) values) (All-drop (FitsSigned w16)
      (i * step) values each);
}

all_series : (values : List ℤ) (n step a count : ℕ) → All (FitsSigned w16) values
    → ((i : ℕ) → a ≤ i → i < a + count → i * step + n ≤ length values)
    → All (IsSeries n) (map (window values n step) (range_with_len a count))
all_series values n step a zero each fits = All-nil (IsSeries n)
all_series values n step a (suc count) each fits =
    All-cons (IsSeries n) (window values n step a) (map (window values n step) (range_with_len
    (a + 1) count))
    (is_series values n step a each (fits a (omega arith) (omega arith)))
    (all_series values n step (a + 1) count each (λ i from below. fits i (omega arith)
    (omega arith)))

-- windows within the limits are a collection
pub is_collection : (values : List ℤ) (n step : ℕ) → IsLong values n step
    → IsCollection (collection_of values n step)
is_collection values n step long = record {
  some_point = long.some_point;
  length_limit = long.length_limit;
  count_limit = omega (
    arith,
    length-windows values n step,
    count_within (length values) n step long.some_point,
    long.values_limit,
  );
  each = all_series values n step 0 (windows_count (length values) n step) long.each
      (λ i from below. counted_place (length values) n step i long.some_step (omega arith));
}

-- the number that is counted out is the number of windows
pub counted : (values : List ℤ) (n step : ℕ) (c : Collection) → collection_of values n step ≡ c
    → n ≤ length values → (length values - n) / step + 1 ≡ length c.series
counted values n step c same some =
    sym (count_some (length values) n step some) ∙ sym (length-windows values n step)
    ∙ ap (λ (d : Collection). length d.series) same

-- an entry of the collection ends within the values
pub entry_fits : (values : List ℤ) (n step i : ℕ) (c : Collection)
    → collection_of values n step ≡ c → 0 < step
    → i < length c.series → i * step + n ≤ length values
entry_fits values n step i c same some below =
    let size : length c.series ≡ windows_count (length values) n step =
    ap (λ (d : Collection). length d.series) (sym same) ∙ length-windows values n step in
    counted_place (length values) n step i some (omega arith)
