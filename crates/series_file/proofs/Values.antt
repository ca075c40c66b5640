-- The values of a file, once all their bytes came: as many as the header says, row by row.
use Rattle.std.proofs.Common.{◌≡◌, ℕ, zero, suc, ◌*◌, ◌/◌, ◌≤◌, List, [], length, drop, Option, ap, ◌∙◌, refl, arith, append-nil}
use Rattle.std.specs.Prelude.{ℤ}
use Rattle.std.proofs.Math.Nat.{mul-div_cancel, mul-div_cancel_left}
use Rattle.std.specs.Prelude.{true}
use Rattle.std.specs.Io.KnownBytes.{prepend_known}
use Rattle.outside.specs.Taken.{taken_then}
use Rattle.series_core.specs.Collection.{Collection, IsCollection}
use Rattle.series_core.specs.Flat.{rows_of}
use Rattle.series_file.specs.Items.{items_from, value_at, Comes}
use Rattle.series_file.specs.Header.{IsHeader}
use Rattle.series_file.specs.Body.{value_bytes, ValuesCame}
use Rattle.series_file.specs.Stages.{Ends}
use Rattle.series_file.specs.declared.header.Header.{Header}

-- there are as many items as asked for
pub length-items_from : {X : Type 0} (at : List ℕ → X) (n count : ℕ) (bytes : List ℕ)
    → length (items_from at n count bytes) ≡ count
length-items_from at n zero bytes = refl
length-items_from at n (suc count) bytes = ap suc (length-items_from at n count (drop n bytes))

-- where all value bytes came, there are as many values as the header says
pub value_count : (h : Header) (before now : Option (List ℕ)) (items : List ℤ) (bytes : ℕ)
    → Comes value_at 2 (value_bytes h) before now items bytes → value_bytes h ≤ bytes
    → (bytes / 2 ≡ h.count * h.length) × (length items ≡ h.count * h.length)
value_count h before now items bytes came all =
    let size : bytes ≡ 2 * (h.count * h.length) = omega (arith, came.1.limit) in
    let half : bytes / 2 ≡ h.count * h.length = ap (λ m. m / 2) size
    ∙ mul-div_cancel_left (h.count * h.length) (omega arith) in
    (half, ap length came.1.items ∙ length-items_from value_at 2 (bytes / 2) came.0 ∙ half)

-- the same of a vector's length
pub value_size : (h : Header) (before now : Option (List ℕ)) (items : List ℤ) (bytes size : ℕ)
    → Comes value_at 2 (value_bytes h) before now items bytes → value_bytes h ≤ bytes
    → size ≡ length items
    → size ≡ h.count * h.length
value_size h before now items bytes size came all e = e
    ∙ (value_count h before now items bytes came all).1

-- so the rows that are cut out of them are those of the header
pub value_rows : (h : Header) → IsHeader h → (size : ℕ) → size ≡ h.count * h.length
    → size / h.length ≡ h.count
value_rows h sound size e = ap (λ m. m / h.length) e ∙ mul-div_cancel h.count sound.some_point

-- all values came, and the file is at its end: the rows are those of the header
pub ValuesCame-all : (h : Header) → IsHeader h
    → (before between now : Option (List ℕ)) (labels : Option (List ℕ))
    (items : List ℤ) (bytes size : ℕ) (rows : Collection)
    → Comes value_at 2 (value_bytes h) before between items bytes → value_bytes h ≤ bytes
    → size ≡ h.count * h.length
    → Ends true between now → IsCollection rows → rows.points ≡ h.length
    → rows.series ≡ rows_of h.length (size / h.length) items
    → ValuesCame h before now labels (record { rows = rows; labels = labels })
ValuesCame-all h sound before between now labels items bytes size rows came all count ends sound_rows points series = (
  came.0,
  record {
    taken = taken_then came.0 [] before between now came.1.taken ends.0
        ∙ ap (λ bs. prepend_known bs now) (append-nil came.0);
    end = ends.1;
    each = came.1.each;
    size = omega (arith, came.1.amount, came.1.limit);
    sound = sound_rows;
    points = points;
    series = series
        ∙ ap (λ m. rows_of h.length m items) (value_rows h sound size count)
        ∙ ap (rows_of h.length h.count) (came.1.items
        ∙ ap (λ m. items_from value_at 2 m came.0) half);
    labels_kept = refl;
  },
)
  where
    half : bytes / 2 ≡ h.count * h.length
    half = (value_count h before between items bytes came all).0
