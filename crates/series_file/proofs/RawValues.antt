-- The values of a raw file: whole series, and no more of them than allowed.
use Rattle.std.proofs.Common.{◌≡◌, ℕ, suc, ◌+◌, ◌*◌, ◌/◌, ◌%◌, ◌<◌, ◌≤◌, List, [], ◌∷◌, length, Option, None, Some, IfSome, ap, sym, ◌∙◌, refl, subst, ⊎_elim, arith, append-nil}
use Rattle.std.specs.Prelude.{ℤ, true, false}
use Rattle.std.specs.Io.KnownBytes.{prepend_known, IsAtEnd}
use Rattle.std.proofs.Math.Nat.{le_of_mul-le-mul_right, mul-div_cancel, div-add-mod, mul_comm, mul_assoc}
use Rattle.outside.specs.Taken.{taken_then}
use Rattle.series_core.specs.Collection.{Collection, IsCollection}
use Rattle.series_core.specs.Flat.{rows_of}
use Rattle.series_core.specs.declared.rows.TheConstants.{MAX_COUNT, MAX_VALUES}
use Rattle.series_file.specs.Items.{items_from, value_at, Comes}
use Rattle.series_file.specs.Format.{IsFile, HasText}
use Rattle.series_file.specs.Faults.{raw_limit}
use Rattle.series_file.specs.Stages.{Ends}
use Rattle.series_file.specs.declared.error.Form.TheVariants.{Raw}
use Rattle.series_file.proofs.Numbers.{are_bytes}
use Rattle.series_file.proofs.Spelled.{is_raw}
use Rattle.series_file.proofs.Outcomes.{told_end, has_text}
use Rattle.series_file.proofs.Leaving.{LeavesBehind}
use Rattle.series_file.proofs.Reaching.{trailing_left}
use Rattle.series_file.specs.Reading.{reach}
use Rattle.std.proofs.lemmas.Option.{none-some, same_Some}
use Rattle.std.proofs.lemmas.Bool.{cases_lt}
use Rattle.series_file.proofs.Values.{length-items_from}

-- bytes of whole series of n values are n values a series
pub raw_whole : (n bytes : ℕ) → bytes % (2 * n) ≡ 0 → bytes ≡ bytes / (2 * n) * n * 2
raw_whole n bytes whole =
    let q : ℕ = bytes / (2 * n) in
    let split : 2 * n * q + 0 ≡ bytes = ap (λ m. 2 * n * q + m) (sym whole)
    ∙ div-add-mod bytes (2 * n) in
    let turn : 2 * n * q ≡ q * n * 2 = mul_comm (2 * n) q ∙ ap (λ m. q * m) (mul_comm 2 n)
    ∙ sym (mul_assoc q n 2) in
    omega (arith, split, turn)

-- how many values came
pub raw_size : (n limit bytes size : ℕ) (before now : Option (List ℕ)) (items : List ℤ)
    → Comes value_at 2 limit before now items bytes → bytes % (2 * n) ≡ 0 → size ≡ length items
    → size ≡ bytes / (2 * n) * n
raw_size n limit bytes size before now items came whole e =
    e ∙ ap length came.1.items ∙ length-items_from value_at 2 (bytes / 2) came.0
    ∙ ap (λ m. m / 2) (raw_whole n bytes whole)
    ∙ mul-div_cancel (bytes / (2 * n) * n) (omega arith)

-- q * n values are q series
pub raw_count : (n q size : ℕ) → 0 < n → size ≡ q * n → size / n ≡ q
raw_count n q size some e = ap (λ m. m / n) e ∙ mul-div_cancel q some

-- within the limits
pub raw_limits : (n bytes : ℕ) → 0 < n → bytes ≤ raw_limit n → bytes % (2 * n) ≡ 0
    → (bytes / (2 * n) ≤ MAX_COUNT) × (bytes / (2 * n) * n ≤ MAX_VALUES)
raw_limits n bytes some within whole =
    let size = raw_whole n bytes whole in
    let q : ℕ = bytes / (2 * n) in
    let values : q * n ≤ MAX_VALUES = omega (arith, size, within) in
    let product : q * n ≤ MAX_COUNT * n = omega (arith, size, within) in
    (le_of_mul-le-mul_right product some, values)

-- as many values as came make whole series, within the limits
pub raw_rows : (n limit bytes size : ℕ) (before now : Option (List ℕ)) (items : List ℤ) → 0 < n → limit ≡ raw_limit n
    → Comes value_at 2 limit before now items bytes → bytes % (2 * n) ≡ 0 → size ≡ length items
    → (size / n ≤ MAX_COUNT) × (size ≤ MAX_VALUES)
raw_rows n limit bytes size before now items some e came whole count =
    let is = raw_size n limit bytes size before now items came whole count in
    let both = raw_limits n bytes some (omega (arith, e, came.1.limit)) whole in
    (omega (arith, raw_count n (bytes / (2 * n)) size some is, both.0), omega (arith, is, both.1))

-- the bytes are a raw file
raw_file : (n limit bytes size : ℕ) (before between : Option (List ℕ)) (items : List ℤ) (rows : Collection)
    → 0 < n → limit ≡ raw_limit n → (came : Comes value_at 2 limit before between items bytes)
    → bytes % (2 * n) ≡ 0 → size ≡ length items → IsCollection rows → rows.points ≡ n
    → rows.series ≡ rows_of n (size / n) items → IsFile (Raw n) came.0 rows None
raw_file n limit bytes size before between items rows some e came whole count sound points series =
    is_raw n q came.0 rows (are_bytes came.0 came.1.each) (came.1.amount
    ∙ raw_whole n bytes whole) sound points
    (series ∙ ap (λ m. rows_of n m items)
    (raw_count n q size some (raw_size n limit bytes size before between items came whole count))
    ∙ ap (rows_of n q) (came.1.items ∙ ap (λ m. items_from value_at 2 m came.0) half))
    (raw_limits n bytes some (subst (λ (m : ℕ). bytes ≤ m) e came.1.limit) whole).1
  where
    q : ℕ
    q = bytes / (2 * n)

    half : bytes / 2 ≡ q * n
    half = ap (λ m. m / 2) (raw_whole n bytes whole) ∙ mul-div_cancel (q * n) (omega arith)

-- where they are known, they are all that was left
pub raw_found : (n limit bytes size : ℕ) (before between now : Option (List ℕ)) (items : List ℤ)
    (rows : Collection)
    → 0 < n → limit ≡ raw_limit n → Comes value_at 2 limit before between items bytes
    → bytes % (2 * n) ≡ 0
    → size ≡ length items → Ends true between now → IsCollection rows → rows.points ≡ n
    → rows.series ≡ rows_of n (size / n) items
    → IsAtEnd now × IfSome before (λ bs. IsFile (Raw n) bs rows None)
raw_found n limit bytes size before between now items rows some e came whole count ends sound points series = (
  ends.1,
  told_end (λ bs. IsFile (Raw n) bs rows None) came.0 before now
      (taken_then came.0 [] before between now came.1.taken ends.0
      ∙ ap (λ bs. prepend_known bs now) (append-nil came.0))
      ends.1
      (raw_file n limit bytes size before between items rows some e came whole count sound points series),
)

-- what came has a text, known or not
pub raw_fits : (n limit bytes size : ℕ) (before between : Option (List ℕ)) (items : List ℤ)
    (rows : Collection)
    → 0 < n → limit ≡ raw_limit n → Comes value_at 2 limit before between items bytes
    → bytes % (2 * n) ≡ 0 → size ≡ length items → IsCollection rows → rows.points ≡ n
    → rows.series ≡ rows_of n (size / n) items → HasText (Raw n) rows None
raw_fits n limit bytes size before between items rows some e came whole count sound points series =
    has_text (Raw n) came.0 rows None
    (raw_file n limit bytes size before between items rows some e came whole count sound points series)

-- at the end of the file no byte more comes
ends_once : (between now : Option (List ℕ)) → IsAtEnd between → (more : Ends false between now)
    → between ≡ None
ends_once None now ended more = refl
ends_once (Some rest) None ended more = absurd (none-some rest (sym more.1))
ends_once (Some rest) (Some behind) ended more =
    let none : length rest ≡ 0 = ap length ended in
    let some : length rest ≡ suc (length behind) = ap length (same_Some rest (more.0 ∷ behind) more.1) in
    absurd (omega (arith, none, some))

-- so a byte that comes after all that was wanted is one behind it
pub raw_left : (n limit bytes : ℕ) (before between now : Option (List ℕ)) (items : List ℤ)
    → limit ≡ raw_limit n → Comes value_at 2 limit before between items bytes → Ends false between now
    → LeavesBehind (reach (Raw n)) before now
raw_left n limit bytes before between now items e came more =
    subst (λ (m : ℕ). LeavesBehind (λ _. m + 1) before now) e
    (⊎_elim
    (λ (less : bytes < limit). untold less)
    (λ (all : limit ≤ bytes). trailing_left value_at 2 limit bytes before between now items came all more)
    (cases_lt bytes limit))
  where
    untold : bytes < limit → LeavesBehind (λ _. limit + 1) before now
    untold less =
        subst (λ (b : Option (List ℕ)). LeavesBehind (λ _. limit + 1) b now)
        (sym (came.1.taken ∙ ap (prepend_known came.0) (ends_once between now (came.1.end less) more))) tt
