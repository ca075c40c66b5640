-- How a queue keeps waiting entries in a line. No public clause cites it.
use Rattle.std.specs.Prelude.{ℕ, ◌-◌, ◌/◌, ◌^◌, ◌<◌, ◌≤◌, Bool, false, nat_le, List, [], ◌∷◌, length, slice_index_or, All}
use Rattle.series_core.specs.declared.queue_words.Entry.{Entry}
use Rattle.series_core.specs.EntryOrder.{NotAfter}
use Rattle.leaf_queues.specs.declared.line.Buckets.{Buckets}
use Rattle.leaf_queues.specs.PlainQueue.{place}

-- the bucket of a bound: the bits of what it lies above the least that are left of the shift; it does not fall as
-- the bound rises
abbrev pub bucket_of : Buckets → ℕ → ℕ
bucket_of b bound = (bound - b.least) / 2 ^ b.shift

-- from place n on the entries stand bucket by bucket
pub record IsDealt (b : Buckets) (n : ℕ) (xs : List Entry) : Type 0 where
  pub shift : b.shift < 64
  pub rises : (i j : ℕ) (d : Entry) → n ≤ i → i ≤ j → j < length xs
      → bucket_of b (slice_index_or xs i d).bound ≤ bucket_of b (slice_index_or xs j d).bound

-- none of the first n entries comes after one behind them
abbrev pub IsCut : ℕ → List Entry → Type 0
IsCut n xs = (i j : ℕ) (d : Entry) → i < n → n ≤ j → j < length xs
    → NotAfter (slice_index_or xs i d) (slice_index_or xs j d)

-- the first n entries are a run: each comes after none that stands behind it
abbrev pub IsRun : ℕ → List Entry → Type 0
IsRun n xs = (i j : ℕ) (d : Entry) → i < n → i ≤ j → j < length xs
    → NotAfter (slice_index_or xs i d) (slice_index_or xs j d)

-- no entry of the list comes before e
abbrev pub IsLeast : Entry → List Entry → Type 0
IsLeast e xs = All (NotAfter e) xs

-- the entries in ascending order
abbrev pub ascending : List Entry → List Entry
ascending [] = []
ascending (e ∷ es) = place e (ascending es)

-- the first of the waiting entries has a bound not above v; where none waits, this is false
abbrev pub waits_within : ℕ → List Entry → Bool
waits_within v [] = false
waits_within v (e ∷ es) = nat_le e.bound v
