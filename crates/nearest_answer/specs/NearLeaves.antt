-- The leaves that may have a member within a limit, as entries.
use Rattle.std.specs.Prelude.{ℕ, ◌<◌, ◌≤◌, ◌⊎◌, List, map, min, nat_le}
use Rattle.std.specs.List.{All, filter}
use Rattle.list_totals.specs.Totals.{once_below, times}
use Rattle.series_core.specs.declared.queue_words.Entry.{Entry}
use Rattle.search_machine.specs.Ground.{Ground}
use Rattle.search_task.specs.LeafBounds.{IsBelowLeaf}

-- the leaves of entries
abbrev pub leaves_in : List Entry → List ℕ
leaves_in es = map (λ e. e.leaf) es

-- the entries whose bound is not above v
abbrev pub within_bound : ℕ → List Entry → List Entry
within_bound v es = filter (λ e. nat_le e.bound v) es

-- each member of leaf l is farther than v
abbrev pub IsFar : Ground → ℕ → ℕ → Type 0
IsFar g v l = (s : ℕ) → 0 < times s (g.members l) → v < g.distance s

-- an entry of a leaf, none of whose members is nearer than the entry's bound
pub record IsLeafEntry (g : Ground) (e : Entry) : Type 0 where
  pub leaf : e.leaf < g.leaves
  pub low : IsBelowLeaf g e.leaf e.bound

-- entries of leaves that were looked at, each no more often than it was; one that is not among them is farther than v
pub record AreNear (g : Ground) (v : ℕ) (looked : ℕ → ℕ) (es : List Entry) : Type 0 where
  pub entries : All (IsLeafEntry g) es
  pub once : (l : ℕ) → times l (leaves_in es) ≤ looked l
  pub whole : (l : ℕ) → 0 < looked l → (0 < times l (leaves_in es)) ⊎ IsFar g v l

-- the leaves below number m were looked at, each once
abbrev pub AreNearBelow : Ground → ℕ → ℕ → List Entry → Type 0
AreNearBelow g v m es = AreNear g v (λ l. once_below l (min m g.leaves)) es
