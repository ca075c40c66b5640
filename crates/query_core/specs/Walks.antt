-- A walk over the leaves below a root child, as the leaves that it has still to come to.
use Rattle.std.specs.Prelude.{◌≡◌, ◌≢◌, ℕ, ◌+◌, ◌-◌, ◌<◌, ◌≤◌, ◌⊎◌, List, [], ◌∷◌, Option, None, Some, IfSome, length}
use Rattle.std.specs.List.{range_with_len}
use Rattle.subtree_build.specs.Index.{IndexParts, IsIndex}
use Rattle.subtree_build.specs.Outline.{leaf_numbers}
use Rattle.subtree_build.specs.Start.{node_at}
use Rattle.series_core.specs.declared.queue_words.Entry.{Entry}
use Rattle.search_machine.specs.Ground.{Ground}
use Rattle.search_machine.specs.Workers.{skip, without}
use Rattle.search_task.specs.Questions.{leaf_bound}
use Rattle.lower_bound.specs.Bound.{View}

-- a walk: the index, and the leaves that are left, in order
pub record Walked : Type 0 where
  pub index : IndexParts
  pub leaves : List ℕ

-- the leaves from one number up to but not including another
abbrev pub leaves_between : ℕ → ℕ → List ℕ
leaves_between next end = range_with_len next (end - next)

-- what is left are leaves of the index; and where the bound of a root child has still to be asked, they are all below it
pub record IsWalk (ix : IndexParts) (root : Option ℕ) (next end : ℕ) : Type 0 where
  pub index : IsIndex ix
  pub order : next ≤ end
  pub inside : end ≤ length ix.leaves
  pub root_real : IfSome root (λ i. i < length ix.roots)
  pub below : IfSome root (λ i. leaf_numbers (node_at ix i) ≡ leaves_between next end)

-- From these leaves, the start leaf left out, those at the front whose bound is above v are dropped; the next is given,
-- and the others are left. None is given where none is left.
abbrev pub Advances : Ground → Option ℕ → ℕ → List ℕ → List ℕ → Option ℕ → Type 0
Advances g start v before after None = (skip g v (without start before) ≡ []) × (after ≡ [])
Advances g start v before after (Some l) = skip g v (without start before) ≡ l ∷ without start after

-- The same of the leaves from one number up to but not including another, where those behind the one that is given are left.
abbrev pub IsFirst : Ground → Option ℕ → ℕ → ℕ → ℕ → Option ℕ → Type 0
IsFirst g start v next end None = skip g v (without start (leaves_between next end)) ≡ []
IsFirst g start v next end (Some l) =
    skip g v (without start (leaves_between next end)) ≡ l ∷ without start (leaves_between (l + 1) end)

-- a leaf of the index with its bound
abbrev pub IsEntry : View → IndexParts → Entry → Type 0
IsEntry view ix e = (e.leaf < length ix.leaves) × (e.bound ≡ leaf_bound view ix e.leaf)

-- an entry is of a leaf from one number up to but not including another, with its bound
pub record IsAmong (view : View) (ix : IndexParts) (next end : ℕ) (e : Entry) : Type 0 where
  pub from : next ≤ e.leaf
  pub inside : e.leaf < end
  pub bound : e.bound ≡ leaf_bound view ix e.leaf

-- The leaf, of this bound, is given with it where it is not the start leaf and the bound is not above v.
abbrev pub IsGiven : Option ℕ → ℕ → ℕ → ℕ → Option Entry → Type 0
IsGiven start v bound l None = (start ≡ Some l) ⊎ (v < bound)
IsGiven start v bound l (Some e) = (e.leaf ≡ l) × (e.bound ≡ bound) × (bound ≤ v) × (start ≢ Some l)
