-- A share of the leaves' lower bounds.
use Rattle.std.specs.Prelude.{◌≡◌, ℕ, ◌+◌, ◌≤◌, List, Some, length, slice_get}
use Rattle.lower_bound.specs.Bound.{View}
use Rattle.subtree_build.specs.Index.{IndexParts}
use Rattle.search_task.specs.Questions.{leaf_bound}

-- the bounds of leaves from `first` on, of which those below `end` are wanted
pub record Share : Type 0 where
  pub first : ℕ
  pub end : ℕ
  pub bounds : List ℕ

-- the leaves are there, and each bound is that of its leaf
pub record AreBounds (view : View) (ix : IndexParts) (s : Share) : Type 0 where
  pub inside : s.end ≤ length ix.leaves
  pub each : (i b : ℕ) → slice_get s.bounds i ≡ Some b → b ≡ leaf_bound view ix (s.first + i)
