-- A search by leaves on its way: what was met, what is left, and what is too far.
use Rattle.std.specs.Prelude.{◌≡◌, ℕ, ◌<◌, ◌≤◌, ◌⊎◌, ◌++◌, List, length}
use Rattle.std.specs.List.{All}
use Rattle.list_totals.specs.Totals.{times}
use Rattle.series_core.specs.Best.{Best}
use Rattle.series_core.specs.declared.pair.Pair.{Pair}
use Rattle.series_core.specs.declared.queue_words.Entry.{Entry}
use Rattle.search_machine.specs.Ground.{Ground}
use Rattle.search_machine.specs.Sound.{ListSound}
use Rattle.search_task.specs.Questions.{Searched, ground_of, last_of}
use Rattle.nearest_answer.specs.NearLeaves.{IsFar, IsLeafEntry, leaves_in}
use Rattle.nearest_answer.specs.declared.begun.Begun.{Begun}

-- the list is one of the leaves that were met, those of the entries are left, each once, and all others are farther than v
pub record AreLeft (g : Ground) (v : ℕ) (met : List ℕ) (ps : List Pair) (left : List Entry) : Type 0 where
  pub sound : ListSound g met ps
  pub entries : All (IsLeafEntry g) left
  pub once : (l : ℕ) → times l (met ++ leaves_in left) ≤ 1
  pub whole : (l : ℕ) → l < g.leaves → (0 < times l (met ++ leaves_in left)) ⊎ IsFar g v l

-- a search that met some leaves has their list, these entries are left, and v is no less than the last distance
pub record IsLeft (s : Searched) (v : ℕ) (best : Best) (entries : List Entry) : Type 0 where
  pub limit : last_of s.question ≤ v
  pub list : (best.k ≡ s.question.k) × (length best.pairs ≤ s.question.k)
  pub left : (met : List ℕ) × AreLeft (ground_of s) v met best.pairs entries

-- the same of what stands for such a search
abbrev pub IsBegun : Searched → Begun → Type 0
IsBegun s b = IsLeft s b.limit b.list b.left.items
