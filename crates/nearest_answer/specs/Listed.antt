-- Leaves that are listed, as workers draw them: stretches of entries in a row.
use Rattle.std.specs.Prelude.{ℕ, ◌*◌, ◌<◌, ◌≤◌, List, length, take, drop}
use Rattle.std.specs.List.{All, flat_map}
use Rattle.list_totals.specs.Totals.{times}
use Rattle.series_core.specs.declared.queue_words.Entry.{Entry}
use Rattle.search_machine.specs.Ground.{Ground}
use Rattle.nearest_answer.specs.NearLeaves.{IsLeafEntry, leaves_in}

-- the entries of stretch n: sixteen in a row, but for the last
abbrev pub entries_of : List Entry → ℕ → List Entry
entries_of es n = take 16 (drop (n * 16) es)

-- the leaves of the stretches of these numbers
abbrev pub leaves_drawn : List Entry → List ℕ → List ℕ
leaves_drawn es ns = flat_map (λ n. leaves_in (entries_of es n)) ns

-- so many stretches have all of so many entries, and each of them has some
pub record AreStretches (size count : ℕ) : Type 0 where
  pub whole : size ≤ count * 16
  pub real : (n : ℕ) → n < count → n * 16 < size

-- entries of leaves, none of which is listed twice, in so many stretches
pub record AreListed (g : Ground) (es : List Entry) (count : ℕ) : Type 0 where
  pub entries : All (IsLeafEntry g) es
  pub once : (l : ℕ) → times l (leaves_in es) ≤ 1
  pub cut : AreStretches (length es) count
