-- What workers draw: stretches of leaves or of rows in a row; and the search as if each stretch were a leaf.
use Rattle.std.specs.Prelude.{◌-◌, ◌*◌, ◌<◌, ◌≤◌, ◌∷◌, [], ℕ, List, None, length, map, min}
use Rattle.std.specs.List.{flat_map, range_with_len}
use Rattle.nearest_answer.specs.declared.telling.ApartBy.{ApartBy}
use Rattle.nearest_answer.specs.declared.telling.ApartBy.TheVariants.{Means, Codes, Nothing}
use Rattle.search_machine.specs.Ground.{Ground}
use Rattle.search_task.specs.Questions.{Searched, ground_of, leaf_series}

-- the series of an item: the members of a leaf, or a row alone where nothing tells series apart
abbrev pub series_of : Searched → ApartBy → ℕ → List ℕ
series_of s Means i = leaf_series s.index i
series_of s Codes i = leaf_series s.index i
series_of s Nothing i = i ∷ []

-- how many items there are: leaves, or rows
abbrev pub item_count : Searched → ApartBy → ℕ
item_count s Means = length s.index.leaves
item_count s Codes = length s.index.leaves
item_count s Nothing = length s.question.collection.series

-- how many of them are a stretch, but for the last
abbrev pub stretch_size : ApartBy → ℕ
stretch_size Means = 256
stretch_size Codes = 256
stretch_size Nothing = 64

-- the numbers of the items of stretch n, where stretches have so many of so many items
abbrev pub items_in : ℕ → ℕ → ℕ → List ℕ
items_in size count n = range_with_len (n * size) (min size (count - n * size))

-- the series of stretch n
abbrev pub stretch : Searched → ApartBy → ℕ → List ℕ
stretch s by n = flat_map (series_of s by) (items_in (stretch_size by) (item_count s by) n)

-- so many stretches have all items, and each of them has some
pub record IsCut (s : Searched) (by : ApartBy) (count : ℕ) : Type 0 where
  pub whole : item_count s by ≤ count * stretch_size by
  pub real : (n : ℕ) → n < count → n * stretch_size by < item_count s by

-- the search as if each of so many stretches were a leaf, below a root child of its own and without a bound
abbrev pub by_stretches : Searched → ApartBy → ℕ → Ground
by_stretches s by count = record (ground_of s) {
  leaves = count;
  members = stretch s by;
  bound = λ n. 0;
  roots = map (λ n. n ∷ []) (range_with_len 0 count);
  start = None;
}
