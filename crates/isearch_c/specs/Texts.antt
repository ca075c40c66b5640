-- The text of an index that a handle keeps, and an index of a text.
use Rattle.std.specs.Prelude.{◌≡◌, ℕ, ◌++◌, Bool, not, List, [], drop, length, Option, None, Some}
use Rattle.std.specs.Option.{is_some}
use Rattle.std.specs.Arc.{arc_value}
use Rattle.series_core.specs.Collection.{Collection}
use Rattle.saved_index.specs.declared.error.IndexFault.{IndexFault}
use Rattle.saved_index.specs.declared.error.IndexFault.TheVariants.{NoMemory as NoMemoryLeft}
use Rattle.saved_index.specs.declared.loading.LoadedIndex.{LoadedIndex}
use Rattle.saved_index.specs.Faults.{index_fault}
use Rattle.saved_index.specs.IndexText.{IndexText, saved_of}
use Rattle.saved_index.specs.Loading.{IsIndexFor, IsTextFor}
use Rattle.saved_index.specs.Saved.{text}
use Rattle.isearch_c.specs.declared.held.Held.{Held}
use Rattle.isearch_c.specs.declared.held.Searchable.{Searchable}
use Rattle.isearch_c.specs.declared.status.Status.{Status}
use Rattle.isearch_c.specs.declared.status.Status.TheVariants.{NoMemory, WrongText}

-- the text of the index of a collection
abbrev pub text_of : Searchable → List ℕ
text_of s = text (saved_of s.settings (length s.rows.series) s.index)

-- the text of what is kept; none where there is no index
abbrev pub text_kept : Option Held → List ℕ
text_kept None = []
text_kept (Some h) = text_of (arc_value h.searchable)

-- the text of the index stands at the first places, and behind it what stood there
pub record HoldText (s : Searchable) (places places_then : List ℕ) : Type 0 where
  pub sound : IndexText (text_of s) s.settings (length s.rows.series) s.index
  pub stands : places_then ≡ text_of s ++ drop (length (text_of s)) places

-- the index of a collection with its settings, as it is loaded
abbrev pub loaded_in : Searchable → LoadedIndex
loaded_in s = record { settings = s.settings; index = s.index }

-- a text has nothing against a collection
abbrev pub serves : Collection → List ℕ → Bool
serves c bytes = not (is_some (index_fault bytes c))

-- the status that tells a refusal of a text
abbrev pub status_of : IndexFault → Status
status_of NoMemoryLeft = NoMemory
status_of e = WrongText

-- an index over this collection that fits it, and whose text these bytes are
pub record IsOfText (c : Collection) (bytes : List ℕ) (s : Searchable) : Type 0 where
  pub rows_are : s.rows ≡ c
  pub fits : IsIndexFor c (loaded_in s)
  pub text_is : IsTextFor c (loaded_in s) bytes
