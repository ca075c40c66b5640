-- What loading a saved index over a collection answers, what it leaves of the open file, and what else it does to the files.
use Rattle.std.specs.Prelude.{◌≡◌, ◌≢◌, ℕ, ◌≤◌, ⊤, ◌⊎◌, Bool, true, false, List, drop, length, Option, Some, None, Result, Err, IfSome, IsErrOf}
use Rattle.std.specs.Io.KnownBytes.{IsAtEnd}
use Rattle.outside.specs.Count.{Rose}
use Rattle.outside.specs.Files.{Held, Blames, TakesAtMost}
use Rattle.segment_sums.specs.Division.{IsDivision}
use Rattle.series_core.specs.Collection.{Collection}
use Rattle.subtree_build.specs.Assembly.{IsOfParts}
use Rattle.subtree_build.specs.Fits.{Fits}
use Rattle.subtree_build.specs.Index.{HasTables, IndexParts, IsIndex, IsTreeAlone}
use Rattle.saved_index.specs.declared.error.IndexFault.{IndexFault}
use Rattle.saved_index.specs.declared.error.IndexFault.TheVariants.{TooLong, ReadFault, NoMemory}
use Rattle.saved_index.specs.declared.loading.LoadedIndex.{LoadedIndex}
use Rattle.saved_index.specs.declared.reading.Spelled.{Spelled}
use Rattle.saved_index.specs.Faults.{index_fault, layout_for}
use Rattle.saved_index.specs.Fields.{header_of}
use Rattle.saved_index.specs.IndexText.{IndexText}
use Rattle.saved_index.specs.Membership.{first_unfit_of, members_in_lists, words_of}
use Rattle.saved_index.specs.Parsed.{IsSavedRead}

-- What stands beside the tree of an index: means and codes, or nothing.
abbrev pub StandsBeside : Bool → IndexParts → Type 0
StandsBeside true ix = HasTables ix
StandsBeside false ix = IsTreeAlone ix

-- An index by which a collection may be searched: it fits the collection under the layout of its settings, which is for series of the
-- collection's length, tables stand beside its tree or not, and the leaf size is within its limits.
pub record IsLoadedFor (tables : Bool) (c : Collection) (loaded : LoadedIndex) : Type 0 where
  pub fits : Fits c loaded.settings.layout loaded.index
  pub length : c.points ≡ loaded.settings.layout.cuts.row_length
  pub cuts : IsDivision loaded.settings.layout.cuts
  pub is_index : IsIndex loaded.index
  pub beside : StandsBeside tables loaded.index
  pub some_leaf_size : 1 ≤ loaded.settings.leaf_size
  pub leaf_size_limit : loaded.settings.leaf_size ≤ 65535

-- The same with means and codes.
abbrev pub IsIndexFor : Collection → LoadedIndex → Type 0
IsIndexFor c loaded = IsLoadedFor true c loaded

-- Bytes have no fault against a collection, and are the text of what was loaded.
pub record IsTextFor (c : Collection) (loaded : LoadedIndex) (bytes : List ℕ) : Type 0 where
  pub no_fault : index_fault bytes c ≡ None
  pub text : IndexText bytes loaded.settings (length c.series) loaded.index

-- What was read of bytes is of series of a collection's length, and of as many.
pub record IsSavedFor (c : Collection) (bytes : List ℕ) (r : Spelled) : Type 0 where
  pub read : IsSavedRead bytes r
  pub points : r.fields.length ≡ c.points
  pub count : r.fields.count ≡ length c.series

-- What was read of bytes was put together with the full words of the collection's series.
pub record IsPutTogether (c : Collection) (bytes : List ℕ) (loaded : LoadedIndex) : Type 0 where
  pub spelled : Spelled
  pub saved : IsSavedFor c bytes spelled
  pub layout : loaded.settings.layout ≡ layout_for (header_of spelled.fields)
  pub leaf_size : loaded.settings.leaf_size ≡ spelled.fields.leaf_size
  pub is_index : IsIndex loaded.index
  pub parts : IsOfParts loaded.settings.layout.cuts.segments spelled.found.roots.items spelled.found.nodes.items
      (members_in_lists (words_of c loaded.settings.layout) spelled.found.lists) loaded.index

-- And no series of the collection is found that does not fit: only means and codes are wanted.
pub record IsTested (c : Collection) (bytes : List ℕ) (loaded : LoadedIndex) : Type 0 where
  pub together : IsPutTogether c bytes loaded
  pub none_unfit : None ≡ first_unfit_of loaded.index.leaves (length c.series)

-- The refusal is what bytes have against a collection, or want of memory.
abbrev pub Refuses : Collection → List ℕ → IndexFault → Type 0
Refuses c bytes e = (e ≡ NoMemory) ⊎ (index_fault bytes c ≡ Some e)

-- The file was read to its end, and its bytes, where known, are the text of what was loaded.
abbrev pub LoadsWhole : Collection → Option (List ℕ) → Option (List ℕ) → LoadedIndex → Type 0
LoadsWhole c before now loaded = IsAtEnd now × IfSome before (IsTextFor c loaded)

-- The refusal is what the file's bytes, where known, have against the collection, or one that no bytes explain.
abbrev pub Explains : Collection → Option (List ℕ) → IndexFault → Type 0
Explains c before ReadFault = ⊤
Explains c before NoMemory = ⊤
Explains c before e = IfSome before (λ bytes. index_fault bytes c ≡ Some e)

-- What a refusal leaves of the file, where known: of one that is too long what lies behind one byte more than the limit, where memory ran
-- out that or more, or nothing, and after a failed read anything; else nothing.
abbrev pub Leaves : Option (List ℕ) → Option (List ℕ) → IndexFault → Type 0
Leaves before now ReadFault = ⊤
Leaves before now NoMemory = TakesAtMost 1073741825 before now ⊎ IsAtEnd now
Leaves before now TooLong = IfSome before (λ bytes. now ≡ Some (drop 1073741825 bytes))
Leaves before now e = IsAtEnd now

-- What loading does to the files whatever they hold. A failed read is counted, and blamed on the file that was open. Else the same
-- file stays open and the same is blamed. What is held stays, no count falls, and no read fails where none can.
pub record Loads {F T : Type 0} (held : F → Option Held) (at blamed : F → Option (List ℕ)) (faults misses : F → ℕ)
    (reliable : F → Type 0) (result : Result T IndexFault) (old new : F) : Type 0 where
  pub failed : IsErrOf result ReadFault → Rose (faults old) (faults new) × Blames (at old) (blamed new)
  pub stays_open : (result ≢ Err ReadFault) → (at new ≡ at old) × (blamed new ≡ blamed old)
  pub kept : held new ≡ held old
  pub counts : (faults old ≤ faults new) × (misses old ≤ misses new)
  pub sure : reliable old → (result ≢ Err ReadFault) × (faults new ≡ faults old) × reliable new
