-- Laws of the texts of indexes.
use Rattle.std.specs.Prelude.{◌≡◌, ℕ, ◌<◌, ◌≤◌, ◌↔◌, ◌⊎◌, List, length, map, Some, None, Bool}
use Rattle.std.specs.List.{All}
use Rattle.series_core.specs.Collection.{Collection, IsCollection}
use Rattle.segment_sums.specs.Division.{IsDivision}
use Rattle.subtree_build.specs.RowCodes.{Block}
use Rattle.subtree_build.specs.declared.settings.Settings.{Settings}
use Rattle.subtree_build.specs.Fits.{Fits, IsTreeOf}
use Rattle.subtree_build.specs.Index.{IndexParts, IsIndex}
use Rattle.subtree_build.specs.Outline.{outline}
use Rattle.saved_index.specs.declared.error.IndexFault.{IndexFault}
use Rattle.saved_index.specs.declared.error.IndexFault.TheVariants.{ReadFault, NoMemory}
use Rattle.saved_index.specs.declared.loading.LoadedIndex.{LoadedIndex}
use Rattle.saved_index.specs.Faults.{index_fault}
use Rattle.saved_index.specs.IndexText.{CanSave, IndexText}
use Rattle.saved_index.specs.Loading.{Explains, IsLoadedFor, IsTextFor}
use Rattle.saved_index.specs.Reading.{saved_in}
use Rattle.saved_index.specs.Saved.{Saved, IsTextOf}
use Rattle.search_limits.specs.declared.numbers.TheConstants.{MOST_TEXT_BYTES}

-- bytes are the text of one thing alone
abbrev pub TextsAreOne : Type 0
TextsAreOne = (bytes : List ℕ) (s t : Saved) → IsTextOf bytes s → IsTextOf bytes t → s ≡ t

-- bytes are read as what they are the text of, and as nothing else
abbrev pub ReadsTexts : Type 0
ReadsTexts = (bytes : List ℕ) (s : Saved) → All (λ b. b < 256) bytes → (saved_in bytes ≡ Some s) ↔ IsTextOf bytes s

-- an index that fits a collection under settings
pub record IsIndexOf (c : Collection) (settings : Settings) (ix : IndexParts) : Type 0 where
  pub division : IsDivision settings.layout.cuts
  pub index : IsIndex ix
  pub fits : Fits c settings.layout ix

-- indexes whose trees are the same, wherever their nodes lie in memory; and so are their means where both have some, and their codes
pub record AreSame (ix jx : IndexParts) : Type 0 where
  pub segments : ix.segments ≡ jx.segments
  pub roots : ix.roots ≡ jx.roots
  pub nodes : map outline ix.nodes ≡ map outline jx.nodes
  pub leaves : ix.leaves ≡ jx.leaves
  pub means : (ms ns : List (List (List ℕ))) → ix.means ≡ Some ms → jx.means ≡ Some ns → ms ≡ ns
  pub codes : (cs ds : List (List Block)) → ix.codes ≡ Some cs → jx.codes ≡ Some ds → cs ≡ ds

-- indexes that fit one collection and have one text are the same, and have the same settings
abbrev pub TextTellsIndex : Type 0
TextTellsIndex = (c : Collection) (bytes : List ℕ) (s t : Settings) (m n : ℕ) (ix jx : IndexParts)
    → IsIndexOf c s ix → IsIndexOf c t jx → IndexText bytes s m ix → IndexText bytes t n jx → (s ≡ t) × AreSame ix jx

-- the text of an index that fits a collection has nothing against it, where it is no longer than a saved index may be
abbrev pub TextHasNoFault : Type 0
TextHasNoFault = (c : Collection) (bytes : List ℕ) (settings : Settings) (ix : IndexParts) → IsIndexOf c settings ix
    → settings.layout.cuts.row_length ≡ c.points → IndexText bytes settings (length c.series) ix → length bytes ≤ MOST_TEXT_BYTES
    → index_fault bytes c ≡ None

-- Loading bytes over a collection ends with this index under these settings: whatever may be handed out is the same, and only a read that
-- fails, or want of memory, keeps it from being handed out.
pub record LoadsBack (c : Collection) (bytes : List ℕ) (settings : Settings) (ix : IndexParts) : Type 0 where
  pub same : (tables : Bool) (back : LoadedIndex) → IsLoadedFor tables c back → IsTextFor c back bytes
      → (settings ≡ back.settings) × AreSame ix back.index
  pub refused : (e : IndexFault) → Explains c (Some bytes) e → (e ≡ ReadFault) ⊎ (e ≡ NoMemory)

-- the text of an index that fits a collection is loaded back, where it is no longer than a saved index may be
abbrev pub TextsLoadBack : Type 0
TextsLoadBack = (c : Collection) (bytes : List ℕ) (settings : Settings) (ix : IndexParts) → IsIndexOf c settings ix
    → settings.layout.cuts.row_length ≡ c.points → IndexText bytes settings (length c.series) ix → length bytes ≤ MOST_TEXT_BYTES
    → LoadsBack c bytes settings ix

-- an index that is the tree of a collection can be saved
abbrev pub TreesCanBeSaved : Type 0
TreesCanBeSaved = (c : Collection) (settings : Settings) (ix : IndexParts) → IsCollection c
    → IsTreeOf c settings.layout settings.leaf_size ix → 1 ≤ settings.leaf_size → settings.leaf_size ≤ 65535
    → CanSave settings (length c.series) ix
