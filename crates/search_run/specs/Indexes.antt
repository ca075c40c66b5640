-- The text of a tree as it is saved; and a saved index against the series that are searched: when it fits, why it is refused.
use Rattle.std.specs.Prelude.{◌≡◌, ℕ, ⊤, List, length, Option, None, Some}
use Rattle.outside.specs.Files.{Held}
use Rattle.series_core.specs.Collection.{Collection}
use Rattle.subtree_build.specs.Fits.{IsTreeOf}
use Rattle.subtree_build.specs.Index.{IndexParts}
use Rattle.subtree_build.specs.declared.settings.Settings.{Settings}
use Rattle.saved_index.specs.Faults.{index_fault}
use Rattle.saved_index.specs.IndexText.{IndexText}
use Rattle.saved_index.specs.declared.error.IndexFault.{IndexFault}
use Rattle.saved_index.specs.declared.error.IndexFault.TheVariants.{ReadFault, NoMemory}
use Rattle.search_run.specs.Loads.{HoldsBytes, RefusesNamed}
use Rattle.search_run.specs.Traffic.{Reading}
use Rattle.search_run.specs.declared.status.Status.{Status}
use Rattle.search_run.specs.declared.status.Status.TheVariants.{Index, Memory, ReadFault as ReadFaultOf}
use Rattle.search_run.specs.declared.status.Which.TheVariants.{Index as IndexFile}

-- the text is that of an index which is the tree of the collection under these settings
abbrev pub IsTreeText : Collection → Settings → List ℕ → Type 0
IsTreeText c settings text = (ix : IndexParts) × IsTreeOf c settings.layout settings.leaf_size ix
    × IndexText text settings (length c.series) ix

-- the bytes are a saved index that fits these series
abbrev pub IsFitIndex : Collection → List ℕ → Type 0
IsFitIndex c bytes = index_fault bytes c ≡ None

-- bytes can show this fault: no failed read, and no want of memory
abbrev pub CanBeIndexFault : IndexFault → Type 0
CanBeIndexFault ReadFault = ⊥
CanBeIndexFault NoMemory = ⊥
CanBeIndexFault e = ⊤

-- the saved index of this name has a fault over these series, and the status has it
abbrev pub ShowsIndexFault : Collection → Option Held → List ℕ → Status → Type 0
ShowsIndexFault c held name (Index e) = CanBeIndexFault e × HoldsBytes held name (λ bytes. index_fault bytes c ≡ Some e)
ShowsIndexFault c held name _ = ⊥

-- why the saved index of this name is refused over these series: each status with what shows it
abbrev pub RefusesIndex : Collection → Reading → List ℕ → Status → Type 0
RefusesIndex c reading name = RefusesNamed IndexFile (ShowsIndexFault c reading.held name) reading name

-- the status for a refusal of a saved index
abbrev pub index_refusal : IndexFault → Status
index_refusal ReadFault = ReadFaultOf IndexFile
index_refusal NoMemory = Memory
index_refusal e = Index e
