-- The files of a script's groups: what they hold, which appends find room, and why a group is not taken.
use Rattle.std.specs.Prelude.{◌≡◌, ℕ, ◌+◌, ◌<◌, ◌≤◌, ◌⊎◌, ⊤, List, [], ◌∷◌, ◌++◌, length, Option, None, Some}
use Rattle.std.specs.List.{AllZip}
use Rattle.outside.specs.Files.{Held}
use Rattle.series_core.specs.Collection.{Collection}
use Rattle.series_core.specs.declared.rows.TheConstants.{MAX_COUNT}
use Rattle.live_collection.specs.declared.object.TheConstants.{MAX_BATCHES}
use Rattle.live_script.specs.declared.script.Asking.{Asking}
use Rattle.live_script.specs.declared.script.Group.{Group}
use Rattle.live_run.specs.Loads.{FitsLength, HoldsFile, RefusesFitting}
use Rattle.live_run.specs.Texts.{all_series}
use Rattle.run_traffic.specs.Traffic.{Reading}
use Rattle.live_run.specs.declared.group.Contents.{Contents}
use Rattle.live_run.specs.declared.group.QueryFile.{QueryFile}
use Rattle.live_run.specs.declared.status.LiveStatus.{LiveStatus}
use Rattle.live_run.specs.declared.status.LiveStatus.TheVariants.{Memory, Full}

-- the file of the asking holds these queries, of n values each, and asks for as many
pub record HoldsAsking (held : Option Held) (n : ℕ) (a : Asking) (f : QueryFile) : Type 0 where
  pub file : HoldsFile held a.queries.name f.queries
  pub points : f.queries.points ≡ n
  pub k : f.k ≡ a.k

-- so do the files of all these askings, in order
abbrev pub HoldAskings : Option Held → ℕ → List Asking → List QueryFile → Type 0
HoldAskings held n askings files = AllZip (HoldsAsking held n) askings files

-- the files of the group hold this, and their length is the first file's
pub record HoldsGroup (held : Option Held) (want : Option ℕ) (g : Group) (c : Contents) : Type 0 where
  pub batch : HoldsFile held g.batch.name c.batch
  pub points : FitsLength want c.batch.points
  pub askings : HoldAskings held c.batch.points g.askings c.askings.items

-- the file of an asking does not serve, and those of all before it do
pub record RefusesAskings (reading : Reading) (n : ℕ) (askings : List Asking) (status : LiveStatus) : Type 0 where
  pub done : List Asking
  pub asking : Asking
  pub rest : List Asking
  pub all : askings ≡ done ++ asking ∷ rest
  pub files : List QueryFile
  pub passed : HoldAskings reading.held n done files
  pub refused : RefusesFitting reading (Some n) asking.queries status

-- a file of the group does not serve, and those before it do
abbrev pub RefusesGroup : Reading → Option ℕ → Group → LiveStatus → Type 0
RefusesGroup reading want g status = RefusesFitting reading want g.batch status
    ⊎ ((rows : Collection) × HoldsFile reading.held g.batch.name rows × FitsLength want rows.points
    × RefusesAskings reading rows.points g.askings status)

-- the length of the first file, where groups stand ahead
abbrev pub want_of : List Contents → Option ℕ
want_of [] = None
want_of (c ∷ cs) = Some c.batch.points

-- behind these groups there is room for the batch
pub record HasRoom (ahead : List Contents) (c : Contents) : Type 0 where
  pub batches : length ahead < MAX_BATCHES
  pub series : length (all_series ahead) + length c.batch.series ≤ MAX_COUNT

-- the files of a group hold this, and behind these groups there is room for its batch
pub record Passes (held : Option Held) (ahead : List Contents) (g : Group) (c : Contents) : Type 0 where
  pub holds : HoldsGroup held (want_of ahead) g c
  pub room : HasRoom ahead c

-- so it is of all these groups, one behind the other
abbrev pub AllPass : Option Held → List Contents → List Group → List Contents → Type 0
AllPass held ahead [] [] = ⊤
AllPass held ahead (g ∷ gs) (c ∷ cs) = Passes held ahead g c × AllPass held (ahead ++ c ∷ []) gs cs
AllPass held ahead _ _ = ⊥

-- behind these groups there is no room for the batch, and the status says what stands
abbrev pub IsFull : List Contents → Contents → LiveStatus → Type 0
IsFull ahead c (Full batches series) = (batches ≡ length ahead) × (series ≡ length (all_series ahead))
    × ((batches ≡ MAX_BATCHES) ⊎ (MAX_COUNT < series + length c.batch.series))
IsFull ahead c _ = ⊥

-- why the first of these groups is not taken, which stands behind others: memory ran out, or a file does not serve, or all do
-- and there is no room
abbrev pub StopsAt : Reading → List Contents → List Group → LiveStatus → Type 0
StopsAt reading ahead gs Memory = ⊤
StopsAt reading ahead [] status = ⊥
StopsAt reading ahead (g ∷ gs) status = RefusesGroup reading (want_of ahead) g status
    ⊎ ((c : Contents) × HoldsGroup reading.held (want_of ahead) g c × IsFull ahead c status)
