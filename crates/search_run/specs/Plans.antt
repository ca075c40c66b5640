-- A command as a list of steps: what it reads and tests, in order, and at its end the texts that it may write.
-- What a step reads, the steps behind it speak of. All that keeps a command from its work is a step that refuses.
use Rattle.std.specs.Prelude.{◌≡◌, ◌≢◌, ℕ, ◌<◌, ◌≤◌, ◌⊎◌, ⊤, List, Option, Some, IfSome, IsSome, IsSomeAnd}
use Rattle.outside.specs.Files.{Held}
use Rattle.series_core.specs.Collection.{Collection}
use Rattle.series_file.specs.declared.error.Form.{Form}
use Rattle.series_file.specs.declared.error.Loaded.{Loaded}
use Rattle.search_run.specs.Certificates.{IsFault, IsValid, RefusesCertificate, ShowsInvalid, Subject}
use Rattle.search_run.specs.Indexes.{IsFitIndex, RefusesIndex, ShowsIndexFault}
use Rattle.search_run.specs.Loads.{HoldsBytes, HoldsFile, IsHeldAs, RefusesFile, Spells}
use Rattle.search_run.specs.Traffic.{Reading}
use Rattle.search_run.specs.declared.status.Status.{Status}
use Rattle.search_run.specs.declared.status.Status.TheVariants.{Mismatch, Settings}
use Rattle.search_run.specs.declared.status.Which.{Which}

-- What a command does with its input, step by step:
--   Load      the series file of this role and name is loaded in this form, and what it holds is handed on;
--   Compare   the length of the series and that of the queries are the same;
--   Divide    a series of this length has as many values as there are asked segments, if any were asked for;
--   LoadIndex the saved index of this name fits these series;
--   Check     the certificate of this name holds for this;
--   Write     a text is written, and this says which texts are right.
pub data Plan : Type 1 where
  Load : Which → List ℕ → Form → (Loaded → Plan) → Plan
  Compare : ℕ → ℕ → Plan → Plan
  Divide : Option ℕ → ℕ → Plan → Plan
  LoadIndex : List ℕ → Collection → Plan → Plan
  Check : List ℕ → Subject → Plan → Plan
  Write : (List ℕ → Type 0) → Plan

-- the two lengths differ, and the status says so
abbrev pub Differs : ℕ → ℕ → Status → Type 0
Differs a b (Mismatch c d) = (c ≡ a) × (d ≡ b) × (a ≢ b)
Differs a b _ = ⊥

-- a series of n values has as many segments as were asked for, if any were
abbrev pub HasSegments : Option ℕ → ℕ → Type 0
HasSegments segments n = IfSome segments (λ w. w ≤ n)

-- more segments were asked for than a series has values, and the status says so
abbrev pub TooMany : Option ℕ → ℕ → Status → Type 0
TooMany (Some w) n (Settings v m) = (v ≡ w) × (m ≡ n) × (n < w)
TooMany segments n _ = ⊥

-- each step passes, and at the end this text is right
abbrev pub Writes : Option Held → Plan → List ℕ → Type 0
Writes held (Load w name form then_) text =
    (loaded : Loaded) × HoldsFile held name form loaded × Writes held (then_ loaded) text
Writes held (Compare a b then_) text = (a ≡ b) × Writes held then_ text
Writes held (Divide w n then_) text = HasSegments w n × Writes held then_ text
Writes held (LoadIndex name c then_) text = HoldsBytes held name (IsFitIndex c) × Writes held then_ text
Writes held (Check name s then_) text = HoldsBytes held name (IsValid s) × Writes held then_ text
Writes held (Write IsRight) text = IsRight text

-- a step refuses with this status, and each before it passes
abbrev pub Refuses : Reading → Plan → Status → Type 0
Refuses reading (Load w name form then_) status = RefusesFile w reading name form status
    ⊎ ((loaded : Loaded) × HoldsFile reading.held name form loaded × Refuses reading (then_ loaded) status)
Refuses reading (Compare a b then_) status = Differs a b status ⊎ ((a ≡ b) × Refuses reading then_ status)
Refuses reading (Divide w n then_) status = TooMany w n status ⊎ (HasSegments w n × Refuses reading then_ status)
Refuses reading (LoadIndex name c then_) status = RefusesIndex c reading name status
    ⊎ (HoldsBytes reading.held name (IsFitIndex c) × Refuses reading then_ status)
Refuses reading (Check name s then_) status = RefusesCertificate (IsFault s) reading name status
    ⊎ (HoldsBytes reading.held name (IsValid s) × Refuses reading then_ status)
Refuses reading (Write IsRight) status = ⊥

-- Nothing keeps a command from its work: the files' contents are known, each name is held with what the command needs of it, and
-- the lengths fit. A saved index and a certificate are held; whether the one fits and the other holds is the work.
abbrev pub CanPass : Option Held → Plan → Type 0
CanPass held (Load w name form then_) = (loaded : Loaded)
    × IsSomeAnd held (λ h. IsHeldAs h name (Spells form loaded)) × CanPass held (then_ loaded)
CanPass held (Compare a b then_) = (a ≡ b) × CanPass held then_
CanPass held (Divide w n then_) = HasSegments w n × CanPass held then_
CanPass held (LoadIndex name c then_) = IsSomeAnd held (λ h. IsSome (h name)) × CanPass held then_
CanPass held (Check name s then_) = IsSomeAnd held (λ h. IsSome (h name)) × CanPass held then_
CanPass held (Write IsRight) = ⊤

-- each step before it passes, and a saved index or a certificate has a fault, which this status tells
abbrev pub HasFault : Option Held → Plan → Status → Type 0
HasFault held (Load w name form then_) told =
    (loaded : Loaded) × HoldsFile held name form loaded × HasFault held (then_ loaded) told
HasFault held (Compare a b then_) told = (a ≡ b) × HasFault held then_ told
HasFault held (Divide w n then_) told = HasSegments w n × HasFault held then_ told
HasFault held (LoadIndex name c then_) told = ShowsIndexFault c held name told
    ⊎ (HoldsBytes held name (IsFitIndex c) × HasFault held then_ told)
HasFault held (Check name s then_) told = ShowsInvalid (IsFault s) held name told
    ⊎ (HoldsBytes held name (IsValid s) × HasFault held then_ told)
HasFault held (Write IsRight) told = ⊥
