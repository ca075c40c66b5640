-- Completeness: where all steps can pass, only a failed read, want of memory, a saved index or a certificate refuses
-- (`only_reading`).
use Rattle.std.proofs.Common.{◌≡◌, ℕ, List, Option, None, Some, subst, arith, ⊎_elim}
use Rattle.std.specs.Prelude.{IfSome, IsSome, IsSomeAnd}
use Rattle.outside.specs.Count.{Rose}
use Rattle.series_core.specs.Collection.{Collection}
use Rattle.series_file.specs.declared.error.Form.{Form}
use Rattle.series_file.specs.declared.error.Loaded.{Loaded}
use Rattle.search_run.specs.Certificates.{IsFault, RefusesCertificate, ShowsInvalid, Subject}
use Rattle.search_run.specs.Indexes.{RefusesIndex, ShowsIndexFault}
use Rattle.search_run.specs.Loads.{IsHeldAs, RefusesFile, RefusesNamed, ShowsFault, Spells}
use Rattle.search_run.specs.Plans.{CanPass, Differs, HasSegments, Plan, Load, Compare, Divide, LoadIndex, Check, Write, Refuses, TooMany}
use Rattle.search_run.specs.Traffic.{Reading}
use Rattle.search_run.proofs.Held.{held_not_absent, known_no_fault, known_not_absent, one_loaded}
use Rattle.search_run.specs.declared.status.Status.{Status}
use Rattle.search_run.specs.declared.status.Status.TheVariants.{Done, Usage, Missing, ReadFault, Format, Mismatch, Settings, WriteFault, Memory, Invalid, Index}
use Rattle.search_run.specs.declared.status.Which.{Which}
use Rattle.search_run.specs.declared.status.Which.TheVariants.{Certificate, Index as IndexFile}

-- reading failed and was counted, or memory ran out, or a saved index or a certificate is reported to have a fault
abbrev pub IsRead : Reading → Status → Type 0
IsRead reading (ReadFault w) = Rose reading.faults reading.later
IsRead reading Memory = Unit {0}
IsRead reading (Invalid e) = Unit {0}
IsRead reading (Index e) = Unit {0}
IsRead reading _ = ⊥

-- a name that is there is refused only where it was not read, or where its bytes show that
named_read : (w : Which) (Shows : Status → Type 0) (reading : Reading) (name : List ℕ) (status : Status)
    → (IfSome reading.held (λ h. h name ≡ None) → ⊥) → ((s : Status) → Shows s → IsRead reading s)
    → RefusesNamed w Shows reading name status → IsRead reading status
named_read w Shows reading name (Missing v) there shown x = absurd (there x.1.1)
named_read w Shows reading name (ReadFault v) there shown x = x.1.0
named_read w Shows reading name Memory there shown x = tt
named_read w Shows reading name Done there shown x = shown Done x
named_read w Shows reading name Usage there shown x = shown Usage x
named_read w Shows reading name (Format v e) there shown x = shown (Format v e) x
named_read w Shows reading name (Mismatch a b) there shown x = shown (Mismatch a b) x
named_read w Shows reading name (Settings v n) there shown x = shown (Settings v n) x
named_read w Shows reading name WriteFault there shown x = shown WriteFault x
named_read w Shows reading name (Invalid e) there shown x = shown (Invalid e) x
named_read w Shows reading name (Index e) there shown x = shown (Index e) x

file_read : (w : Which) (reading : Reading) (name : List ℕ) (form : Form) (file : Loaded) (status : Status)
    → IsSomeAnd reading.held (λ h. IsHeldAs h name (Spells form file)) → RefusesFile w reading name form status
    → IsRead reading status
file_read w reading name form file status is =
    named_read w (ShowsFault w reading.held name form) reading name status
    (known_not_absent reading.held name (Spells form file) is) shown
  where
    shown : (s : Status) → ShowsFault w reading.held name form s → IsRead reading s
    shown (Format v e) x = absurd (known_no_fault reading.held name form file e is x.2)
    shown s x = absurd x

lengths_read : (reading : Reading) (a b : ℕ) (status : Status) → a ≡ b → Differs a b status → IsRead reading status
lengths_read reading a b (Mismatch c d) same x = absurd (x.2 same)
lengths_read reading a b status same x = absurd x

segments_read : (reading : Reading) (w : Option ℕ) (n : ℕ) (status : Status) → HasSegments w n
    → TooMany w n status → IsRead reading status
segments_read reading (Some w) n (Settings v m) has x = absurd (omega (arith, has, x.2))
segments_read reading (Some w) n status has x = absurd x
segments_read reading None n status has x = absurd x

certificate_read : (s : Subject) (reading : Reading) (name : List ℕ) (status : Status)
    → IsSomeAnd reading.held (λ h. IsSome (h name)) → RefusesCertificate (IsFault s) reading name status
    → IsRead reading status
certificate_read s reading name status is =
    named_read Certificate (ShowsInvalid (IsFault s) reading.held name) reading name status
    (held_not_absent reading.held name is) shown
  where
    shown : (t : Status) → ShowsInvalid (IsFault s) reading.held name t → IsRead reading t
    shown (Invalid e) x = tt
    shown t x = absurd x

index_read : (c : Collection) (reading : Reading) (name : List ℕ) (status : Status)
    → IsSomeAnd reading.held (λ h. IsSome (h name)) → RefusesIndex c reading name status → IsRead reading status
index_read c reading name status is =
    named_read IndexFile (ShowsIndexFault c reading.held name) reading name status
    (held_not_absent reading.held name is) shown
  where
    shown : (s : Status) → ShowsIndexFault c reading.held name s → IsRead reading s
    shown (Index e) x = tt
    shown s x = absurd x

-- where all steps can pass, a step that refuses was not read, or is a saved index or a certificate
pub only_reading : (reading : Reading) (plan : Plan) (status : Status) → CanPass reading.held plan
    → Refuses reading plan status → IsRead reading status
only_reading reading (Load w name form then_) status can =
    ⊎_elim (file_read w reading name form can.0 status can.1)
    (λ x. only_reading reading (then_ x.0) status
    (subst (λ loaded. CanPass reading.held (then_ loaded))
    (one_loaded reading.held name form can.0 x.0 can.1 x.1.told) can.2) x.2)
only_reading reading (Compare a b then_) status can =
    ⊎_elim (lengths_read reading a b status can.0) (λ x. only_reading reading then_ status can.1 x.1)
only_reading reading (Divide w n then_) status can =
    ⊎_elim (segments_read reading w n status can.0) (λ x. only_reading reading then_ status can.1 x.1)
only_reading reading (LoadIndex name c then_) status can =
    ⊎_elim (index_read c reading name status can.0) (λ x. only_reading reading then_ status can.1 x.1)
only_reading reading (Check name s then_) status can =
    ⊎_elim (certificate_read s reading name status can.0) (λ x. only_reading reading then_ status can.1 x.1)
only_reading reading (Write IsRight) status can = λ x. absurd x
