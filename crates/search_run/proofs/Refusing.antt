-- What the statuses of refusals are: a status of words or of written text refuses no step (`refuses_for_cause`), and
-- of a saved index or a certificate a fault is reported only where it has that (`told_has_fault`).
use Rattle.std.proofs.Common.{ℕ, List, Option, None, Some, inl, inr, ⊎_elim}
use Rattle.series_core.specs.Collection.{Collection}
use Rattle.series_file.specs.declared.error.Form.{Form}
use Rattle.search_run.specs.Certificates.{IsFault, RefusesCertificate, ShowsInvalid, Subject}
use Rattle.search_run.specs.Ends.{TellsCause}
use Rattle.search_run.specs.Indexes.{RefusesIndex, ShowsIndexFault}
use Rattle.search_run.specs.Loads.{RefusesFile, RefusesNamed, ShowsFault}
use Rattle.search_run.specs.Plans.{Differs, HasFault, Plan, Load, Compare, Divide, LoadIndex, Check, Write, Refuses, TooMany}
use Rattle.search_run.specs.Traffic.{Reading}
use Rattle.search_run.specs.declared.status.Status.{Status}
use Rattle.search_run.specs.declared.status.Status.TheVariants.{Done, Usage, Missing, ReadFault, Format, Mismatch, Settings, WriteFault, Memory, Invalid, Index}
use Rattle.search_run.specs.declared.status.Which.{Which}
use Rattle.search_run.specs.declared.status.Which.TheVariants.{Certificate, Index as IndexFile}

-- a status that a refusal can have, which tells a cause
abbrev pub IsRefusal : Status → Type 0
IsRefusal Done = ⊥
IsRefusal Usage = ⊥
IsRefusal WriteFault = ⊥
IsRefusal status = TellsCause status

-- a name is refused with such a status, where what its bytes show is one
named_is : (w : Which) (Shows : Status → Type 0) (reading : Reading) (name : List ℕ) (status : Status)
    → ((s : Status) → Shows s → IsRefusal s) → RefusesNamed w Shows reading name status → IsRefusal status
named_is w Shows reading name (Missing v) shown x = tt
named_is w Shows reading name (ReadFault v) shown x = tt
named_is w Shows reading name Memory shown x = tt
named_is w Shows reading name Done shown x = shown Done x
named_is w Shows reading name Usage shown x = shown Usage x
named_is w Shows reading name (Format v e) shown x = shown (Format v e) x
named_is w Shows reading name (Mismatch a b) shown x = shown (Mismatch a b) x
named_is w Shows reading name (Settings v n) shown x = shown (Settings v n) x
named_is w Shows reading name WriteFault shown x = shown WriteFault x
named_is w Shows reading name (Invalid e) shown x = shown (Invalid e) x
named_is w Shows reading name (Index e) shown x = shown (Index e) x

file_is : (w : Which) (reading : Reading) (name : List ℕ) (form : Form) (status : Status)
    → RefusesFile w reading name form status → IsRefusal status
file_is w reading name form status = named_is w (ShowsFault w reading.held name form) reading name status shown
  where
    shown : (s : Status) → ShowsFault w reading.held name form s → IsRefusal s
    shown (Format v e) x = x.1
    shown s x = absurd x

lengths_are : (a b : ℕ) (status : Status) → Differs a b status → IsRefusal status
lengths_are a b (Mismatch c d) x = tt
lengths_are a b status x = absurd x

segments_are : (w : Option ℕ) (n : ℕ) (status : Status) → TooMany w n status → IsRefusal status
segments_are (Some w) n (Settings v m) x = tt
segments_are (Some w) n status x = absurd x
segments_are None n status x = absurd x

certificate_is : (s : Subject) (reading : Reading) (name : List ℕ) (status : Status)
    → RefusesCertificate (IsFault s) reading name status → IsRefusal status
certificate_is s reading name status =
    named_is Certificate (ShowsInvalid (IsFault s) reading.held name) reading name status shown
  where
    shown : (t : Status) → ShowsInvalid (IsFault s) reading.held name t → IsRefusal t
    shown (Invalid e) x = x.0
    shown t x = absurd x

index_is : (c : Collection) (reading : Reading) (name : List ℕ) (status : Status)
    → RefusesIndex c reading name status → IsRefusal status
index_is c reading name status = named_is IndexFile (ShowsIndexFault c reading.held name) reading name status shown
  where
    shown : (s : Status) → ShowsIndexFault c reading.held name s → IsRefusal s
    shown (Index e) x = x.0
    shown s x = absurd x

-- a step that refuses has such a status
pub refuses_for_cause : (reading : Reading) (plan : Plan) (status : Status) → Refuses reading plan status
    → IsRefusal status
refuses_for_cause reading (Load w name form then_) status =
    ⊎_elim (file_is w reading name form status) (λ x. refuses_for_cause reading (then_ x.0) status x.2)
refuses_for_cause reading (Compare a b then_) status =
    ⊎_elim (lengths_are a b status) (λ x. refuses_for_cause reading then_ status x.1)
refuses_for_cause reading (Divide w n then_) status =
    ⊎_elim (segments_are w n status) (λ x. refuses_for_cause reading then_ status x.1)
refuses_for_cause reading (LoadIndex name c then_) status =
    ⊎_elim (index_is c reading name status) (λ x. refuses_for_cause reading then_ status x.1)
refuses_for_cause reading (Check name s then_) status =
    ⊎_elim (certificate_is s reading name status) (λ x. refuses_for_cause reading then_ status x.1)
refuses_for_cause reading (Write IsRight) status = λ x. absurd x

-- a status that tells a fault of a saved index or of a certificate
abbrev pub IsToldFault : Status → Type 0
IsToldFault (Invalid e) = Unit {0}
IsToldFault (Index e) = Unit {0}
IsToldFault status = ⊥

-- no series file is refused so, nor are lengths and segments
file_tells : (w : Which) (reading : Reading) (name : List ℕ) (form : Form) (status : Status) → IsToldFault status
    → RefusesFile w reading name form status → ⊥
file_tells w reading name form (Invalid e) is x = x
file_tells w reading name form (Index e) is x = x
file_tells w reading name form status is x = is

lengths_tell : (a b : ℕ) (status : Status) → IsToldFault status → Differs a b status → ⊥
lengths_tell a b (Mismatch c d) is x = is
lengths_tell a b status is x = x

segments_tell : (w : Option ℕ) (n : ℕ) (status : Status) → IsToldFault status → TooMany w n status → ⊥
segments_tell (Some w) n (Settings v m) is x = is
segments_tell (Some w) n status is x = x
segments_tell None n status is x = x

-- what is refused so shows the fault
index_tells : (c : Collection) (reading : Reading) (name : List ℕ) (status : Status) → IsToldFault status
    → RefusesIndex c reading name status → ShowsIndexFault c reading.held name status
index_tells c reading name (Invalid e) is x = x
index_tells c reading name (Index e) is x = x
index_tells c reading name status is x = absurd is

certificate_tells : (s : Subject) (reading : Reading) (name : List ℕ) (status : Status) → IsToldFault status
    → RefusesCertificate (IsFault s) reading name status → ShowsInvalid (IsFault s) reading.held name status
certificate_tells s reading name (Invalid e) is x = x
certificate_tells s reading name (Index e) is x = x
certificate_tells s reading name status is x = absurd is

-- a saved index or a certificate of which a fault is reported has that fault
pub told_has_fault : (reading : Reading) (plan : Plan) (status : Status) → IsToldFault status
    → Refuses reading plan status → HasFault reading.held plan status
told_has_fault reading (Load w name form then_) status is =
    ⊎_elim (λ x. absurd (file_tells w reading name form status is x))
    (λ x. (x.0, x.1, told_has_fault reading (then_ x.0) status is x.2))
told_has_fault reading (Compare a b then_) status is =
    ⊎_elim (λ x. absurd (lengths_tell a b status is x)) (λ x. (x.0, told_has_fault reading then_ status is x.1))
told_has_fault reading (Divide w n then_) status is =
    ⊎_elim (λ x. absurd (segments_tell w n status is x)) (λ x. (x.0, told_has_fault reading then_ status is x.1))
told_has_fault reading (LoadIndex name c then_) status is =
    ⊎_elim (λ x. inl (index_tells c reading name status is x))
    (λ x. inr (x.0, told_has_fault reading then_ status is x.1))
told_has_fault reading (Check name s then_) status is =
    ⊎_elim (λ x. inl (certificate_tells s reading name status is x))
    (λ x. inr (x.0, told_has_fault reading then_ status is x.1))
told_has_fault reading (Write IsRight) status is = λ x. absurd x
