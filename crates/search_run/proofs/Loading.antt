-- A file that was opened and refused by its bytes is held with that fault.
use Rattle.std.proofs.Common.{◌≡◌, ℕ, ◌≤◌, List, Option, None, Some, IfSome, subst, refl}
use Rattle.outside.specs.Count.{Rose}
use Rattle.outside.specs.Files.{Opens}
use Rattle.series_file.specs.Faults.{fault}
use Rattle.series_file.specs.Stages.{Explains}
use Rattle.series_file.specs.declared.error.Form.{Form}
use Rattle.series_file.specs.declared.error.FileError.{FileError}
use Rattle.series_file.specs.declared.error.FileError.TheVariants.{ReadFault as FileReadFault, NoMemory}
use Rattle.saved_index.specs.Faults.{index_fault}
use Rattle.saved_index.specs.Loading.{Explains as ExplainsIndex, IsTextFor}
use Rattle.saved_index.specs.declared.loading.LoadedIndex.{LoadedIndex}
use Rattle.saved_index.specs.declared.error.IndexFault.{IndexFault}
use Rattle.saved_index.specs.declared.error.IndexFault.TheVariants as index
use Rattle.series_core.specs.Collection.{Collection}
use Rattle.search_run.specs.Certificates.{RefusesCertificate, ShowsInvalid}
use Rattle.search_run.specs.Indexes.{IsFitIndex, RefusesIndex, ShowsIndexFault, index_refusal}
use Rattle.search_run.specs.Loads.{RefusesFile, RefusesNamed, ShowsFault, refusal_of}
use Rattle.run_traffic.specs.Traffic.{EndsReading, Reading}
use Rattle.run_traffic.proofs.Named.{absent_wider, blamed_open, failed_wider, opened_holds}
use Rattle.search_run.specs.declared.status.CertFault.{CertFault}
use Rattle.search_run.specs.declared.status.Which.{Which}
use Rattle.search_run.specs.declared.status.Which.TheVariants.{Certificate, Index as IndexFile}
use Rattle.search_run.specs.declared.status.Status.{Status}
use Rattle.search_run.specs.declared.status.Status.TheVariants.{Missing, ReadFault, Memory}

-- an error of a file that was opened is the cause of its status
pub file_refused : (w : Which) (reading : Reading) (name : List ℕ) (at left : Option (List ℕ)) (form : Form)
    (e : FileError) → Opens reading.held name at left → Explains form left e
    → (e ≡ FileReadFault → Rose reading.faults reading.later × IfSome reading.blamed (λ b. at ≡ Some b))
    → RefusesFile w reading name form (refusal_of w e)
file_refused w reading name at left form FileReadFault opened x failed =
    let f = failed refl in (refl, (f.0, blamed_open reading.held name at left reading.blamed opened f.1))
file_refused w reading name at left form NoMemory opened x failed = tt
file_refused w reading name at left form e opened x failed = (
  refl,
  tt,
  opened_holds reading.held name at left (λ bytes. fault form bytes ≡ Some e) opened x,
)

-- a refusal of a saved index that was opened is the cause of its status
pub index_refused : (c : Collection) (reading : Reading) (name : List ℕ) (at left : Option (List ℕ)) (e : IndexFault)
    → Opens reading.held name at left → ExplainsIndex c left e
    → (e ≡ index.ReadFault → Rose reading.faults reading.later × IfSome reading.blamed (λ b. at ≡ Some b))
    → RefusesIndex c reading name (index_refusal e)
index_refused c reading name at left index.ReadFault opened x failed =
    let f = failed refl in (refl, (f.0, blamed_open reading.held name at left reading.blamed opened f.1))
index_refused c reading name at left index.NoMemory opened x failed = tt
index_refused c reading name at left e opened x failed =
    (tt, opened_holds reading.held name at left (λ bytes. index_fault bytes c ≡ Some e) opened x)

-- the bytes of what was loaded have no fault
pub fit_told : (c : Collection) (loaded : LoadedIndex) (left : Option (List ℕ)) → IfSome left (IsTextFor c loaded)
    → IfSome left (IsFitIndex c)
fit_told c loaded None x = tt
fit_told c loaded (Some bytes) x = x.no_fault

-- what refuses a name refuses it also where its bytes may show more, and in the whole of a run of which this is a part
pub named_wider : (w : Which) (whole part : Reading) (name : List ℕ) (P Q : Status → Type 0) (status : Status)
    → part.held ≡ whole.held → whole.faults ≤ part.faults → whole.misses ≤ part.misses
    → part.later ≡ whole.later → part.more ≡ whole.more → part.blamed ≡ whole.blamed
    → ((s : Status) → P s → Q s) → RefusesNamed w P part name status → RefusesNamed w Q whole name status
named_wider w whole part name P Q status kept less fewer later more blames shown = by_status status
  where
    ends : EndsReading whole part
    ends = record { held = kept; faults = less; misses = fewer; later = later; more = more; blamed = blames }

    by_status : (status : Status) → RefusesNamed w P part name status → RefusesNamed w Q whole name status
    by_status (Missing v) x = (x.0, absent_wider whole part name ends x.1)
    by_status (ReadFault v) x = (x.0, failed_wider whole part name ends x.1)
    by_status Memory x = tt
    by_status s x = shown s x

-- a refusal of a series file in a part of a run is one in the whole of it
pub file_wider : (w : Which) (whole part : Reading) (name : List ℕ) (form : Form) (status : Status)
    → part.held ≡ whole.held → whole.faults ≤ part.faults → whole.misses ≤ part.misses
    → part.later ≡ whole.later → part.more ≡ whole.more → part.blamed ≡ whole.blamed
    → RefusesFile w part name form status → RefusesFile w whole name form status
file_wider w whole part name form status kept less fewer later more blames =
    named_wider w whole part name (ShowsFault w part.held name form) (ShowsFault w whole.held name form) status
    kept less fewer later more blames (λ s x. subst (λ held. ShowsFault w held name form s) kept x)

-- so is a refusal of a certificate
pub certificate_wider : (whole part : Reading) (IsFaulty : CertFault → List ℕ → Type 0) (name : List ℕ)
    (status : Status) → part.held ≡ whole.held → whole.faults ≤ part.faults → whole.misses ≤ part.misses
    → part.later ≡ whole.later → part.more ≡ whole.more → part.blamed ≡ whole.blamed
    → RefusesCertificate IsFaulty part name status → RefusesCertificate IsFaulty whole name status
certificate_wider whole part IsFaulty name status kept less fewer later more blames =
    named_wider Certificate whole part name (ShowsInvalid IsFaulty part.held name)
    (ShowsInvalid IsFaulty whole.held name) status
    kept less fewer later more blames (λ s x. subst (λ held. ShowsInvalid IsFaulty held name s) kept x)

-- and so is a refusal of a saved index
pub index_wider : (whole part : Reading) (c : Collection) (name : List ℕ) (status : Status)
    → part.held ≡ whole.held → whole.faults ≤ part.faults → whole.misses ≤ part.misses
    → part.later ≡ whole.later → part.more ≡ whole.more → part.blamed ≡ whole.blamed
    → RefusesIndex c part name status → RefusesIndex c whole name status
index_wider whole part c name status kept less fewer later more blames =
    named_wider IndexFile whole part name (ShowsIndexFault c part.held name) (ShowsIndexFault c whole.held name) status
    kept less fewer later more blames (λ s x. subst (λ held. ShowsIndexFault c held name s) kept x)

-- so are they where the name was lent
pub lent_certificate_wider : (whole part : Reading) (IsFaulty : CertFault → List ℕ → Type 0) (lent name : List ℕ)
    (status : Status) → RefusesCertificate IsFaulty part lent status → lent ≡ name
    → part.held ≡ whole.held → whole.faults ≤ part.faults → whole.misses ≤ part.misses
    → part.later ≡ whole.later → part.more ≡ whole.more → part.blamed ≡ whole.blamed
    → RefusesCertificate IsFaulty whole name status
lent_certificate_wider whole part IsFaulty lent name status refused same kept less fewer later more blames =
    subst (λ n. RefusesCertificate IsFaulty whole n status) same
    (certificate_wider whole part IsFaulty lent status kept less fewer later more blames refused)

pub lent_index_wider : (whole part : Reading) (c : Collection) (lent name : List ℕ) (status : Status)
    → RefusesIndex c part lent status → lent ≡ name
    → part.held ≡ whole.held → whole.faults ≤ part.faults → whole.misses ≤ part.misses
    → part.later ≡ whole.later → part.more ≡ whole.more → part.blamed ≡ whole.blamed → RefusesIndex c whole name status
lent_index_wider whole part c lent name status refused same kept less fewer later more blames =
    subst (λ n. RefusesIndex c whole n status) same
    (index_wider whole part c lent status kept less fewer later more blames refused)

-- and of a series file, where its form is computed too
pub lent_file_wider : (w : Which) (whole part : Reading) (lent name : List ℕ) (made form : Form) (status : Status)
    → RefusesFile w part lent made status → lent ≡ name → made ≡ form
    → part.held ≡ whole.held → whole.faults ≤ part.faults → whole.misses ≤ part.misses
    → part.later ≡ whole.later → part.more ≡ whole.more → part.blamed ≡ whole.blamed → RefusesFile w whole name form status
lent_file_wider w whole part lent name made form status refused same formed kept less fewer later more blames =
    subst (λ f. RefusesFile w whole name f status) formed
    (subst (λ n. RefusesFile w whole n made status) same
    (file_wider w whole part lent made status kept less fewer later more blames refused))
