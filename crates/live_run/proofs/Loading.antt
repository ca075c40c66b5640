-- A file that was opened and refused by its bytes is held with that fault.
use Rattle.std.proofs.Common.{◌≡◌, ℕ, zero, suc, ◌≤◌, List, length, Option, Some, IfSome, subst, sym, refl, arith, ◌∙◌}
use Rattle.outside.specs.Count.{Rose}
use Rattle.outside.specs.Files.{Held, Opens}
use Rattle.series_file.specs.Faults.{fault}
use Rattle.series_file.specs.Stages.{Explains}
use Rattle.series_file.specs.declared.error.Form.TheVariants.{Headed}
use Rattle.series_file.specs.declared.error.FileError.{FileError}
use Rattle.series_file.specs.declared.error.FileError.TheVariants.{ReadFault as FileReadFault, NoMemory}
use Rattle.live_script.specs.declared.script.NamedFile.{NamedFile}
use Rattle.live_script.specs.Grammar.{IsFault}
use Rattle.live_run.specs.Loads.{IsScriptFault, most_bytes, RefusesFile, RefusesNamed, ShowsFault, refusal_of}
use Rattle.run_traffic.specs.Named.{HoldsBytes}
use Rattle.run_traffic.specs.Traffic.{EndsReading, Reading}
use Rattle.run_traffic.proofs.Named.{absent_wider, blamed_open, failed_wider, held_as, opened_holds}
use Rattle.live_run.specs.declared.status.LiveStatus.{LiveStatus}
use Rattle.live_run.specs.declared.status.LiveStatus.TheVariants.{Missing, ReadFault, Memory}

-- an error of a file that was opened is the cause of its status
pub file_refused : (reading : Reading) (file : NamedFile) (at left : Option (List ℕ))
    (e : FileError) → Opens reading.held file.name at left → Explains Headed left e
    → (e ≡ FileReadFault → Rose reading.faults reading.later × IfSome reading.blamed (λ b. at ≡ Some b))
    → RefusesFile reading file (refusal_of file.line e)
file_refused reading file at left FileReadFault opened x failed =
    let f = failed refl in (refl, (f.0, blamed_open reading.held file.name at left reading.blamed opened f.1))
file_refused reading file at left NoMemory opened x failed = tt
file_refused reading file at left e opened x failed = (
  refl,
  tt,
  opened_holds reading.held file.name at left (λ bytes. fault Headed bytes ≡ Some e) opened x,
)

-- what refuses a name in the last part of a run refuses it in the whole of the run, where its bytes show as much
pub named_wider : (line : ℕ) (whole part : Reading) (name : List ℕ) (P Q : LiveStatus → Type 0) (status : LiveStatus)
    → EndsReading whole part → ((s : LiveStatus) → P s → Q s)
    → RefusesNamed line P part name status → RefusesNamed line Q whole name status
named_wider line whole part name P Q status ends shown = by_status status
  where
    by_status : (status : LiveStatus) → RefusesNamed line P part name status → RefusesNamed line Q whole name status
    by_status (Missing l) x = (x.0, absent_wider whole part name ends x.1)
    by_status (ReadFault l) x = (x.0, failed_wider whole part name ends x.1)
    by_status Memory x = tt
    by_status s x = shown s x

-- a refusal of a series file in the last part of a run is one in the whole of it
pub file_wider : (whole part : Reading) (file : NamedFile) (status : LiveStatus) → EndsReading whole part
    → RefusesFile part file status → RefusesFile whole file status
file_wider whole part file status ends =
    named_wider file.line whole part file.name (ShowsFault file.line part.held file.name)
    (ShowsFault file.line whole.held file.name) status ends
    (λ s x. subst (λ held. ShowsFault file.line held file.name s) ends.held x)

-- the last part of a last part
pub ends_later : (whole part : Reading) (held : Option Held) (faults misses : ℕ) → EndsReading whole part
    → held ≡ part.held → part.faults ≤ faults → part.misses ≤ misses
    → EndsReading whole (record {
      held = held;
      faults = faults;
      later = part.later;
      misses = misses;
      more = part.more;
      blamed = part.blamed;
    })
ends_later whole part held faults misses ends kept counted missed = record {
  held = kept ∙ ends.held;
  faults = omega (arith, ends.faults);
  misses = omega (arith, ends.misses);
  later = ends.later;
  more = ends.more;
  blamed = ends.blamed;
}

-- a whole run is its own last part
pub ends_all : (whole : Reading) → EndsReading whole whole
ends_all whole = record {
  held = refl;
  faults = omega arith;
  misses = omega arith;
  later = refl;
  more = refl;
  blamed = refl;
}

-- bytes that are held and have a first wrong line are no script for it
pub line_fault : (held : Option Held) (name bytes : List ℕ) (at : ℕ) → length bytes ≤ most_bytes
    → HoldsBytes held name (λ b. b ≡ bytes) → IsFault bytes at → HoldsBytes held name (IsScriptFault at)
line_fault held name bytes zero short holds fault = absurd (fault.here fault.before)
line_fault held name bytes (suc n) short holds fault =
    held_as held name (λ b. b ≡ bytes) (IsScriptFault (suc n))
    (λ b e. subst (λ x. (length x ≤ most_bytes) × IsFault x (suc n)) (sym e) (short, fault)) holds
