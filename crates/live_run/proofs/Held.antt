-- Where the files' contents are known, a named file holds one thing, and what is held is not refused.
use Rattle.std.proofs.Common.{◌≡◌, ℕ, List, Option, None, Some, IfSome, inl, inr, sym, ◌∙◌, subst}
use Rattle.std.specs.Prelude.{IsSomeAnd, ⊤}
use Rattle.std.proofs.lemmas.Option.{none-some, same_Some}
use Rattle.outside.specs.Count.{Rose}
use Rattle.outside.specs.Files.{Held}
use Rattle.series_core.specs.Collection.{Collection}
use Rattle.series_file.specs.Faults.{fault}
use Rattle.series_file.specs.declared.error.Form.TheVariants.{Headed}
use Rattle.series_file.proofs.Passing.{no_fault}
use Rattle.series_file.proofs.Unique.{one_collection}
use Rattle.live_script.specs.declared.script.NamedFile.{NamedFile}
use Rattle.live_run.specs.Loads.{Differs, FitsLength, HoldsFile, RefusesFitting, Spells}
use Rattle.run_traffic.specs.Named.{HoldsBytes}
use Rattle.run_traffic.specs.Traffic.{Reading}
use Rattle.live_run.specs.declared.status.LiveStatus.{LiveStatus}
use Rattle.live_run.specs.declared.status.LiveStatus.TheVariants.{Done, Usage, Missing, ReadFault, Format, Mismatch, WriteFault, Memory, Script, Full}

-- the files' contents are known
abbrev pub IsTold : Option Held → Type 0
IsTold held = IsSomeAnd held (λ _. ⊤)

-- a status that needs no cause in the files: reading failed and was counted, or memory ran out
abbrev pub IsExcused : Reading → LiveStatus → Type 0
IsExcused reading (ReadFault line) = Rose reading.faults reading.later
IsExcused reading Memory = ⊤
IsExcused reading _ = ⊥

-- what is so of the bytes of a name is so of the same bytes
pub both_bytes : (held : Option Held) (name : List ℕ) (P Q : List ℕ → Type 0) → IsTold held
    → HoldsBytes held name P → HoldsBytes held name Q → (bytes : List ℕ) × P bytes × Q bytes
both_bytes None name P Q told p q = absurd told
both_bytes (Some h) name P Q told p q = (p.0, p.2, subst Q (same_Some q.0 p.0 (sym q.1 ∙ p.1)) q.2)

-- a name that is held is not absent
pub not_absent : (held : Option Held) (name : List ℕ) (P : List ℕ → Type 0) → IsTold held
    → HoldsBytes held name P → IfSome held (λ h. h name ≡ None) → ⊥
not_absent None name P told p absent = absurd told
not_absent (Some h) name P told p absent = none-some p.0 (sym absent ∙ p.1)

-- a file holds one collection
pub one_file : (held : Option Held) (name : List ℕ) (rows others : Collection) → IsTold held
    → HoldsFile held name rows → HoldsFile held name others → rows ≡ others
one_file held name rows others told first second =
    let both = both_bytes held name (Spells rows) (Spells others) told first second in
    (one_collection Headed both.0 rows others both.1.0 both.2.0 both.1.1 both.2.1).0

-- a file that holds a collection of the wanted length is refused by a failed read or want of memory alone
pub file_excused : (reading : Reading) (want : Option ℕ) (file : NamedFile) (rows : Collection) (status : LiveStatus)
    → IsTold reading.held → HoldsFile reading.held file.name rows → FitsLength want rows.points
    → RefusesFitting reading want file status → IsExcused reading status
file_excused reading want file rows (Missing l) told holds fits (inl x) =
    absurd (not_absent reading.held file.name (Spells rows) told holds x.1.1)
file_excused reading want file rows (ReadFault l) told holds fits (inl x) = x.1.0
file_excused reading want file rows Memory told holds fits x = tt
file_excused reading want file rows (Format l e) told holds fits (inl x) =
    let both = both_bytes reading.held file.name (Spells rows) (λ bytes. fault Headed bytes ≡ Some e) told holds x.2 in
    absurd (none-some e (sym (no_fault Headed both.0 rows both.1.0 both.1.1) ∙ both.2))
file_excused reading want file rows Done told holds fits (inl x) = absurd x
file_excused reading want file rows Usage told holds fits (inl x) = absurd x
file_excused reading want file rows (Mismatch l a b) told holds fits (inl x) = absurd x
file_excused reading want file rows WriteFault told holds fits (inl x) = absurd x
file_excused reading want file rows (Script at) told holds fits (inl x) = absurd x
file_excused reading want file rows (Full b t) told holds fits (inl x) = absurd x
file_excused reading want file rows status told holds fits (inr (others, have, differs)) =
    absurd (by_want want status fits
    (subst (λ (c : Collection). Differs file.line want c.points status) (one_file reading.held file.name others rows told have holds) differs))
  where
    by_want : (want : Option ℕ) (status : LiveStatus) → FitsLength want rows.points
        → Differs file.line want rows.points status → ⊥
    by_want None status fits x = x
    by_want (Some w) (Mismatch l a b) fits x = x.3 fits
    by_want (Some w) Done fits x = x
    by_want (Some w) Usage fits x = x
    by_want (Some w) (Missing l) fits x = x
    by_want (Some w) (ReadFault l) fits x = x
    by_want (Some w) (Format l e) fits x = x
    by_want (Some w) WriteFault fits x = x
    by_want (Some w) Memory fits x = x
    by_want (Some w) (Script at) fits x = x
    by_want (Some w) (Full b t) fits x = x
