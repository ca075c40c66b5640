-- A text of `nearest` with certificates is sound, and `verify` finds no fault in it (`texts_sound`, `texts_faultless`).
use Rattle.std.proofs.Common.{◌≡◌, ℕ, List, Option, Some, None, true, false, refl, ⊎_elim, sym, ap, ◌∙◌, subst}
use Rattle.std.specs.Prelude.{IfSome}
use Rattle.std.proofs.lemmas.Bool.{false≢true}
use Rattle.std.proofs.lemmas.Option.{same_Some}
use Rattle.outside.specs.Files.{Held}
use Rattle.breakpoints.specs.declared.table.Table.{Table}
use Rattle.breakpoints.specs.declared.table.Table.TheVariants.{Flat}
use Rattle.command_words.specs.Absence.{IndexStandsAlone}
use Rattle.command_words.specs.declared.options.Options.{Options}
use Rattle.series_file.specs.declared.error.Form.{Form}
use Rattle.series_file.specs.declared.error.Loaded.{Loaded}
use Rattle.search_run.specs.Certificates.{IsFault, IsSound, IsValid, ShowsInvalid, Subject, subject_of}
use Rattle.search_run.specs.Commands.{nearest_by, pieces_plan}
use Rattle.search_run.specs.Layouts.{layout_of}
use Rattle.search_run.specs.Loads.{HoldsFile, form_of}
use Rattle.search_run.specs.Nearests.{IsNearestPiece}
use Rattle.search_run.specs.Plans.{Writes}
use Rattle.search_run.specs.Texts.{IsTextOf}
use Rattle.search_run.specs.Verified.{AskAlike, CertifiedTextsAreFaultless, CertifiedTextsAreSound, IsCertifiedText}
use Rattle.search_run.proofs.CertifiedTexts.{text_holds}
use Rattle.search_run.proofs.Held.{one_loaded}
use Rattle.search_run.proofs.OneFault.{holds_without}
use Rattle.search_run.specs.declared.status.Status.{Status}
use Rattle.search_run.specs.declared.status.Status.TheVariants.{Invalid}

-- what is checked is the same
same_subject : (x y : Loaded) (o v : Options) → AskAlike o v → subject_of x y o ≡ subject_of x y v
same_subject x y o v alike =
    ap (λ (n : ℕ). record { series = x; queries = y; k = n; layout = layout_of x.rows.points o.segments o.table }) alike.k
    ∙ ap (λ (s : Option ℕ). record { series = x; queries = y; k = v.k; layout = layout_of x.rows.points s o.table })
    alike.segments
    ∙ ap (λ (t : Table). record { series = x; queries = y; k = v.k; layout = layout_of x.rows.points v.segments t })
    alike.table

-- where certificates are asked for, no index is named
no_index : (o : Options) → IndexStandsAlone o → o.certificate ≡ true → o.index ≡ None
no_index o alone certificate = by_index o.index alone
  where
    by_index : (index : Option (List ℕ)) → IfSome index (λ _. (o.segments ≡ None) × (o.leaf ≡ 1000)
        × (o.table ≡ Flat) × (o.certificate ≡ false)) → index ≡ None
    by_index None x = refl
    by_index (Some name) x = absurd (false≢true (sym x.3 ∙ certificate))

-- so the text is one of pieces over a tree that was built
pieces_written : (held : Option Held) (series queries : List ℕ) (o : Options) (text : List ℕ)
    → IsCertifiedText held series queries o text
    → Writes held (pieces_plan series queries o (IsNearestPiece o.certificate o)) text
pieces_written held series queries o text certified =
    subst (λ (index : Option (List ℕ)). Writes held (nearest_by index series queries o) text)
    (no_index o certified.alone certified.certificate) certified.writes

-- the text is sound, for what its own files hold
sound_for : (held : Option Held) (series queries : List ℕ) (o v : Options) (text : List ℕ)
    → (certified : IsCertifiedText held series queries o text) → AskAlike o v
    → IsSound (subject_of (pieces_written held series queries o text certified).0
    (pieces_written held series queries o text certified).2.0 v) text
sound_for held series queries o v text certified alike =
    let w = pieces_written held series queries o text certified in
    let x = w.0 in
    let y = w.2.0 in
    let last = w.2.2 in
    subst (λ (s : Subject). IsSound s text) (same_subject x y o v alike)
    (text_holds (form_of o.raw) x y o text certified.limits w.1.formed w.2.1.formed last.0 last.1.0
    (subst (λ flag. IsTextOf (IsNearestPiece flag o x) y.rows.series text) certified.certificate last.1.1))

pub texts_sound : CertifiedTextsAreSound
texts_sound held series queries o v text certified alike =
    let w = pieces_written held series queries o text certified in
    let form = ap form_of alike.raw in (
      w.0,
      w.2.0,
      subst (λ (f : Form). HoldsFile held series f w.0) form w.1,
      subst (λ (f : Form). HoldsFile held queries f w.2.0) form w.2.1,
      sound_for held series queries o v text certified alike,
    )

-- a certificate of this name that holds has no fault that is reported
none_told : (h : Held) (name text : List ℕ) (s : Subject) (told : Status) → h name ≡ Some text → IsValid s text
    → ShowsInvalid (IsFault s) (Some h) name told → ⊥
none_told h name text s (Invalid e) named valid found =
    let same : found.1.0 ≡ text = same_Some found.1.0 text (sym found.1.1 ∙ named) in
    holds_without s text e valid (subst (IsFault s e) same found.1.2)
none_told h name text s told named valid found = absurd found

pub texts_faultless : CertifiedTextsAreFaultless
texts_faultless before now series queries rows asked name o v text certified short alike first second named told has =
    ⊎_elim
    (λ (found : ShowsInvalid (IsFault (subject_of has.0 has.2.0 v)) (Some now) name told).
    none_told now name text (subject_of has.0 has.2.0 v) told named (record { short = short; sound = sound }) found)
    (λ none. absurd none.1)
    has.2.2.1.1
  where
    form : Form
    form = form_of v.raw

    ours : (x : Loaded) × (y : Loaded) × HoldsFile (Some before) series form x × HoldsFile (Some before) queries form y
        × IsSound (subject_of x y v) text
    ours = texts_sound (Some before) series queries o v text certified alike

    sound : IsSound (subject_of has.0 has.2.0 v) text
    sound =
        let rows_told = ours.2.told in
        let asked_told = ours.3.told in
        let one = one_loaded (Some now) rows form ours.0 has.0 (rows_told.0, first ∙ rows_told.1, rows_told.2) has.1.told in
        let two = one_loaded (Some now) asked form ours.1 has.2.0 (asked_told.0, second ∙ asked_told.1, asked_told.2)
        has.2.1.told in
        subst (λ (y : Loaded). IsSound (subject_of has.0 y v) text) two
        (subst (λ (x : Loaded). IsSound (subject_of x ours.1 v) text) one ours.4)
