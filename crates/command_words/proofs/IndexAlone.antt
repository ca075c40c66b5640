-- Where the settings name an index, what a saved index has settled holds its values for absence.
use Rattle.std.proofs.Common.{◌≡◌, ◌&&◌, ◌||◌, Bool, false, true≢false, List, Option, Some, None}
use Rattle.std.proofs.Common.{refl, codes, subst}
use Rattle.std.specs.Prelude.{IfSome, is_some}
use Rattle.clap.specs.Words.{Row, Text, first_of}
use Rattle.breakpoints.specs.declared.table.Table.TheVariants.{Flat}
use Rattle.command_words.specs.Absence.{HoldsAbsence, IndexStandsAlone}
use Rattle.command_words.specs.Options.{HasOptions, is_set}
use Rattle.command_words.specs.Settings.{Fits, has_stray_option, name_of, options_of}
use Rattle.command_words.specs.declared.command.Command.{Command}
use Rattle.command_words.specs.declared.command.Command.TheVariants.{Nearest, Range, Verify, Trial}
use Rattle.command_words.specs.declared.command.Command.TheVariants.{Convert, Save}
use Rattle.command_words.specs.declared.command.Command.TheVariants.{Windows, Discord}
use Rattle.command_words.specs.declared.options.Options.{Options}
use Rattle.command_words.proofs.Absent.{flat_unnamed, no_number, number_absent}

-- beside an index none of the four was given
none_beside : (index segments leaf breaks : Option Text) (certificate : Bool)
    → (is_some index && (is_some segments || (is_some leaf || (is_some breaks || certificate))))
    ≡ false
    → IfSome index (λ _. (segments ≡ None) × (leaf ≡ None) × (breaks ≡ None)
    × (certificate ≡ false))
none_beside None segments leaf breaks certificate e = tt
none_beside (Some i) None None None certificate e = (refl, refl, refl, e)
none_beside (Some i) None None (Some b) certificate e = absurd (true≢false e)
none_beside (Some i) None (Some l) breaks certificate e = absurd (true≢false e)
none_beside (Some i) (Some s) leaf breaks certificate e = absurd (true≢false e)

-- what a saved index has settled holds its values for absence, and no certificate is asked for
abbrev Settled : Options → Type 0
Settled o = (o.segments ≡ None) × (o.leaf ≡ 1000) × (o.table ≡ Flat) × (o.certificate ≡ false)

-- options without a stray one beside the index hold the values for absence of the four
free_of_stray : (rows : List Row) (o : Options)
    → has_stray_option rows ≡ false → HasOptions rows o → IndexStandsAlone o
free_of_stray rows o free h =
    subst (λ i. IfSome i (λ _. Settled o)) h.index
    (go (first_of (codes "index") rows) (none_beside _ _ _ _ _ free))
  where
    -- the same, with what was given as the index by itself
    go : (index : Option Text)
        → IfSome index (λ _. (first_of (codes "segments") rows ≡ None)
        × (first_of (codes "leaf") rows ≡ None) × (first_of (codes "breaks") rows ≡ None)
        × (is_set (first_of (codes "certificate") rows) ≡ false))
        → IfSome index (λ _. Settled o)
    go None none = tt
    go (Some i) none = (
      no_number 1 16 o.segments _ none.0 h.segments,
      number_absent 1 65535 1000 o.leaf _ none.1 h.leaf,
      flat_unnamed o.table _ none.2 h.table,
      subst (λ b. b ≡ false) h.certificate none.3,
    )

-- options without an index hold whatever they like beside it
no_index : (o : Options) → o.index ≡ None → IndexStandsAlone o
no_index o e = rw e tt

-- the index stands alone in the options of a command that the matches fit
pub index_alone : (rows : List Row) (c : Command) → Fits rows c
    → HoldsAbsence (name_of c) (options_of c) → IndexStandsAlone (options_of c)
index_alone rows (Nearest series queries o) h a = free_of_stray rows o h.words.2 h.options
index_alone rows (Range series queries radius o) h a = no_index o (a.index refl)
index_alone rows (Verify series queries certificate o) h a = no_index o (a.index refl)
index_alone rows (Trial seed count length queries o) h a = no_index o (a.index refl)
index_alone rows (Convert series o) h a = no_index o (a.index refl)
index_alone rows (Save series o) h a = no_index o (a.index refl)
index_alone rows (Windows series queries step o) h a = no_index o (a.index refl)
index_alone rows (Discord series o) h a = no_index o (a.index refl)
