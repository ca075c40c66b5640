-- Words have the settings that the command named by the first word reads from them, and no others.
use Rattle.std.proofs.Common.{◌≡◌, ◌∙◌, List, [], Some, ap, sym, subst, option_and_then}
use Rattle.std.specs.Prelude.{slice_get}
use Rattle.clap.specs.Words.{Row, Text}
use Rattle.command_words.specs.CommandName.{faults_of, named_by, rows_of_words, text_of}
use Rattle.command_words.specs.Settings.{Fits, HasSettings, name_of}
use Rattle.command_words.specs.declared.command.Command.{Command}
use Rattle.command_words.specs.declared.name.CommandName.{CommandName}
use Rattle.command_words.proofs.Names.{first_is_name, name_is_found}

-- the words have no settings
abbrev pub HasNoSettings : List Text → Type 0
HasNoSettings words = (c : Command) → HasSettings words c → ⊥

module _ (words : List Text) (name : CommandName)
    (found : option_and_then named_by (slice_get words 0) ≡ Some name) where
  -- settings are those of the command that the first word names
  pub same_name : (c : Command) → HasSettings words c → name_of c ≡ name
  same_name c h =
      let other : option_and_then named_by (slice_get words 0) ≡ Some (name_of c) =
      name_is_found _ _ h.named in
      cc

  -- words that the command takes have the settings that its matches have
  pub has_settings : (rows : List Row) (c : Command)
      → faults_of name words ≡ [] → rows ≡ rows_of_words name words
      → (name_of c ≡ name) × Fits rows c → HasSettings words c
  has_settings rows c none same h = record {
    named = first_is_name _ _ found ∙ ap (λ n. Some (text_of n)) (sym h.0);
    taken = ap (λ n. faults_of n words) h.0 ∙ none;
    fits = subst (λ r. Fits r c) (same ∙ ap (λ n. rows_of_words n words) (sym h.0)) h.1;
  }

  -- words that the command refuses have no settings
  pub refused_words : (faults_of name words ≡ [] → ⊥) → HasNoSettings words
  refused_words fault c h = fault (ap (λ n. faults_of n words) (sym (same_name c h)) ∙ h.taken)

  -- words whose matches fit no command of this name have no settings
  pub unfit_rows : (rows : List Row) → rows ≡ rows_of_words name words
      → ((c : Command) → name_of c ≡ name → Fits rows c → ⊥) → HasNoSettings words
  unfit_rows rows same unfit c h =
      let is = same_name c h in
      unfit c is (subst (λ r. Fits r c) (ap (λ n. rows_of_words n words) is ∙ sym same) h.fits)
