-- The settings that words have: the command that the first names, and what the words after it say.
use Rattle.std.specs.Prelude.{◌≡◌, ◌*◌, ◌≤◌, ◌&&◌, ◌||◌, ℕ, Bool, false, is_some}
use Rattle.std.specs.Prelude.{List, [], Some, codes, slice_get}
use Rattle.clap.specs.Words.{Row, Text, first_of}
use Rattle.command_words.specs.CommandName.{faults_of, rows_of_words, text_of}
use Rattle.command_words.specs.Options.{HasOptions, is_set, number_at, windows_needed}
use Rattle.command_words.specs.declared.command.Command.{Command}
use Rattle.command_words.specs.declared.command.Command.TheVariants.{Nearest, Range, Verify, Trial}
use Rattle.command_words.specs.declared.command.Command.TheVariants.{Convert, Save}
use Rattle.command_words.specs.declared.command.Command.TheVariants.{Windows, Discord}
use Rattle.command_words.specs.declared.limits.TheConstants.{MOST_QUERIES, MOST_RADIUS}
use Rattle.series_core.specs.declared.best.TheConstants.{MAX_BEST}
use Rattle.series_core.specs.declared.rows.TheConstants.{MAX_COUNT, MAX_LENGTH, MAX_VALUES}
use Rattle.command_words.specs.declared.name.CommandName.{CommandName}
use Rattle.command_words.specs.declared.name.CommandName.TheVariants as name
use Rattle.command_words.specs.declared.options.Options.{Options}

-- the name of a command
abbrev pub name_of : Command → CommandName
name_of (Nearest series queries options) = name.Nearest
name_of (Range series queries radius options) = name.Range
name_of (Verify series queries certificate options) = name.Verify
name_of (Trial seed count length queries options) = name.Trial
name_of (Convert series options) = name.Convert
name_of (Save series options) = name.Save
name_of (Windows series queries step options) = name.Windows
name_of (Discord series options) = name.Discord

-- the options of a command
abbrev pub options_of : Command → Options
options_of (Nearest series queries options) = options
options_of (Range series queries radius options) = options
options_of (Verify series queries certificate options) = options
options_of (Trial seed count length queries options) = options
options_of (Convert series options) = options
options_of (Save series options) = options
options_of (Windows series queries step options) = options
options_of (Discord series options) = options

-- this text stands at the place of this name
abbrev pub HasText : Text → List Row → Text → Type 0
HasText place rows text = first_of place rows ≡ Some text

-- this number stands at the place of this name, well spelled, from `least` to `most`
abbrev pub HasNumber : Text → ℕ → ℕ → List Row → ℕ → Type 0
HasNumber place least most rows n = number_at least most (first_of place rows) ≡ Some n

-- whether an index is named beside an option that a saved index has settled, or `--certificate`
abbrev pub has_stray_option : List Row → Bool
has_stray_option rows = is_some (first_of (codes "index") rows)
    && (is_some (first_of (codes "segments") rows) || (is_some (first_of (codes "leaf") rows)
    || (is_some (first_of (codes "breaks") rows) || is_set (first_of (codes "certificate") rows))))

-- the matches have what stands before the options of the command, and these keep its further rule
abbrev pub HasWords : List Row → Command → Type 0
HasWords rows (Nearest series queries options) = HasText (codes "DATA") rows series
    × HasText (codes "QUERIES") rows queries × (has_stray_option rows ≡ false)
HasWords rows (Range series queries radius options) = HasText (codes "DATA") rows series
    × HasText (codes "QUERIES") rows queries
    × HasNumber (codes "RADIUS") 0 MOST_RADIUS rows radius
HasWords rows (Verify series queries certificate options) = HasText (codes "DATA") rows series
    × HasText (codes "QUERIES") rows queries × HasText (codes "CERTIFICATE") rows certificate
HasWords rows (Trial seed count length queries options) =
    HasNumber (codes "SEED") 0 18446744073709551615 rows seed
    × HasNumber (codes "COUNT") 0 MAX_COUNT rows count
    × HasNumber (codes "LENGTH") 1 MAX_LENGTH rows length
    × HasNumber (codes "QUERIES") 0 MOST_QUERIES rows queries × (count * length ≤ MAX_VALUES)
HasWords rows (Convert series options) = HasText (codes "DATA") rows series
HasWords rows (Save series options) = HasText (codes "DATA") rows series
HasWords rows (Windows series queries step options) = HasText (codes "SERIES") rows series
    × HasText (codes "QUERIES") rows queries
    × HasNumber (codes "STEP") 1 MAX_COUNT rows step × (windows_needed options ≤ MAX_BEST)
HasWords rows (Discord series options) = HasText (codes "DATA") rows series

-- the matches have all that the command holds
pub record Fits (rows : List Row) (command : Command) : Type 0 where
  pub words : HasWords rows command
  pub options : HasOptions rows (options_of command)

-- the matches have all that this command holds, and it has this name
abbrev pub FitsAs : CommandName → List Row → Command → Type 0
FitsAs name rows command = (name_of command ≡ name) × Fits rows command

-- the matches have all that a command of this name holds, for no such command
abbrev pub FitsNone : CommandName → List Row → Type 0
FitsNone name rows = (command : Command) → name_of command ≡ name → Fits rows command → ⊥

-- the words have these settings: the first names the command, `clap` takes those after it by the
-- command's own rules, and its matches have what the command holds
pub record HasSettings (words : List Text) (command : Command) : Type 0 where
  pub named : slice_get words 0 ≡ Some (text_of (name_of command))
  pub taken : faults_of (name_of command) words ≡ []
  pub fits : Fits (rows_of_words (name_of command) words) command
