-- The limits of what a command holds.
use Rattle.std.specs.Prelude.{◌*◌, ◌≤◌, IfSome, ℕ}
use Rattle.command_words.specs.Options.{windows_needed}
use Rattle.command_words.specs.Settings.{options_of}
use Rattle.command_words.specs.declared.command.Command.{Command}
use Rattle.command_words.specs.declared.command.Command.TheVariants.{Range, Trial}
use Rattle.command_words.specs.declared.command.Command.TheVariants.{Windows}
use Rattle.command_words.specs.declared.limits.TheConstants.{MOST_QUERIES, MOST_RADIUS}
use Rattle.search_limits.specs.declared.numbers.TheConstants.{MOST_APART, MOST_LEAF, MOST_QUEUES, MOST_SEGMENTS, MOST_WORKERS}
use Rattle.series_core.specs.declared.best.TheConstants.{MAX_BEST}
use Rattle.series_core.specs.declared.rows.TheConstants.{MAX_COUNT, MAX_LENGTH, MAX_VALUES}
use Rattle.command_words.specs.declared.options.Options.{Options}

-- the number lies from `least` to `most`
abbrev pub IsWithin : ℕ → ℕ → ℕ → Type 0
IsWithin least most n = (least ≤ n) × (n ≤ most)

-- each option is within its limits
pub record OptionsKeepLimits (o : Options) : Type 0 where
  pub k : IsWithin 1 MAX_BEST o.k
  pub segments : IfSome o.segments (IsWithin 1 MOST_SEGMENTS)
  pub leaf : IsWithin 1 MOST_LEAF o.leaf
  pub workers : IsWithin 1 MOST_WORKERS o.workers
  pub queues : IsWithin 1 MOST_QUEUES o.queues
  pub raw : IfSome o.raw (IsWithin 1 MAX_LENGTH)
  pub apart : IsWithin 1 MOST_APART o.apart

-- each number before the options is within its limits, and so is what the command asks for in all
abbrev pub WordsKeepLimits : Command → Type 0
WordsKeepLimits (Range series queries radius o) = radius ≤ MOST_RADIUS
WordsKeepLimits (Trial seed count length queries o) = (count ≤ MAX_COUNT)
    × IsWithin 1 MAX_LENGTH length × (queries ≤ MOST_QUERIES) × (count * length ≤ MAX_VALUES)
WordsKeepLimits (Windows series queries step o) =
    IsWithin 1 MAX_COUNT step × (windows_needed o ≤ MAX_BEST)
WordsKeepLimits _ = Unit {0}

-- all that the command holds is within its limits
pub record KeepsLimits (command : Command) : Type 0 where
  pub words : WordsKeepLimits command
  pub options : OptionsKeepLimits (options_of command)
