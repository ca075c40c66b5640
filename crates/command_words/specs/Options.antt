-- The options that matches have: each one's limits, and what it is where it was not given.
use Rattle.std.specs.Prelude.{◌≡◌, ◌+◌, ◌-◌, ◌*◌, ℕ, Bool, false, List, Option, Some, None, codes}
use Rattle.std.specs.Prelude.{if◌then◌else◌, option_and_then, option_map}
use Rattle.std.specs.Option.{option_map_or}
use Rattle.std.specs.Str.{bytes_eq}
use Rattle.clap.specs.Words.{Row, Text, first_of, found_of, rows_of}
use Rattle.clap.specs.declared.parser.matches.ArgMatches.{ArgMatches}
use Rattle.breakpoints.specs.declared.table.Table.{Table}
use Rattle.breakpoints.specs.declared.table.Table.TheVariants.{Flat, Bent}
use Rattle.command_words.specs.Number.{number_within}
use Rattle.search_limits.specs.declared.numbers.TheConstants.{MOST_APART, MOST_LEAF, MOST_QUEUES, MOST_SEGMENTS, MOST_WORKERS}
use Rattle.series_core.specs.declared.best.TheConstants.{MAX_BEST}
use Rattle.series_core.specs.declared.rows.TheConstants.{MAX_LENGTH}
use Rattle.command_words.specs.declared.limits.TheConstants.{USUAL_LEAF, USUAL_QUEUES, USUAL_WORKERS}
use Rattle.command_words.specs.declared.options.Options.{Options}

-- what was matched, argument by argument
abbrev pub rows : ArgMatches → List Row
rows m = rows_of (found_of m)

-- the number at a place, where something is there and it is a number within its limits
abbrev pub number_at : ℕ → ℕ → Option Text → Option ℕ
number_at least most given = option_and_then (number_within least most) given

-- the number of an option, or `absent` where it was not given
abbrev pub number_or : ℕ → ℕ → ℕ → Option Text → Option ℕ
number_or least most absent None = Some absent
number_or least most absent (Some text) = number_within least most text

-- the number of an option, or None where it was not given
abbrev pub number_if : ℕ → ℕ → Option Text → Option (Option ℕ)
number_if least most None = Some None
number_if least most (Some text) = option_map (λ n. Some n) (number_within least most text)

-- the table of breakpoints of this name, or the flat one where none was named
abbrev pub table_named : Option Text → Option Table
table_named None = Some Flat
table_named (Some text) =
    if bytes_eq text (codes "flat") then Some Flat
    else (if bytes_eq text (codes "bent") then Some Bent else None)

-- whether a flag was given: it then has the value `true`, and else `false`
abbrev pub is_set : Option Text → Bool
is_set given = option_map_or (λ text. bytes_eq text (codes "true")) given false

-- the matches have these options
pub record HasOptions (rows : List Row) (o : Options) : Type 0 where
  pub k : number_or 1 MAX_BEST 1 (first_of (codes "k") rows) ≡ Some o.k
  pub segments : number_if 1 MOST_SEGMENTS (first_of (codes "segments") rows) ≡ Some o.segments
  pub leaf : number_or 1 MOST_LEAF USUAL_LEAF (first_of (codes "leaf") rows) ≡ Some o.leaf
  pub workers : number_or 1 MOST_WORKERS USUAL_WORKERS (first_of (codes "workers") rows) ≡ Some o.workers
  pub queues : number_or 1 MOST_QUEUES USUAL_QUEUES (first_of (codes "queues") rows) ≡ Some o.queues
  pub table : table_named (first_of (codes "breaks") rows) ≡ Some o.table
  pub raw : number_if 1 MAX_LENGTH (first_of (codes "raw") rows) ≡ Some o.raw
  pub certificate : is_set (first_of (codes "certificate") rows) ≡ o.certificate
  pub sealed : is_set (first_of (codes "sealed") rows) ≡ o.sealed
  pub index : first_of (codes "index") rows ≡ o.index
  pub apart : number_or 1 MOST_APART 1 (first_of (codes "apart") rows) ≡ Some o.apart

-- how many of the nearest windows are needed so that k of them that lie `apart` or more from one
-- another are among them: a chosen window shuts out at most `2 * apart - 1` numbers, with its own
abbrev pub windows_needed : Options → ℕ
windows_needed o = (o.k - 1) * (2 * o.apart - 1) + 1
