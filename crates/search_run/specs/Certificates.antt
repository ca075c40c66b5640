-- A certificate against two series files: when it holds, and why it is refused.
use Rattle.std.specs.Prelude.{◌≡◌, ◌≢◌, ℕ, ◌<◌, ◌≤◌, ⊤, List, length, Option, None, Some, is_some}
use Rattle.outside.specs.Files.{Held}
use Rattle.isax_word.specs.declared.layout.Layout.{Layout}
use Rattle.certificate.specs.Grammar.{Spells, IsFaultAt}
use Rattle.certificate.specs.Verdict.{verdict, HaveAnswers}
use Rattle.certificate.specs.declared.block.Block.{Block}
use Rattle.certificate.specs.declared.error.Reject.{Reject}
use Rattle.certificate.specs.declared.error.Reject.TheVariants as reject
use Rattle.command_words.specs.declared.options.Options.{Options}
use Rattle.series_file.specs.declared.error.Loaded.{Loaded}
use Rattle.search_run.specs.Layouts.{layout_of}
use Rattle.search_run.specs.Loads.{HoldsBytes, RefusesNamed}
use Rattle.search_run.specs.Traffic.{Reading}
use Rattle.search_limits.specs.declared.numbers.TheConstants.{MOST_TEXT_BYTES}
use Rattle.search_run.specs.declared.status.CertFault.{CertFault}
use Rattle.search_run.specs.declared.status.CertFault.TheVariants.{Line, TooLong, Rejected}
use Rattle.search_run.specs.declared.status.Status.{Status}
use Rattle.search_run.specs.declared.status.Status.TheVariants.{Memory, Invalid}
use Rattle.search_run.specs.declared.status.Which.TheVariants.{Certificate}

-- the most bytes that a certificate may have
abbrev pub most_bytes : ℕ
most_bytes = MOST_TEXT_BYTES

-- what a certificate is checked against: the series, the queries, how many answers, and how series become words
pub record Subject : Type 0 where
  pub series : Loaded
  pub queries : Loaded
  pub k : ℕ
  pub layout : Layout

-- the same of two series files, under these options
abbrev pub subject_of : Loaded → Loaded → Options → Subject
subject_of series queries o = record {
  series = series;
  queries = queries;
  k = o.k;
  layout = layout_of series.rows.points o.segments o.table;
}

-- bytes of the grammar spell these blocks: answers have labels exactly where the series have
abbrev pub SpellsBlocks : Subject → List ℕ → List Block → Type 0
SpellsBlocks s bytes blocks = Spells s.layout.cuts.segments (is_some s.series.labels) bytes blocks

-- the first test that these blocks fail
abbrev pub verdict_of : Subject → List Block → Option Reject
verdict_of s blocks = verdict s.series.rows s.series.labels s.queries.rows s.k s.layout blocks

-- The bytes, however many, are in the grammar, with blocks that fail no test. The answers of each block are then those of its
-- query.
pub record IsSound (s : Subject) (bytes : List ℕ) : Type 0 where
  pub blocks : List Block
  pub spelled : SpellsBlocks s bytes blocks
  pub passed : verdict_of s blocks ≡ None
  pub answers : HaveAnswers s.series.rows s.queries.rows s.k blocks

-- they are a certificate that holds: not too long, and sound
pub record IsValid (s : Subject) (bytes : List ℕ) : Type 0 where
  pub short : length bytes ≤ most_bytes
  pub sound : IsSound s bytes

-- why the bytes are none: the first line with which no certificate begins, too many bytes, or the first failing test
abbrev pub IsFault : Subject → CertFault → List ℕ → Type 0
IsFault s (Line at) bytes = (length bytes ≤ most_bytes)
    × IsFaultAt s.layout.cuts.segments (is_some s.series.labels) bytes at
IsFault s TooLong bytes = most_bytes < length bytes
IsFault s (Rejected why) bytes = (length bytes ≤ most_bytes) × (why ≢ reject.NoMemory)
    × ((blocks : List Block) × SpellsBlocks s bytes blocks × (verdict_of s blocks ≡ Some why))

-- the one fault that shows before the bytes are read
abbrev pub IsLong : CertFault → List ℕ → Type 0
IsLong TooLong bytes = most_bytes < length bytes
IsLong _ bytes = ⊥

-- why bytes are refused that may have such faults: each status with what shows it
abbrev pub RefusesBytes : (CertFault → List ℕ → Type 0) → List ℕ → Status → Type 0
RefusesBytes IsFaulty bytes (Invalid fault) = IsFaulty fault bytes
RefusesBytes IsFaulty bytes Memory = ⊤
RefusesBytes IsFaulty bytes _ = ⊥

-- a certificate can have this fault: want of memory is no test that it fails
abbrev pub CanBeFault : CertFault → Type 0
CanBeFault (Rejected why) = why ≢ reject.NoMemory
CanBeFault _ = ⊤

-- the certificate of this name has such a fault, and the status has it
abbrev pub ShowsInvalid : (CertFault → List ℕ → Type 0) → Option Held → List ℕ → Status → Type 0
ShowsInvalid IsFaulty held name (Invalid fault) = CanBeFault fault × HoldsBytes held name (IsFaulty fault)
ShowsInvalid IsFaulty held name _ = ⊥

-- why the certificate of this name is refused, whose bytes may have such faults: each status with what shows it
abbrev pub RefusesCertificate : (CertFault → List ℕ → Type 0) → Reading → List ℕ → Status → Type 0
RefusesCertificate IsFaulty reading name =
    RefusesNamed Certificate (ShowsInvalid IsFaulty reading.held name) reading name
