-- What `nearest` writes with certificates, and `verify` of it under the same words.
use Rattle.std.specs.Prelude.{◌≡◌, ℕ, ◌≤◌, true, ⊤, List, length, Option, Some}
use Rattle.std.specs.Io.KnownBytes.{append_known}
use Rattle.outside.specs.Files.{Held}
use Rattle.command_words.specs.Absence.{IndexStandsAlone}
use Rattle.command_words.specs.Limits.{OptionsKeepLimits}
use Rattle.command_words.specs.declared.command.Command.{Command}
use Rattle.command_words.specs.declared.command.Command.TheVariants.{Nearest, Verify}
use Rattle.command_words.specs.declared.options.Options.{Options}
use Rattle.series_file.specs.declared.error.Loaded.{Loaded}
use Rattle.search_run.specs.Certificates.{IsSound, most_bytes, subject_of}
use Rattle.search_run.specs.Commands.{nearest_plan}
use Rattle.search_run.specs.Ends.{IsFaultless}
use Rattle.search_run.specs.Loads.{HoldsFile, form_of}
use Rattle.search_run.specs.Plans.{Writes}
use Rattle.search_run.specs.Traffic.{Writing}
use Rattle.search_run.specs.declared.status.Status.{Status}
use Rattle.search_run.specs.declared.status.Status.TheVariants.{Done}

-- both ask the same: as many answers, the same words of series, files of one form
pub record AskAlike (o v : Options) : Type 0 where
  pub k : o.k ≡ v.k
  pub segments : o.segments ≡ v.segments
  pub table : o.table ≡ v.table
  pub raw : o.raw ≡ v.raw

-- this is a text of `nearest` with certificates
pub record IsCertifiedText (held : Option Held) (series queries : List ℕ) (o : Options) (text : List ℕ) : Type 0 where
  pub limits : OptionsKeepLimits o
  pub alone : IndexStandsAlone o
  pub certificate : o.certificate ≡ true
  pub writes : Writes held (nearest_plan series queries o) text

-- such a text, however long, is sound for the two files
abbrev pub CertifiedTextsAreSound : Type 0
CertifiedTextsAreSound = (held : Option Held) (series queries : List ℕ) (o v : Options) (text : List ℕ)
    → IsCertifiedText held series queries o text → AskAlike o v
    → (x : Loaded) × (y : Loaded) × HoldsFile held series (form_of v.raw) x × HoldsFile held queries (form_of v.raw) y
    × IsSound (subject_of x y v) text

-- And where it has at most as many bytes as a certificate may have, `verify` finds no fault in it: in any files, of which one name
-- holds what the series' file held, one what the queries' file held, and one the text.
abbrev pub CertifiedTextsAreFaultless : Type 0
CertifiedTextsAreFaultless = (before now : Held) (series queries rows asked name : List ℕ) (o v : Options) (text : List ℕ)
    → IsCertifiedText (Some before) series queries o text → length text ≤ most_bytes → AskAlike o v
    → now rows ≡ before series → now asked ≡ before queries → now name ≡ Some text
    → IsFaultless (Some now) (Verify rows asked name v)

-- the text is sound for what the two files hold
abbrev pub IsSoundForFiles : Option Held → List ℕ → List ℕ → Options → List ℕ → Type 0
IsSoundForFiles held series queries o text =
    (x : Loaded) × (y : Loaded) × HoldsFile held series (form_of o.raw) x × HoldsFile held queries (form_of o.raw) y
    × IsSound (subject_of x y o) text

-- Where a search for the nearest with certificates ended well, what was written is in the grammar of certificates and fails no test,
-- for its files and under its own options: the same number of answers, the same segments and the same table.
abbrev pub Certifies : Option Held → Command → Writing → Status → Type 0
Certifies held (Nearest series queries o) writing Done = o.certificate ≡ true
    → (text : List ℕ) × (writing.now ≡ append_known writing.before text) × IsSoundForFiles held series queries o text
Certifies held command writing status = ⊤
