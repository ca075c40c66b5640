-- Two series files that are read one after the other, before what a command does with them.
use Rattle.std.specs.Prelude.{◌≡◌, ℕ, List, length, Option, IfSome}
use Rattle.outside.specs.Files.{Held}
use Rattle.command_words.specs.declared.options.Options.{Options}
use Rattle.series_file.specs.declared.error.Loaded.{Loaded}
use Rattle.search_run.specs.Commands.{alike_plan, plan_over}
use Rattle.search_run.specs.Loads.{HoldsFile, form_of}
use Rattle.search_run.specs.Plans.{HasSegments, Plan, Write}

-- both files hold what was loaded
pub record HoldBoth (held : Option Held) (series queries : List ℕ) (o : Options) (x y : Loaded) : Type 0 where
  pub first : HoldsFile held series (form_of o.raw) x
  pub second : HoldsFile held queries (form_of o.raw) y

-- both files hold what was loaded, which has one length
pub record Alike (held : Option Held) (series queries : List ℕ) (o : Options) (x y : Loaded) : Type 0 where
  pub hold : HoldBoth held series queries o x y
  pub lengths : x.rows.points ≡ y.rows.points

-- both files hold what was loaded, which has one length with the asked segments
pub record Fit (held : Option Held) (series queries : List ℕ) (o : Options) (x y : Loaded) : Type 0 where
  pub hold : HoldBoth held series queries o x y
  pub lengths : x.rows.points ≡ y.rows.points
  pub segments : HasSegments o.segments x.rows.points

-- the steps that load both files and compare their lengths, and nothing behind them
abbrev pub lengths_plan : List ℕ → List ℕ → Options → Plan
lengths_plan series queries o = alike_plan series queries o (λ x y. Write (λ _. ⊥))

-- the steps that load both files and compare them, and nothing behind them
abbrev pub files_plan : List ℕ → List ℕ → Options → Plan
files_plan series queries o = plan_over series queries o (λ x y. Write (λ _. ⊥))

-- where there are labels, each series has one
abbrev pub HasLabels : Loaded → Type 0
HasLabels loaded = IfSome loaded.labels (λ labels. length labels ≡ length loaded.rows.series)

-- what a certificate can be checked against: one length with the asked segments, and a label for each series, if any
pub record IsFitting (o : Options) (x y : Loaded) : Type 0 where
  pub lengths : x.rows.points ≡ y.rows.points
  pub segments : HasSegments o.segments x.rows.points
  pub labels : HasLabels x
