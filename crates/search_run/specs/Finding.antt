-- The tree that a search goes over, and what the texts of a search are while its calls make them.
use Rattle.std.specs.Prelude.{◌≡◌, ℕ, ℤ, List, take}
use Rattle.command_words.specs.declared.options.Options.{Options}
use Rattle.segment_sums.specs.Division.{IsDivision}
use Rattle.series_core.specs.Collection.{Collection}
use Rattle.series_file.specs.declared.error.Loaded.{Loaded}
use Rattle.subtree_build.specs.Fits.{Fits, IsTreeOf}
use Rattle.subtree_build.specs.Index.{IsIndex}
use Rattle.search_task.specs.Questions.{Question}
use Rattle.search_run.specs.Commands.{plan_over}
use Rattle.search_run.specs.Ends.{ConcludesBy}
use Rattle.search_run.specs.Layouts.{settings_of}
use Rattle.search_run.specs.Pairs.{files_plan}
use Rattle.search_run.specs.Plans.{Plan, Refuses, Write, Writes}
use Rattle.search_run.specs.Texts.{Call, IsMade, IsTextOf}
use Rattle.search_run.specs.Traffic.{Reading, Writing}
use Rattle.search_run.specs.declared.status.Status.{Status}
use Rattle.search_run.specs.declared.tree.Tree.{Tree}
use Rattle.search_run.specs.declared.commands.search.SearchBase.{SearchBase}

-- a tree that a search of the series may go over: its index fits them under its layout, which is for their length
pub record IsTreeFor (c : Collection) (tree : Tree) : Type 0 where
  pub fits : Fits c tree.settings.layout tree.index
  pub length : c.points ≡ tree.settings.layout.cuts.row_length

-- what is asked of a tree: the k nearest series to a query, where words are made by the layout of its settings
abbrev pub asked_of : Collection → List ℤ → ℕ → Tree → Question
asked_of c query k tree = record { collection = c; query = query; k = k; layout = tree.settings.layout }

-- a tree that was built: it is the one that its settings divide the series into
abbrev pub IsBuiltOf : Collection → Tree → Type 0
IsBuiltOf c tree = IsTreeOf c tree.settings.layout tree.settings.leaf_size tree.index

-- what a search under these options goes over: its tree is an index of the series that they may be searched by, the one
-- that the definition divides the series into, with the settings of the options
pub record IsSearchBase (o : Options) (base : SearchBase) : Type 0 where
  pub searched : IsTreeFor base.series.rows base.tree
  pub built : IsBuiltOf base.series.rows base.tree
  pub settings : base.tree.settings ≡ settings_of base.series.rows.points o
  pub index : IsIndex base.tree.index
  pub cuts : IsDivision base.tree.settings.layout.cuts

-- the pieces of a text that such calls made, over these series, for these queries
abbrev pub IsMadeOver : Call SearchBase → Options → Loaded → List (List ℤ) → List ℕ → Type 0
IsMadeOver Gives o series queries text = (base : SearchBase) × IsSearchBase o base × (base.series ≡ series)
    × IsTextOf (IsMade Gives base) queries text

-- a search whose text is made so
abbrev pub made_plan : Call SearchBase → List ℕ → List ℕ → Options → Plan
made_plan Gives series queries o =
    plan_over series queries o (λ x y. Write (IsMadeOver Gives o x y.rows.series))

-- a search that made the pieces of the first queries, however many
abbrev pub begun_plan : Call SearchBase → List ℕ → List ℕ → Options → Plan
begun_plan Gives series queries o = plan_over series queries o
    (λ x y. Write (λ text. (n : ℕ) × IsMadeOver Gives o x (take n y.rows.series) text))

-- how a search over these files ends whose pieces such calls make, and what was written
pub record EndsMaking (Gives : Call SearchBase) (reading : Reading) (writing : Writing) (series queries : List ℕ)
    (o : Options) (status : Status) : Type 0 where
  pub ends : ConcludesBy (Writes reading.held (made_plan Gives series queries o))
      (Writes reading.held (begun_plan Gives series queries o)) (Refuses reading (files_plan series queries o))
      writing status
