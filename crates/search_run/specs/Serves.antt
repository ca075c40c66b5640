-- How work ends that goes by a plan, with all that it did to the files and the sink that it was handed.
use Rattle.std.specs.Prelude.{◌≡◌, ◌≢◌, ℕ, List, Result, Err}
use Rattle.outside.specs.declared.files.Files.{Ghosts as FilesOf}
use Rattle.outside.specs.declared.sink.Sink.{Ghosts as SinkOf}
use Rattle.command_words.specs.declared.options.Options.{Options}
use Rattle.search_run.specs.Ends.{Follows, ended}
use Rattle.search_run.specs.Plans.{Plan}
use Rattle.search_run.specs.Traffic.{read_from, wrote_to}
use Rattle.search_run.specs.declared.input.pair.SearchFiles.{SearchFiles}
use Rattle.search_run.specs.declared.status.Status.{Status}
use Rattle.search_run.specs.declared.status.Status.TheVariants.{ReadFault}
use Rattle.search_run.specs.declared.status.Which.{Which}

-- What the work gave, from files and a sink in the first states and with both left in the second: it goes by the plan, what the
-- files hold stays, and files that never fail give no failed read.
pub record Serves {F S : Type 0} (files : FilesOf F) (sink : SinkOf S) (plan : Plan) (old new : F) (before now : S)
    (given : Result (Unit {0}) Status) : Type 0 where
  pub answers : Follows plan (read_from files old new) (wrote_to sink before now) (ended given)
  pub kept : files.held new ≡ files.held old
  pub reliable : files.reliable old → (w : Which) → given ≢ Err (ReadFault w)

-- the plan of a search over two files, under its options
abbrev pub plan_by : (List ℕ → List ℕ → Options → Plan) → SearchFiles → Plan
plan_by plan s = plan s.series.now s.queries.now s.options.now
