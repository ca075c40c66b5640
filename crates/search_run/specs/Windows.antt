-- The windows of one long series as a collection, the steps of a search among them, and the choice that its text has.
use Rattle.std.specs.Prelude.{ℕ, ℤ, List, length, Option, None}
use Rattle.outside.specs.Files.{Held}
use Rattle.command_words.specs.declared.options.Options.{Options}
use Rattle.series_core.specs.Answer.{answer}
use Rattle.series_core.specs.Collection.{Collection}
use Rattle.series_core.specs.Flat.{joined}
use Rattle.series_core.specs.declared.pair.Pair.{Pair}
use Rattle.series_file.specs.declared.error.Form.TheVariants.{Raw}
use Rattle.series_file.specs.declared.error.Loaded.{Loaded}
use Rattle.window_rows.specs.Choice.{chosen_apart}
use Rattle.window_rows.specs.Windows.{HasFewValues, collection_of}
use Rattle.search_run.specs.Loads.{HoldsFile, form_of}
use Rattle.search_run.specs.Plans.{Divide, HasSegments, Load, Plan, Write}
use Rattle.search_run.specs.Texts.{AppendsPieces, IsAnswerPiece, IsTextOf}
use Rattle.search_run.specs.declared.status.Which.TheVariants.{Series, Queries}

-- the windows of the values of one file, as long as the queries of another, from every place that `step` divides
abbrev pub windows_in : Loaded → Loaded → ℕ → Collection
windows_in x y step = collection_of (joined x.rows.series) y.rows.points step

-- of all windows, ranked by their distance to the query, those that are chosen so that they lie apart
abbrev pub found_apart : Options → Collection → List ℤ → List Pair
found_apart o c q = chosen_apart o.apart (answer c q (length c.series)) o.k

-- the piece of query i has the windows that are chosen for it
abbrev pub IsChoice : Options → Collection → ℕ → List ℤ → List ℕ → Type 0
IsChoice o c = IsAnswerPiece None (found_apart o c)

-- a text with such a piece for each of these queries was appended
abbrev pub AppendsChoices : Options → Collection → List (List ℤ) → Option (List ℕ) → Option (List ℕ) → Type 0
AppendsChoices o c = AppendsPieces (IsChoice o c)

-- the values of one long series, the queries, and what follows; a window is as long as a query, so no lengths are compared
abbrev pub long_plan : List ℕ → List ℕ → Options → (Loaded → Loaded → Plan) → Plan
long_plan series queries o then_ =
    Load Series series (Raw 1) (λ x. Load Queries queries (form_of o.raw) (λ y.
    Divide o.segments y.rows.points (then_ x y)))

-- the same, and a text with the windows that are chosen for each query
abbrev pub windows_plan : List ℕ → List ℕ → ℕ → Options → Plan
windows_plan series queries step o = long_plan series queries o (λ x y.
    Write (IsTextOf (IsChoice o (windows_in x y step)) y.rows.series))

-- both files hold what was loaded, and a window has the asked segments
pub record FitLong (held : Option Held) (series queries : List ℕ) (o : Options) (x y : Loaded) : Type 0 where
  pub first : HoldsFile held series (Raw 1) x
  pub second : HoldsFile held queries (form_of o.raw) y
  pub segments : HasSegments o.segments y.rows.points

-- the long series is no longer than a collection may have series
abbrev pub HasFew : Loaded → Type 0
HasFew x = HasFewValues (joined x.rows.series)

-- nothing is behind the steps that load both files
abbrev pub nothing_behind : Loaded → Loaded → Plan
nothing_behind x y = Write (λ _. ⊥)
