-- What each command does: its steps, and at their end the texts that it may write.
use Rattle.std.specs.Prelude.{◌≡◌, ℕ, ℤ, Bool, true, false, ⊤, List, Option, None, Some, codes}
use Rattle.outside.specs.Files.{Held}
use Rattle.command_words.specs.declared.command.Command.{Command}
use Rattle.command_words.specs.declared.command.Command.TheVariants.{Nearest, Range, Verify, Trial, Convert, Save, Windows, Discord}
use Rattle.command_words.specs.declared.options.Options.{Options}
use Rattle.series_core.specs.Answer.{within}
use Rattle.series_file.specs.declared.error.Loaded.{Loaded}
use Rattle.search_run.specs.Certificates.{subject_of}
use Rattle.discord_query.specs.Discords.{discords}
use Rattle.search_run.specs.Conversions.{converted_text}
use Rattle.search_run.specs.DiscordLines.{discord_lines}
use Rattle.search_run.specs.Indexes.{IsTreeText}
use Rattle.search_run.specs.Layouts.{settings_of}
use Rattle.search_run.specs.Loads.{form_of}
use Rattle.search_run.specs.Nearests.{IsNearestPiece}
use Rattle.search_run.specs.Plans.{CanPass, Plan, Load, Compare, Divide, LoadIndex, Check, Write}
use Rattle.search_run.specs.Texts.{IsAnswerPiece, IsTextOf}
use Rattle.search_run.specs.Trials.{trial_text}
use Rattle.search_run.specs.Windows.{windows_plan}
use Rattle.search_run.specs.declared.commands.one_file.FileText.{FileText}
use Rattle.search_run.specs.declared.commands.one_file.FileText.TheVariants.{Converted, Saved, Discords}
use Rattle.search_run.specs.declared.status.Which.TheVariants.{Series, Queries}

-- where the command would search over queues with locks, it asks for the search over sealed runs, which has none
abbrev pub SearchesWithoutLocks : Command → Type 0
SearchesWithoutLocks (Nearest series queries o) = o.sealed ≡ true
SearchesWithoutLocks (Trial seed count length queries o) = o.sealed ≡ true
SearchesWithoutLocks (Windows series queries step o) = o.sealed ≡ true
SearchesWithoutLocks _ = ⊤

-- a file of series and one of queries in one form, of one length; and what follows
abbrev pub alike_plan : List ℕ → List ℕ → Options → (Loaded → Loaded → Plan) → Plan
alike_plan series queries o then_ =
    Load Series series (form_of o.raw) (λ x. Load Queries queries (form_of o.raw) (λ y.
    Compare x.rows.points y.rows.points (then_ x y)))

-- the same, where that length has the asked segments
abbrev pub plan_over : List ℕ → List ℕ → Options → (Loaded → Loaded → Plan) → Plan
plan_over series queries o then_ =
    alike_plan series queries o (λ x y. Divide o.segments x.rows.points (then_ x y))

-- a text with such a piece for each query
abbrev pub pieces_rest : (Loaded → ℕ → List ℤ → List ℕ → Type 0) → Loaded → Loaded → Plan
pieces_rest IsPiece x y = Write (IsTextOf (IsPiece x) y.rows.series)

-- the same behind both files
abbrev pub pieces_plan : List ℕ → List ℕ → Options → (Loaded → ℕ → List ℤ → List ℕ → Type 0) → Plan
pieces_plan series queries o IsPiece = plan_over series queries o (pieces_rest IsPiece)

-- the k nearest of each query, with certificates or without
abbrev pub pieces_by : Bool → List ℕ → List ℕ → Options → Plan
pieces_by flag series queries o = pieces_plan series queries o (IsNearestPiece flag o)

-- the k nearest of each query, where a saved index stands in place of the settings: it fits the series, whose answers they are
abbrev pub indexed_plan : List ℕ → List ℕ → List ℕ → Options → Plan
indexed_plan index series queries o =
    alike_plan series queries o (λ x y. LoadIndex index x.rows (pieces_rest (IsNearestPiece false o) x y))

-- the same with this index, where one is named; and else with their certificates, where they are asked for
abbrev pub nearest_by : Option (List ℕ) → List ℕ → List ℕ → Options → Plan
nearest_by None series queries o = pieces_by o.certificate series queries o
nearest_by (Some index) series queries o = indexed_plan index series queries o

-- the answers to each query: its k nearest
abbrev pub nearest_plan : List ℕ → List ℕ → Options → Plan
nearest_plan series queries o = nearest_by o.index series queries o

-- all series within a radius of each query
abbrev pub range_plan : List ℕ → List ℕ → ℕ → Options → Plan
range_plan series queries radius o =
    pieces_plan series queries o (λ x. IsAnswerPiece x.labels (λ q. within x.rows q radius))

-- the text that says that a certificate holds
abbrev pub valid_text : List ℕ
valid_text = codes "valid\n"

-- a certificate that holds for what two files hold, and the text that says so
abbrev pub verify_rest : List ℕ → Options → Loaded → Loaded → Plan
verify_rest certificate o x y = Check certificate (subject_of x y o) (Write (λ text. text ≡ valid_text))

-- the same behind both files
abbrev pub verify_plan : List ℕ → List ℕ → List ℕ → Options → Plan
verify_plan series queries certificate o = plan_over series queries o (verify_rest certificate o)

-- walks of a length that has the asked segments, and the text of the trial over them
abbrev pub trial_plan : ℕ → ℕ → ℕ → ℕ → Options → Plan
trial_plan seed count length queries o =
    Divide o.segments length (Write (λ text. text ≡ trial_text seed count length queries o.k))

-- What is written of one file of series: the text of version 2 of what it holds; or, where its series have the asked segments,
-- the text of its tree, or the lines of its k discords.
abbrev pub file_rest : FileText → Options → Loaded → Plan
file_rest Converted o x = Write (λ text. text ≡ converted_text x)
file_rest Saved o x = Divide o.segments x.rows.points (Write (IsTreeText x.rows (settings_of x.rows.points o)))
file_rest Discords o x =
    Divide o.segments x.rows.points (Write (λ text. text ≡ discord_lines 1 (discords x.rows o.k)))

-- one file of series, and what is written of it
abbrev pub file_plan : FileText → List ℕ → Options → Plan
file_plan asked series o = Load Series series (form_of o.raw) (λ x. file_rest asked o x)

-- one file of series, and the text of version 2 of what it holds
abbrev pub convert_plan : List ℕ → Options → Plan
convert_plan series o = file_plan Converted series o

-- one file of series, which has the asked segments, and the text of its tree
abbrev pub save_plan : List ℕ → Options → Plan
save_plan series o = file_plan Saved series o

-- one file of series, which has the asked segments, and the lines of its k discords
abbrev pub discord_plan : List ℕ → Options → Plan
discord_plan series o = file_plan Discords series o

-- what a command does
abbrev pub plan_of : Command → Plan
plan_of (Nearest series queries o) = nearest_plan series queries o
plan_of (Range series queries radius o) = range_plan series queries radius o
plan_of (Verify series queries certificate o) = verify_plan series queries certificate o
plan_of (Trial seed count length queries o) = trial_plan seed count length queries o
plan_of (Convert series o) = convert_plan series o
plan_of (Save series o) = save_plan series o
plan_of (Windows series queries step o) = windows_plan series queries step o
plan_of (Discord series o) = discord_plan series o

-- nothing keeps the command from its work
abbrev pub CanAnswer : Option Held → Command → Type 0
CanAnswer held command = CanPass held (plan_of command)
