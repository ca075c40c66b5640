-- The pieces of `nearest`: the answers to a query, and where a certificate is asked for the lines that certify them.
use Rattle.std.specs.Prelude.{◌≡◌, ℕ, ℤ, Bool, true, false, List, ◌++◌}
use Rattle.command_words.specs.declared.options.Options.{Options}
use Rattle.series_core.specs.Answer.{answer}
use Rattle.series_file.specs.declared.error.Loaded.{Loaded}
use Rattle.search_task.specs.Questions.{Question}
use Rattle.certificate.specs.Printed.{IsCertificate}
use Rattle.search_run.specs.Layouts.{layout_of}
use Rattle.search_run.specs.Texts.{IsAnswerPiece, query_text}

-- what is asked of series for a query, under these options
abbrev pub question_of : Loaded → Options → List ℤ → Question
question_of x o query = record {
  collection = x.rows;
  query = query;
  k = o.k;
  layout = layout_of x.rows.points o.segments o.table;
}

-- the piece of query i has its answers, and behind them lines that certify them, over the asked queues and a tree with
-- leaves of the asked size
abbrev pub IsCertifiedPiece : Options → Loaded → ℕ → List ℤ → List ℕ → Type 0
IsCertifiedPiece o x i query piece = (lines : List ℕ) × IsCertificate (question_of x o query) o.leaf o.queues lines
    × (piece ≡ query_text x.labels i (answer x.rows query o.k) ++ lines)

-- the piece of query i, with a certificate or without
abbrev pub IsNearestPiece : Bool → Options → Loaded → ℕ → List ℤ → List ℕ → Type 0
IsNearestPiece false o x = IsAnswerPiece x.labels (λ q. answer x.rows q o.k)
IsNearestPiece true o x = IsCertifiedPiece o x
