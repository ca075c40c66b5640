-- Blocks that certify the answers to queries.
use Rattle.std.specs.Prelude.{◌≡◌, ℕ, ◌^◌, ◌<◌, ◌≤◌, ℤ, ⊤, List, [], ◌∷◌, length, map, Option, None, Some, IfSome, slice_index}
use Rattle.std.specs.List.{All}
use Rattle.series_core.specs.Answer.{answer}
use Rattle.series_core.specs.Collection.{Collection, IsCollection}
use Rattle.series_core.specs.declared.pair.Pair.{Pair}
use Rattle.segment_sums.specs.Division.{IsDivision}
use Rattle.isax_word.specs.declared.layout.Layout.{Layout}
use Rattle.search_task.specs.Questions.{Question}
use Rattle.certificate.specs.declared.block.Block.{Block}
use Rattle.certificate.specs.Printed.{Certifies, search_in}
use Rattle.series_core.specs.declared.best.TheConstants.{MAX_BEST}

-- what is asked: the k nearest of these series, which may have labels, to each of these queries, with words by this layout
pub record Asked : Type 0 where
  pub rows : Collection
  pub labels : Option (List ℕ)
  pub queries : Collection
  pub k : ℕ
  pub layout : Layout

-- the limits are kept: series and queries of the layout's length, a label a series where there are any
pub record IsAsked (x : Asked) : Type 0 where
  pub rows : IsCollection x.rows
  pub queries : IsCollection x.queries
  pub some_rank : 0 < x.k
  pub few_ranks : x.k ≤ MAX_BEST
  pub cuts : IsDivision x.layout.cuts
  pub row_length : x.rows.points ≡ x.layout.cuts.row_length
  pub query_length : x.queries.points ≡ x.layout.cuts.row_length
  pub label_each : IfSome x.labels (λ ls. length ls ≡ length x.rows.series)
  pub label_fits : IfSome x.labels (All (λ l. l < 2 ^ 64))

-- the question of one query
abbrev pub question_in : Asked → List ℤ → Question
question_in x query = record { collection = x.rows; query = query; k = x.k; layout = x.layout }

-- the labels of these pairs' series where there are labels, and else none
abbrev pub labels_of : Option (List ℕ) → List Pair → List ℕ
labels_of None ps = []
labels_of (Some labels) ps = map (λ p. slice_index labels p.number) ps

-- a block has the answers to a query, with their labels, and certifies them
pub record CertifiesQuery (x : Asked) (leaf_size queues : ℕ) (query : List ℤ) (b : Block) : Type 0 where
  pub answers : b.answers ≡ answer x.rows query x.k
  pub labels : b.labels ≡ labels_of x.labels b.answers
  pub search : Certifies (question_in x query) leaf_size queues (search_in b)

-- there is such a block for each query, in order
abbrev pub CertifyQueries : Asked → ℕ → ℕ → List (List ℤ) → List Block → Type 0
CertifyQueries x leaf_size queues [] [] = ⊤
CertifyQueries x leaf_size queues [] (b ∷ blocks) = ⊥
CertifyQueries x leaf_size queues (q ∷ qs) [] = ⊥
CertifyQueries x leaf_size queues (q ∷ qs) (b ∷ blocks) =
    CertifiesQuery x leaf_size queues q b × CertifyQueries x leaf_size queues qs blocks
