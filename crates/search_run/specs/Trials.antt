-- A trial: a search over random walks that are all made from one number, and the four lines that sum it up.
use Rattle.std.specs.Prelude.{ℕ, ◌*◌, ◌≤◌, ℤ, List, [], ◌∷◌, ◌++◌, codes, decimal, length, map}
use Rattle.command_words.specs.declared.limits.TheConstants.{MOST_QUERIES}
use Rattle.series_core.specs.declared.rows.TheConstants.{MAX_COUNT, MAX_LENGTH, MAX_VALUES}
use Rattle.list_totals.specs.Totals.{total}
use Rattle.series_core.specs.Answer.{answer}
use Rattle.series_core.specs.Collection.{Collection}
use Rattle.series_core.specs.declared.pair.Pair.{Pair}
use Rattle.random_walks.specs.Walks.{state_at, walks_from}
use Rattle.search_run.specs.declared.output.summary.Summary.{Summary}

-- the series of a trial: `count` walks of n values, drawn from the generator that stands at the seed
abbrev pub trial_series : ℕ → ℕ → ℕ → Collection
trial_series seed count n = walks_from n seed count

-- the queries of a trial: `queries` walks, drawn behind the series from the same stream
abbrev pub trial_queries : ℕ → ℕ → ℕ → ℕ → Collection
trial_queries seed count n queries = walks_from n (state_at seed (count * n)) queries

-- the answers to these queries
abbrev pub answers_of : Collection → ℕ → List (List ℤ) → List (List Pair)
answers_of series k queries = map (λ q. answer series q k) queries

-- the sum of a number of each pair over all answers
abbrev pub sum_over : (Pair → ℕ) → List (List Pair) → ℕ
sum_over f answers = total (λ pairs. total f pairs) answers

-- how many answers there are, and the sums of their distances and of their numbers
abbrev pub summed : List (List Pair) → Summary
summed answers = record {
  answers = total (λ pairs. length pairs) answers;
  distances = sum_over (λ p. p.distance) answers;
  numbers = sum_over (λ p. p.number) answers;
}

-- text and a number behind it
abbrev pub counted : List ℕ → ℕ → List ℕ
counted text n = text ++ decimal n

-- the four lines
abbrev pub summary_lines : ℕ → ℕ → ℕ → ℕ → Summary → List ℕ
summary_lines count n queries k s =
    counted (codes "series ") count ++ counted (codes " length ") n
    ++ counted (codes " queries ") queries ++ counted (codes " k ") k
    ++ counted (codes "\nanswers ") s.answers ++ counted (codes "\ntotal ") s.distances
    ++ counted (codes "\nnumbers ") s.numbers ++ 10 ∷ []

-- the text of a trial
abbrev pub trial_text : ℕ → ℕ → ℕ → ℕ → ℕ → List ℕ
trial_text seed count n queries k =
    summary_lines count n queries k
    (summed (answers_of (trial_series seed count n) k (trial_queries seed count n queries).series))

-- the numbers of a trial are within their limits
pub record KeepsTrialLimits (count n queries : ℕ) : Type 0 where
  pub count_limit : count ≤ MAX_COUNT
  pub some_point : 1 ≤ n
  pub length_limit : n ≤ MAX_LENGTH
  pub queries_limit : queries ≤ MOST_QUERIES
  pub values_limit : count * n ≤ MAX_VALUES
