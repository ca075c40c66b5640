-- The text of a script: for each query in order the number of series that stood, and the nearest of them.
use Rattle.std.specs.Prelude.{◌≡◌, ℕ, ◌+◌, ◌≤◌, ◌⊎◌, ℤ, List, [], ◌∷◌, ◌++◌, length, map, take, codes, decimal}
use Rattle.std.specs.List.{flat_map}
use Rattle.series_core.specs.Answer.{answer}
use Rattle.series_core.specs.declared.pair.Pair.{Pair}
use Rattle.run_traffic.specs.Lines.{ranked}
use Rattle.live_run.specs.declared.group.Contents.{Contents}
use Rattle.live_run.specs.declared.group.QueryFile.{QueryFile}

-- the line of query i, over `count` series
abbrev pub query_line : ℕ → ℕ → List ℕ
query_line i count = codes "query " ++ decimal i ++ codes " count " ++ decimal count ++ 10 ∷ []

-- the line of the answer of rank r: rank, number and distance
abbrev pub answer_line : ℕ → Pair → List ℕ
answer_line r p = decimal r ++ 32 ∷ decimal p.number ++ 32 ∷ decimal p.distance ++ 10 ∷ []

-- the lines of these answers, the first of them of rank r
abbrev pub answer_lines : ℕ → List Pair → List ℕ
answer_lines r ps = ranked answer_line r ps

-- the text of query i over `count` series, with these answers
abbrev pub query_text : ℕ → ℕ → List Pair → List ℕ
query_text i count pairs = query_line i count ++ answer_lines 1 pairs

-- a query: its values, and how many nearest series it asks for
pub record Query : Type 0 where
  pub values : List ℤ
  pub k : ℕ

-- the queries of a file, in order
abbrev pub file_queries : QueryFile → List Query
file_queries f = map (λ values. record { values = values; k = f.k }) f.queries.series

-- the queries of a group, file after file
abbrev pub queries_of : Contents → List Query
queries_of c = flat_map file_queries c.askings.items

-- the series of all batches, in order
abbrev pub all_series : List Contents → List (List ℤ)
all_series cs = flat_map (λ (c : Contents). c.batch.series) cs

-- the queries of all groups, in order
abbrev pub all_queries : List Contents → List Query
all_queries cs = flat_map queries_of cs

-- What is known of the series while a group is at work: their length, all of them in order, and how many stood before its
-- append and behind it.
pub record Scene : Type 0 where
  pub points : ℕ
  pub series : List (List ℤ)
  pub before : ℕ
  pub after : ℕ

-- the text of a query that is answered over the first m series
abbrev pub first_text : Scene → ℕ → ℕ → Query → List ℕ
first_text s i m q = query_text i m (answer (record { points = s.points; series = take m s.series }) q.values q.k)

-- The text of the queries of a group, the first of which has number i. Each is answered over the first m series, where m
-- stood before the append or behind it, and m never falls: it was `least` before these queries, and is `last` behind them.
abbrev pub IsQueriesText : Scene → ℕ → ℕ → List Query → List ℕ → ℕ → Type 0
IsQueriesText s i least [] text last = (text ≡ []) × (last ≡ least)
IsQueriesText s i least (q ∷ qs) text last = (m : ℕ) × (rest : List ℕ) × ((m ≡ s.before) ⊎ (m ≡ s.after)) × (least ≤ m)
    × IsQueriesText s (i + 1) m qs rest last × (text ≡ first_text s i m q ++ rest)

-- while the group behind these ones is at work
abbrev pub scene : List (List ℤ) → List Contents → Contents → Scene
scene series ahead c = record {
  points = c.batch.points;
  series = series;
  before = length (all_series ahead);
  after = length (all_series ahead) + length c.batch.series;
}

-- The text of groups that stand behind others, over all these series: group after group, with counts that never fall.
abbrev pub IsGroupsText : List (List ℤ) → List Contents → ℕ → List Contents → List ℕ → ℕ → Type 0
IsGroupsText series ahead least [] text last = (text ≡ []) × (last ≡ least)
IsGroupsText series ahead least (c ∷ cs) text last = (piece : List ℕ) × (told : ℕ) × (rest : List ℕ)
    × IsQueriesText (scene series ahead c) (length (all_queries ahead)) least (queries_of c) piece told
    × IsGroupsText series (ahead ++ c ∷ []) told cs rest last × (text ≡ piece ++ rest)

-- the text of a script whose groups have these contents
abbrev pub IsScriptText : List Contents → List ℕ → Type 0
IsScriptText cs text = (last : ℕ) × IsGroupsText (all_series cs) [] 0 cs text last
