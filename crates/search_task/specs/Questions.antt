-- What is asked of an index, and what the search for the answer stands on.
use Rattle.std.specs.Prelude.{◌≡◌, ℕ, ◌<◌, ◌≤◌, ℤ, List, length, map, take, FitsSigned}
use Rattle.std.specs.List.{All}
use mir.Syntax.{w16}
use Rattle.series_core.specs.Collection.{Collection, IsCollection}
use Rattle.series_core.specs.Distance.{squared_distance}
use Rattle.series_core.specs.Answer.{last}
use Rattle.series_core.specs.declared.best.TheConstants.{MAX_BEST}
use Rattle.segment_sums.specs.Division.{IsDivision}
use Rattle.isax_word.specs.declared.layout.Layout.{Layout}
use Rattle.lower_bound.specs.Bound.{View, view_of, word_bound}
use Rattle.isax_word.specs.declared.member.Member.{Member}
use Rattle.subtree_build.specs.Fits.{Fits as IndexFits, HasItsWord}
use Rattle.subtree_build.specs.Index.{IndexParts, IsIndex, leaf_at}
use Rattle.subtree_build.specs.Means.{coded_points}
use Rattle.subtree_build.specs.Members.{series_at, numbers_of}
use Rattle.subtree_build.specs.Outline.{leaf_numbers}
use Rattle.subtree_build.specs.Start.{start_leaf_of}
use Rattle.search_machine.specs.Ground.{Ground}

-- a question: the k nearest series of a collection to a query, where words are made by this layout
pub record Question : Type 0 where
  pub collection : Collection
  pub query : List ℤ
  pub k : ℕ
  pub layout : Layout

-- the query as bounds see it
abbrev pub view_in : Question → View
view_in a = view_of a.layout a.query

-- the values of a query that bounds by codes see: those that stand where the codes of a collection's series do
abbrev pub coded_query : Collection → List ℤ → List ℤ
coded_query c query = take (coded_points c) query

-- the distance of the last pair of the answer, or NONE where there are fewer than k series
abbrev pub last_of : Question → ℕ
last_of a = last a.collection a.query a.k

-- from 1 to 1024 pairs are asked for, collection, layout and query are of one length, and the query's values
-- have 16 bits
pub record IsQuestion (a : Question) : Type 0 where
  pub collection : IsCollection a.collection
  pub some_rank : 0 < a.k
  pub few_ranks : a.k ≤ MAX_BEST
  pub cuts : IsDivision a.layout.cuts
  pub points : a.collection.points ≡ a.layout.cuts.row_length
  pub query : length a.query ≡ a.layout.cuts.row_length
  pub values : All (FitsSigned w16) a.query

-- the lower bound of leaf l
abbrev pub leaf_bound : View → IndexParts → ℕ → ℕ
leaf_bound view ix l = word_bound view (leaf_at ix.leaves l).word

-- the numbers of the series that are members of leaf l
abbrev pub leaf_series : IndexParts → ℕ → List ℕ
leaf_series ix l = numbers_of (leaf_at ix.leaves l).members

-- what the search of an index for the answer stands on, by `workers` workers over `queues` queues
abbrev pub search_over : Question → IndexParts → ℕ → ℕ → Ground
search_over a ix workers queues = record {
  distance = λ s. squared_distance (series_at a.collection s) a.query;
  count = length a.collection.series;
  k = a.k;
  leaves = length ix.leaves;
  members = leaf_series ix;
  bound = leaf_bound (view_in a) ix;
  roots = map leaf_numbers ix.nodes;
  start = start_leaf_of (view_in a) ix;
  queues = queues;
  workers = workers;
}

-- the index fits the collection, and can be searched for the answer
pub record CanBeSearched (a : Question) (ix : IndexParts) : Type 0 where
  pub question : IsQuestion a
  pub index : IsIndex ix
  pub fits : IndexFits a.collection a.layout ix

-- a member that is a series of the collection, with the full word of that series
pub record IsMemberOf (a : Question) (m : Member) : Type 0 where
  pub series : m.number < length a.collection.series
  pub word : HasItsWord a.collection a.layout m

-- a question and the index that is searched for it
pub record Searched : Type 0 where
  pub question : Question
  pub index : IndexParts

-- what its search stands on, by one worker over one queue
abbrev pub ground_of : Searched → Ground
ground_of s = search_over s.question s.index 1 1
