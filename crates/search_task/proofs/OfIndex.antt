-- An index that can be searched for a question is all that a search stands on (`search_fits`), and the search
-- measures the collection's series (`search_measures`).
use Rattle.std.proofs.Common.{◌≡◌, ℕ, ◌<◌, ◌≤◌, ℤ, List, [], length, refl, sym, ap, ◌∙◌, subst, arith}
use Rattle.std.specs.Prelude.{slice_index_or}
use Rattle.std.proofs.lemmas.List.{length-map, get_or-map}
use Rattle.std.proofs.lemmas.Option.{get_or_from_slice_get}
use Rattle.list_totals.specs.Totals.{times}
use Rattle.list_totals.proofs.Places.{times_contains}
use Rattle.list_totals.proofs.Totals.{once_below_yes, once_below_low, once_below_most}
use Rattle.series_core.proofs.Limits.{distance_each}
use Rattle.series_core.specs.Answer.{answer as collection_answer}
use Rattle.series_core.specs.Collection.{IsSeries}
use Rattle.series_core.specs.Distance.{squared_distance}
use Rattle.series_core.specs.declared.distance.TheConstants.{NONE}
use Rattle.isax_word.specs.declared.member.Member.{Member}
use Rattle.subtree_build.specs.Index.{IndexParts, leaf_at}
use Rattle.subtree_build.specs.Members.{series_at, numbers_of}
use Rattle.subtree_build.proofs.Bounds.{members_no_nearer}
use Rattle.search_machine.specs.Ground.{Fits, answer, last}
use Rattle.search_machine.specs.Measures.{Measures}
use Rattle.search_task.specs.Questions.{Question, IsQuestion, CanBeSearched, last_of, leaf_bound, leaf_series, search_over, view_in}
use Rattle.search_task.proofs.BelowRoots.{below_count, leaf_has_word, some_below}
use Rattle.search_task.proofs.Homes.{home_at_most_once, home_of, member_is_real, one_leaf}
use Rattle.search_machine.proofs.Ranks.{answer_same, last_same}
use Rattle.search_task.proofs.StartLeaf.{start_is_leaf}

-- no series is farther than NONE
pub distance_small : (a : Question) (s : ℕ) → IsQuestion a → s < length a.collection.series
    → squared_distance (series_at a.collection s) a.query ≤ NONE
distance_small a s is low =
    let series : IsSeries a.collection.points (series_at a.collection s)
    = is.collection.each s [] low in
    let far = distance_each (series_at a.collection s) a.query series.values is.values in
    omega (arith, far, series.points, is.collection.length_limit)

-- the bound of a leaf is at most the distance of each of its members
pub bound_is_low : (a : Question) (ix : IndexParts) (l s : ℕ) → CanBeSearched a ix → l < length ix.leaves
    → 0 < times s (leaf_series ix l)
    → leaf_bound (view_in a) ix l ≤ squared_distance (series_at a.collection s) a.query
bound_is_low a ix l s searched real some =
    let is = searched.question in
    let members = (leaf_at ix.leaves l).members in
    let place = times_contains s (numbers_of members) some in
    let d : Member = record { number = s; full = [] } in
    let inside : place.0 < length members =
    omega (arith, place.1, length-map members (λ (m : Member). m.number)) in
    let number : (slice_index_or members place.0 d).number ≡ s =
    sym (get_or-map (λ (m : Member). m.number) members place.0 d s inside) ∙ place.2 in
    let low =
    members_no_nearer a.collection a.layout ix l a.query searched.fits is.collection is.cuts is.points
    is.query real (leaf_has_word ix searched.index l real).parts place.0 d inside in
    subst (λ n. leaf_bound (view_in a) ix l ≤ squared_distance (series_at a.collection n) a.query)
    number low

-- what an index that can be searched gives is all that a search stands on
pub search_fits : (a : Question) (ix : IndexParts) (workers queues : ℕ) → CanBeSearched a ix
    → 0 < workers → 0 < queues → Fits (search_over a ix workers queues)
search_fits a ix workers queues searched some_worker some_queue = record {
  some_rank = searched.question.some_rank;
  some_queue = some_queue;
  some_worker = some_worker;
  distance_limit = λ s low. distance_small a s searched.question low;
  member_real = λ l s. member_is_real a.collection a.layout ix searched.fits l s;
  has_home = λ s. home_of a.collection a.layout ix searched.fits s;
  one_home = λ l m s. one_leaf a.collection a.layout ix searched.fits l m s;
  home_once = λ l s. home_at_most_once a.collection a.layout ix searched.fits l s;
  bound_low = λ l s real some. bound_is_low a ix l s searched real some;
  below_root = λ l real.
      omega (arith, below_count ix searched.index l, once_below_yes l (length ix.leaves) real);
  below_once = λ l.
      omega (arith, below_count ix searched.index l, once_below_most l (length ix.leaves));
  below_real = λ l some.
      once_below_low l (length ix.leaves) (omega (arith, some, below_count ix searched.index l));
  some_leaf = λ c ls e. some_below ix searched.index c ls e;
  start_real = λ l e. start_is_leaf (view_in a) ix l searched.index e;
}

-- the search measures the collection's series
pub search_measures : (a : Question) (ix : IndexParts) (workers queues : ℕ)
    → Measures (search_over a ix workers queues) a.collection a.query
search_measures a ix workers queues = record {
  count = refl;
  distance = λ s xs e.
      ap (λ (ys : List ℤ). squared_distance ys a.query)
      (get_or_from_slice_get a.collection.series s xs [] e);
}

-- the last distance of the search is that of the question
pub last_is : (a : Question) (ix : IndexParts) (workers queues : ℕ) → IsQuestion a
    → last (search_over a ix workers queues) ≡ last_of a
last_is a ix workers queues is =
    last_same (search_over a ix workers queues) a.collection a.query is.some_rank
    (search_measures a ix workers queues)

-- the answer of the search is that of the question
pub answer_is : (a : Question) (ix : IndexParts) (workers queues : ℕ)
    → answer (search_over a ix workers queues) ≡ collection_answer a.collection a.query a.k
answer_is a ix workers queues =
    answer_same (search_over a ix workers queues) a.collection a.query (search_measures a ix workers queues)
