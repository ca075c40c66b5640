-- Bounds by means are at most the distances: that of a member's means (`means_are_below`), that of the box of a leaf's means for each of
-- its members (`box_is_below`), and that of the box of leaves in a row for each of theirs (`group_is_below`, `group_bounded`).
use Rattle.std.proofs.Common.{◌≡◌, ◌+◌, ◌-◌, ◌*◌, ◌<◌, ◌≤◌, ℕ, List, [], length, map, take, drop, ap, sym, subst, ◌∙◌, arith}
use Rattle.std.specs.Prelude.{Some, option_map, slice_index_or}
use Rattle.std.proofs.lemmas.List.{get_or-drop, get_or-map, get_or-take, length-drop, length-map, length-take}
use Rattle.list_totals.specs.Totals.{times}
use Rattle.list_totals.proofs.Places.{times_contains}
use Rattle.series_core.specs.Distance.{squared_distance}
use Rattle.mean_bound.proofs.BelowDistances.{mean_bound_below}
use Rattle.mean_bound.proofs.Boxes.{box_below, wider_below}
use Rattle.mean_bound.specs.Boxes.{Box, box_bound, box_of, box_of_boxes}
use Rattle.mean_bound.specs.MeanBound.{View, mean_bound, mean_view_of}
use Rattle.isax_word.specs.declared.member.Member.{Member}
use Rattle.subtree_build.specs.Index.{IndexParts, leaf_at, no_leaf}
use Rattle.subtree_build.specs.Means.{all_means, leaf_means, means_of}
use Rattle.subtree_build.specs.Members.{numbers_of, series_at}
use Rattle.subtree_build.proofs.Meaning.{made_of_own, other_of_own}
use Rattle.search_task.specs.LeafBounds.{IsBelowLeaves}
use Rattle.search_task.specs.Questions.{CanBeSearched, IsQuestion, Question, Searched, ground_of, leaf_series, search_over}
use Rattle.search_task.proofs.Homes.{member_is_real}

-- the bound of a series by its means
pub means_are_below : (a : Question) (s : ℕ) → IsQuestion a → s < length a.collection.series → (m : Member) → m.number ≡ s
    → mean_bound (mean_view_of a.layout.cuts a.query) (means_of a.collection a.layout m)
    ≤ squared_distance (series_at a.collection s) a.query
means_are_below a s is real m number =
    let series = series_at a.collection s in
    let whole = is.collection.each s [] real in
    let long : length series ≡ a.layout.cuts.row_length = whole.points ∙ is.points in
    let below = mean_bound_below a.layout.cuts series a.query is.cuts long is.query whole.values is.values in
    subst (λ n. mean_bound (mean_view_of a.layout.cuts a.query) (means_of a.collection a.layout (record { number = n; full = m.full }))
    ≤ squared_distance series a.query) (sym number) below

-- the bound of the box of a leaf's means
pub box_is_below : (a : Question) (ix : IndexParts) (l s : ℕ) (b : Box) → CanBeSearched a ix
    → Some b ≡ option_map (λ (means : List (List (List ℕ))). box_of (slice_index_or means l [])) ix.means → l < length ix.leaves
    → 0 < times s (leaf_series ix l)
    → box_bound (mean_view_of a.layout.cuts a.query) b ≤ squared_distance (series_at a.collection s) a.query
box_is_below a ix l s b searched told real some =
    let c = a.collection in
    let view = mean_view_of a.layout.cuts a.query in
    let members = (leaf_at ix.leaves l).members in
    let own : b ≡ box_of (all_means c a.layout members)
    = made_of_own (λ (means : List (List (List ℕ))). box_of (slice_index_or means l [])) ix.means
    (map (leaf_means c a.layout) ix.leaves) b told searched.fits.own_means
    ∙ ap box_of (get_or-map (leaf_means c a.layout) ix.leaves l no_leaf [] real) in
    let place = times_contains s (numbers_of members) some in
    let none : Member = record { number = s; full = [] } in
    let inside : place.0 < length members =
    omega (arith, place.1, length-map members (λ (m : Member). m.number)) in
    let m = slice_index_or members place.0 none in
    let number : m.number ≡ s =
    sym (get_or-map (λ (m : Member). m.number) members place.0 none s inside) ∙ place.2 in
    let there : slice_index_or (all_means c a.layout members) place.0 [] ≡ means_of c a.layout m
    = get_or-map (means_of c a.layout) members place.0 none [] inside in
    let boxed = box_below view (all_means c a.layout members) place.0
    (omega (arith, length-map members (means_of c a.layout))) in
    let low : mean_bound view (slice_index_or (all_means c a.layout members) place.0 [])
    ≤ squared_distance (series_at c s) a.query
    = subst (λ ms. mean_bound view ms ≤ squared_distance (series_at c s) a.query) (sym there)
    (means_are_below a s searched.question (member_is_real c a.layout ix searched.fits l s real some) m number) in
    subst (λ (x : Box). box_bound view x ≤ squared_distance (series_at c s) a.query) (sym own) (omega (arith, boxed, low))

-- the bound of the box of leaves in a row
pub group_is_below : (a : Question) (ix : IndexParts) (size g : ℕ) (b : Box) → CanBeSearched a ix
    → Some b ≡ option_map (λ (means : List (List (List ℕ))). box_of_boxes (map box_of (take size (drop (g * size) means)))) ix.means
    → IsBelowLeaves (search_over a ix 1 1) (g * size) (g * size + size) (box_bound (mean_view_of a.layout.cuts a.query) b)
group_is_below a ix size g b searched told l from to real s member =
    let view = mean_view_of a.layout.cuts a.query in
    let first = g * size in
    let means = map (leaf_means a.collection a.layout) ix.leaves in
    let group = take size (drop first means) in
    let own : b ≡ box_of_boxes (map box_of group)
    = made_of_own (λ (ms : List (List (List ℕ))). box_of_boxes (map box_of (take size (drop first ms)))) ix.means means b told
    searched.fits.own_means in
    let i = l - first in
    let place : first + i ≡ l = omega arith in
    let inside : i < length group
    = omega (
      arith,
      length-take size (drop first means),
      length-drop first means,
      length-map ix.leaves (leaf_means a.collection a.layout),
    ) in
    let there : slice_index_or group i [] ≡ slice_index_or means l []
    = get_or-take size (drop first means) i [] (omega arith) ∙ get_or-drop first means i []
    ∙ ap (λ n. slice_index_or means n []) place in
    let box : slice_index_or (map box_of group) i (box_of []) ≡ box_of (slice_index_or means l [])
    = get_or-map box_of group i [] (box_of []) inside ∙ ap box_of there in
    let some : Some (box_of (slice_index_or means l []))
    ≡ option_map (λ (ms : List (List (List ℕ))). box_of (slice_index_or ms l [])) ix.means
    = other_of_own (λ (ms : List (List (List ℕ))). box_of_boxes (map box_of (take size (drop first ms))))
    (λ (ms : List (List (List ℕ))). box_of (slice_index_or ms l [])) ix.means means b told searched.fits.own_means in
    let wider = wider_below view (map box_of group) i (omega (arith, inside, length-map group box_of)) in
    let same = ap (box_bound view) box in
    let whole = ap (box_bound view) own in
    let below = box_is_below a ix l s (box_of (slice_index_or means l [])) searched some real member in
    omega arith

-- a bound of leaves in a row, by the box and the view that a call was given
pub group_bounded : (s t : Searched) (size g bound : ℕ) (view : View) (box : Box) → s ≡ t → CanBeSearched s.question s.index
    → bound ≡ box_bound view box → view ≡ mean_view_of s.question.layout.cuts s.question.query
    → Some box
    ≡ option_map (λ (means : List (List (List ℕ))). box_of_boxes (map box_of (take size (drop (g * size) means)))) s.index.means
    → IsBelowLeaves (ground_of t) (g * size) (g * size + size) bound
group_bounded s t size g bound view box same searched is own told =
    let value = is ∙ ap (λ (w : View). box_bound w box) own in
    subst (λ (u : Searched). IsBelowLeaves (ground_of u) (g * size) (g * size + size) bound) same
    (λ l from to real m member.
    let below = group_is_below s.question s.index size g box searched told l from to real m member in
    omega (arith, value, below))
