-- What a bound above the radius rules out: of a member's means that member (`far_member`), of the box of a leaf's means or of its word all
-- of it (`far_leaf`, `far_word`), and of a root child's all below it (`far_root`).
use Rattle.std.proofs.Common.{◌≡◌, ℕ, ◌<◌, ◌≤◌, List, [], ◌∷◌, ◌++◌, All, length, get_or, refl, sym, ap, ◌∙◌, subst, true, false, arith}
use Rattle.std.specs.Prelude.{Some, map, option_map, slice_index, slice_index_or}
use Rattle.std.proofs.lemmas.Bool.{cond-false, lt-leb}
use Rattle.std.proofs.lemmas.List.{get_or-map, length-map}
use Rattle.std.proofs.lemmas.List.Concat.{flat_map-append}
use Rattle.std.proofs.lemmas.List.Elements.{All-head, All-tail}
use Rattle.series_core.specs.Distance.{squared_distance}
use Rattle.series_core.specs.declared.pair.Pair.{Pair}
use Rattle.isax_word.specs.declared.word.Part.{Part}
use Rattle.isax_word.specs.Word.{IsPart, IsWord, child_word}
use Rattle.isax_word.proofs.Words.{IsWord-child_word}
use Rattle.lower_bound.specs.Bound.{View, view_of, word_bound}
use Rattle.lower_bound.proofs.Bounds.{child_bound}
use Rattle.mean_bound.proofs.BelowDistances.{mean_bound_below}
use Rattle.mean_bound.proofs.Boxes.{box_below}
use Rattle.mean_bound.specs.Boxes.{Box, box_bound, box_of}
use Rattle.mean_bound.specs.Means.{row_means}
use Rattle.mean_bound.specs.MeanBound.{mean_bound, mean_view_of}
use Rattle.isax_word.specs.declared.member.Member.{Member}
use Rattle.subtree_build.specs.Tree.{Tree, absent, leaf, split, leaves_of}
use Rattle.subtree_build.specs.Index.{IndexParts, StandsUnder, leaf_at, no_leaf, root_word_at}
use Rattle.subtree_build.specs.declared.node.Node.{Leaf}
use Rattle.subtree_build.specs.Outline.{outline}
use Rattle.subtree_build.specs.Start.{node_at, root_bound}
use Rattle.isax_word.proofs.Roots.{IsWord-one_bit_word}
use Rattle.std.proofs.lemmas.Option.{slice_get-get_or}
use Rattle.subtree_build.specs.Means.{all_means, leaf_means, means_of}
use Rattle.subtree_build.specs.Members.{series_at}
use Rattle.subtree_build.proofs.Bounds.{member_is_series, members_no_nearer}
use Rattle.subtree_build.proofs.Meaning.{made_of_own}
use Rattle.range_query.specs.Near.{Asked, IsAsked, near_series, near_members, near_leaf, near_leaves, near_root}

-- a series above the radius is not near
pub far_series : (a : Asked) (i : ℕ)
    → a.radius < squared_distance (series_at a.collection i) a.query → near_series a i ≡ []
far_series a i far = cond-false _ _ _ (lt-leb _ _ far)

-- members above the radius are not near
pub far_members : (a : Asked) (members : List Member)
    → All (λ m. a.radius < squared_distance (series_at a.collection m.number) a.query) members
    → near_members a members ≡ []
far_members a [] far = refl
far_members a (m ∷ members) far =
    let P : Member → Type 0 =
    λ m. a.radius < squared_distance (series_at a.collection m.number) a.query in
    ap (λ l. l ++ near_members a members) (far_series a m.number (All-head P m members far))
    ∙ far_members a members (All-tail P m members far)

module _ (a : Asked) (ix : IndexParts) (view : View) (is : IsAsked a ix view) where
  -- a series lies at its bound by its means or farther
  mean_is_below : (i : ℕ) → i < length a.collection.series
      → mean_bound (mean_view_of view.layout.cuts a.query) (row_means view.layout.cuts (series_at a.collection i))
      ≤ squared_distance (series_at a.collection i) a.query
  mean_is_below i low =
      let series = series_at a.collection i in
      let whole = is.collection.each i [] low in
      let long : length series ≡ view.layout.cuts.row_length = whole.points ∙ is.points in
      mean_bound_below view.layout.cuts series a.query is.cuts long is.query whole.values is.values

  -- a member whose bound by its means is above the radius is not near
  pub far_member : (i : ℕ) (means : List ℕ) → i < length a.collection.series
      → means ≡ row_means view.layout.cuts (series_at a.collection i)
      → a.radius < mean_bound (mean_view_of view.layout.cuts a.query) means → near_series a i ≡ []
  far_member i means low own above =
      let below = mean_is_below i low in
      let same = ap (mean_bound (mean_view_of view.layout.cuts a.query)) own in
      far_series a i (omega arith)

  -- below a node whose word's bound is above the radius nothing is near
  pub far_below : (word : List Part) (t : Tree ℕ) → IsWord word → StandsUnder ix.leaves word t
      → a.radius < word_bound view word → near_leaves a ix.leaves (leaves_of t) ≡ []
  far_below word absent kept stands above = refl
  far_below word (leaf l) kept stands above =
      let members = (leaf_at ix.leaves l).members in
      let P : List Part → Type 0 = λ w. All IsPart w in
      let bounds =
      members_no_nearer a.collection view.layout ix l a.query is.fits is.collection is.cuts
      is.points is.query stands.0 (subst P (sym stands.1) kept.parts) in
      let same : word_bound view word
      ≡ word_bound (view_of view.layout a.query) (leaf_at ix.leaves l).word =
      ap (λ v. word_bound v word) is.of_query
      ∙ ap (λ w. word_bound (view_of view.layout a.query) w) (sym stands.1) in
      let far = far_members a members (λ k d low. let b = bounds k d low in omega arith) in
      ap (λ (l : List Pair). l ++ []) far
  far_below word (split segment low high) kept stands above =
      let used = stands.0.used in
      let divisible = stands.0.divisible in
      let low_bound = child_bound view 0 word segment false is.is_view kept.parts used divisible in
      let high_bound = child_bound view 0 word segment true is.is_view kept.parts used divisible in
      flat_map-append (near_leaf a ix.leaves) (leaves_of low)
      (leaves_of high)
      ∙ ap (λ (l : List Pair). l ++ near_leaves a ix.leaves (leaves_of high))
      (far_below (child_word word segment false) low
      (IsWord-child_word word segment false kept used divisible) stands.1 (omega arith))
      ∙ far_below (child_word word segment true) high
      (IsWord-child_word word segment true kept used divisible) stands.2 (omega arith)

  -- below a root child whose bound is above the radius nothing is near
  pub far_root : (i : ℕ) → i < length ix.roots → a.radius < root_bound view ix i → near_root a ix i ≡ []
  far_root i inside above =
      let low : i < length ix.nodes = omega (arith, is.index.one_node_each, inside) in
      far_below (root_word_at ix i) (outline (node_at ix i))
      (IsWord-one_bit_word (slice_index ix.roots i) ix.segments is.index.some_segments is.index.few_segments
      (is.index.roots_fit i 0 inside))
      (is.index.nodes_stand i (node_at ix i) (slice_get-get_or ix.nodes i (Leaf 0) low)) above

  -- in a leaf whose box has a bound above the radius nothing is near
  pub far_leaf : (l : ℕ) (b : Box)
      → Some b ≡ option_map (λ (means : List (List (List ℕ))). box_of (slice_index_or means l [])) ix.means → l < length ix.leaves
      → a.radius < box_bound (mean_view_of view.layout.cuts a.query) b → near_leaf a ix.leaves l ≡ []
  far_leaf l b told inside above =
      let c = a.collection in
      let seen = mean_view_of view.layout.cuts a.query in
      let members = (leaf_at ix.leaves l).members in
      let all = all_means c view.layout members in
      let own : box_bound seen b ≡ box_bound seen (box_of all)
      = ap (box_bound seen)
      (made_of_own (λ (means : List (List (List ℕ))). box_of (slice_index_or means l [])) ix.means
      (map (leaf_means c view.layout) ix.leaves) b told is.fits.own_means
      ∙ ap box_of (get_or-map (leaf_means c view.layout) ix.leaves l no_leaf [] inside)) in
      far_members a members (λ k d there.
      let low = member_is_series c view.layout ix l k d is.fits inside there in
      let inner = box_below seen all k (omega (arith, there, length-map members (means_of c view.layout))) in
      let one = ap (mean_bound seen) (get_or-map (means_of c view.layout) members k d [] there) in
      omega (arith, above, own, inner, one, mean_is_below (get_or members k d).number low))

  -- in a leaf whose word has a bound above the radius nothing is near
  pub far_word : (l : ℕ) → l < length ix.leaves → All IsPart (leaf_at ix.leaves l).word
      → a.radius < word_bound view (leaf_at ix.leaves l).word → near_leaf a ix.leaves l ≡ []
  far_word l inside parts above =
      let bounds =
      members_no_nearer a.collection view.layout ix l a.query is.fits is.collection is.cuts is.points is.query inside parts in
      let same : word_bound view (leaf_at ix.leaves l).word ≡ word_bound (view_of view.layout a.query) (leaf_at ix.leaves l).word =
      ap (λ v. word_bound v (leaf_at ix.leaves l).word) is.of_query in
      far_members a (leaf_at ix.leaves l).members (λ k d low. let b = bounds k d low in omega arith)
