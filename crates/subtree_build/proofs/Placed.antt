-- Where things lie in an index: the leaves at their places are those that were cut (`seen_is_cut`), each place is one
-- (`are_places`), and the leaves below each root child are a range (`are_ranges`).
use Rattle.std.proofs.Common.{◌≡◌, ℕ, zero, suc, ◌+◌, ◌-◌, ◌^◌, ◌<◌, ◌≤◌, List, [], ◌∷◌, ◌++◌, length, get_or, map, take, drop, refl, sym, ap, ◌∙◌, subst, arith, length-append, add_assoc, add-zero}
use Rattle.std.specs.Prelude.{None, Some, slice_get, slice_index, flat_map}
use Rattle.std.specs.List.{range_with_len}
use Rattle.std.proofs.lemmas.List.{drop-drop, get_or_default, length-drop, length-map, length-take-le}
use Rattle.std.proofs.lemmas.List.Elements.{All-nil, All-cons}
use Rattle.std.proofs.lemmas.Option.{same_Some, none-some, slice_get-get_or}
use Rattle.list_totals.specs.Totals.{total}
use Rattle.series_core.specs.Collection.{Collection, IsCollection}
use Rattle.segment_sums.specs.Division.{IsDivision}
use Rattle.isax_word.specs.declared.layout.Layout.{Layout}
use Rattle.isax_word.specs.declared.member.Member.{Member}
use Rattle.summary_phase.specs.Members.{members_of}
use Rattle.subtree_build.specs.declared.leaf.GrownLeaf.{GrownLeaf}
use Rattle.subtree_build.specs.declared.leaf.LeafPlace.{LeafPlace}
use Rattle.subtree_build.specs.declared.leaf.TreeLeaf.{TreeLeaf}
use Rattle.subtree_build.specs.declared.node.Node.{Node, Leaf}
use Rattle.subtree_build.specs.declared.part.Joined.{Joined}
use Rattle.subtree_build.specs.Fits.{IsTreeOf}
use Rattle.subtree_build.specs.Division.{leaf_with, roots_of, tree, tree_leaves}
use Rattle.subtree_build.specs.Grown.{cut_leaves, members_in}
use Rattle.subtree_build.specs.Index.{IndexParts, IsIndex}
use Rattle.subtree_build.specs.Start.{node_at}
use Rattle.subtree_build.specs.Outline.{outline, leaf_numbers}
use Rattle.subtree_build.specs.Places.{places_from, leaf_seen, leaves_seen, IsPlace, ArePlaces, IsRange, AreRanges, tree_firsts}
use Rattle.subtree_build.specs.Tree.{Tree, leaves_of, numbered, all_numbered}
use Rattle.subtree_build.proofs.Fitting.{total_tree}
use Rattle.subtree_build.proofs.Indexing.{leaves_numbered, length-members, length_is_ones}
use Rattle.subtree_build.proofs.Partition.{total_in}

-- the place of one leaf more
pub places_push : (first : ℕ) (leaves : List GrownLeaf) (l : GrownLeaf)
    → places_from first (leaves ++ l ∷ [])
    ≡ places_from first leaves
    ++ record { word = l.word; first = first + members_in leaves; end = first + members_in leaves + l.count } ∷ []
places_push first [] l =
    ap (λ n. record { word = l.word; first = n; end = n + l.count } ∷ []) (sym (add-zero first))
places_push first (k ∷ leaves) l =
    ap (λ ps. record { word = k.word; first = first; end = first + k.count } ∷ ps)
    (places_push (first + k.count) leaves l
    ∙ ap (λ n. places_from (first + k.count) leaves ++ record { word = l.word; first = n; end = n + l.count } ∷ [])
    (add_assoc first k.count (members_in leaves)))

-- the members of some leaves and of the next are no more than those of all
pub next_fits : (leaves : List GrownLeaf) (i : ℕ) (l : GrownLeaf) → i < length leaves → l ≡ get_or leaves i l
    → members_in (take i leaves) + l.count ≤ members_in leaves
next_fits [] i l inside is = absurd (omega arith)
next_fits (k ∷ leaves) zero l inside is = omega (arith, ap (λ (x : GrownLeaf). x.count) is)
next_fits (k ∷ leaves) (suc i) l inside is = let rest = next_fits leaves i l (omega arith) is in omega arith

-- as many places as leaves
pub length-places : (first : ℕ) (leaves : List GrownLeaf) → length (places_from first leaves) ≡ length leaves
length-places first [] = refl
length-places first (l ∷ leaves) = let rest = length-places (first + l.count) leaves in omega arith

-- the leaves at their places are those that are cut out of the members from there on
pub seen_is_cut : (members : List Member) (first : ℕ) (leaves : List GrownLeaf)
    → leaves_seen members (places_from first leaves) ≡ cut_leaves leaves (drop first members)
seen_is_cut members first [] = refl
seen_is_cut members first (l ∷ leaves) =
    let long : first + l.count - first ≡ l.count = omega arith in
    ap (λ n. leaf_with l.word (take n (drop first members))
    ∷ leaves_seen members (places_from (first + l.count) leaves)) long
    ∙ ap (λ ls. leaf_with l.word (take l.count (drop first members)) ∷ ls)
    (seen_is_cut members (first + l.count) leaves
    ∙ ap (cut_leaves leaves)
    (ap (λ n. drop n members) (omega arith) ∙ sym (drop-drop l.count first members)))

-- each place lies among the members
pub are_places : (members : List Member) (first : ℕ) (leaves : List GrownLeaf)
    → first + members_in leaves ≤ length members → ArePlaces members (places_from first leaves)
are_places members first [] inside = All-nil (IsPlace (length members))
are_places members first (l ∷ leaves) inside =
    All-cons (IsPlace (length members)) (record { word = l.word; first = first; end = first + l.count })
    (places_from (first + l.count) leaves)
    (record { order = omega arith; inside = omega (arith, inside) })
    (are_places members (first + l.count) leaves (omega (arith, inside)))

-- so do the places of leaves that have all members
pub places_lie : (members : List Member) (leaves : List GrownLeaf) (places : List LeafPlace)
    → members_in leaves ≡ length members → places ≡ places_from 0 leaves → ArePlaces members places
places_lie members leaves places whole are =
    let P : List LeafPlace → Type 0 = λ ps. ArePlaces members ps in
    subst P (sym are) (are_places members 0 leaves (omega (arith, whole)))

-- as many numbers of first leaves as trees, and one more
length-firsts : {A : Type 0} (first : ℕ) (trees : List (Tree A)) → length (tree_firsts first trees) ≡ length trees + 1
length-firsts first [] = refl
length-firsts first (t ∷ trees) = let rest = length-firsts (first + length (leaves_of t)) trees in omega arith

-- the first number is that of the first tree
first_of_firsts : {A : Type 0} (first : ℕ) (trees : List (Tree A)) → slice_index (tree_firsts first trees) 0 ≡ first
first_of_firsts first [] = refl
first_of_firsts first (t ∷ trees) = refl

-- the leaves below each node of numbered trees are a range of those of all trees
ranges : {A : Type 0} (first : ℕ) (trees : List (Tree A)) (nodes : List Node) (count : ℕ)
    → map outline nodes ≡ all_numbered first trees
    → first + length (flat_map (λ t. leaves_of t) trees) ≤ count
    → (i : ℕ) (node : Node) → slice_get nodes i ≡ Some node
    → IsRange count (slice_index (tree_firsts first trees) i) (slice_index (tree_firsts first trees) (i + 1)) node
ranges first [] [] count are few i node at = absurd (none-some node at)
ranges first [] (n ∷ nodes) count are few i node at = cc
ranges first (t ∷ trees) [] count are few i node at = absurd (none-some node at)
ranges first (t ∷ trees) (n ∷ nodes) count are few zero node at =
    let here : outline n ≡ numbered first t = cc in
    let is_node : n ≡ node = same_Some n node at in
    let next : slice_index (tree_firsts (first + length (leaves_of t)) trees) 0 ≡ first + length (leaves_of t)
    = first_of_firsts (first + length (leaves_of t)) trees in
    let many = length-append (leaves_of t) (flat_map (λ t. leaves_of t) trees) in
    record {
      order = omega (arith, next);
      inside = omega (arith, next, many, few);
      leaves = ap leaf_numbers (sym is_node)
          ∙ ap (λ o. leaves_of o) here
          ∙ leaves_numbered first t
          ∙ ap (range_with_len first) (omega (arith, next));
    }
ranges first (t ∷ trees) (n ∷ nodes) count are few (suc i) node at =
    let behind : map outline nodes ≡ all_numbered (first + length (leaves_of t)) trees = cc in
    let many = length-append (leaves_of t) (flat_map (λ t. leaves_of t) trees) in
    let next : suc (i + 1) ≡ suc i + 1 = omega arith in
    let all = tree_firsts first (t ∷ trees) in
    let P : ℕ → Type 0 = λ k. IsRange count (slice_index all (suc i)) (slice_index all k) node in
    subst P next
    (ranges (first + length (leaves_of t)) trees nodes count behind (omega (arith, many, few)) i node at)

-- the leaves below each node are a range, where the nodes are those of trees
pub are_ranges : {A : Type 0} (trees : List (Tree A)) (nodes : List Node) (firsts : List ℕ) (places : List LeafPlace)
    → map outline nodes ≡ all_numbered 0 trees → firsts ≡ tree_firsts 0 trees
    → length places ≡ length (flat_map (λ t. leaves_of t) trees)
    → length nodes ≡ length trees → AreRanges nodes firsts places
are_ranges trees nodes firsts places are firsts_are long many =
    let P : List ℕ → Type 0 = λ ns. (i : ℕ) (node : Node) → slice_get nodes i ≡ Some node
    → IsRange (length places) (slice_index ns i) (slice_index ns (i + 1)) node in
    record {
      long = ap length firsts_are ∙ length-firsts 0 trees ∙ ap (λ n. n + 1) (sym many);
      each = subst P (sym firsts_are) (ranges 0 trees nodes (length places) are (omega (arith, long)));
    }

-- members in leaves are as many as the members of the leaves that are cut
cut_count : (leaves : List GrownLeaf) (members : List Member) → members_in leaves ≡ length members
    → total (total_in (λ m. 1)) (cut_leaves leaves members) ≡ length members
cut_count [] members whole = whole
cut_count (l ∷ leaves) members whole =
    let inside : l.count ≤ length members = omega (arith, whole) in
    let front = length-take-le l.count members inside in
    let back = length-drop l.count members in
    omega (
      arith,
      inside,
      front,
      back,
      length_is_ones (take l.count members),
      cut_count leaves (drop l.count members) (omega (arith, whole, back)),
    )

-- a collection's members are few
pub few_members : (c : Collection) (layout : Layout) (size : ℕ) (leaves : List GrownLeaf) (members : List Member)
    → IsDivision layout.cuts → IsCollection c → cut_leaves leaves members ≡ tree_leaves c layout size
    → members_in leaves ≡ length members → members_in leaves < 2 ^ 32
few_members c layout size leaves members is kept are whole =
    omega (
      arith,
      whole,
      cut_count leaves members whole,
      ap (total (total_in (λ m. 1))) are,
      total_tree (λ m. 1) c layout size is,
      length_is_ones (members_of layout c),
      length-members layout 0 c.series,
      kept.count_limit,
    )

-- an index with these root numbers, nodes and leaves at their places is the tree
pub tree_is_seen : (c : Collection) (layout : Layout) (size segments : ℕ) (roots : List ℕ) (joined : Joined)
    (places : List LeafPlace) → segments ≡ layout.cuts.segments → roots ≡ roots_of c layout
    → map outline joined.nodes.items ≡ all_numbered 0 (tree c layout size)
    → cut_leaves joined.leaves.items joined.members.items ≡ tree_leaves c layout size
    → places ≡ places_from 0 joined.leaves.items
    → IsTreeOf c layout size (record {
      segments = segments;
      roots = roots;
      nodes = joined.nodes.items;
      leaves = leaves_seen joined.members.items places;
      means = None;
      codes = None;
    })
tree_is_seen c layout size segments roots joined places same roots_are nodes_are leaves_are at = record {
  segments = same;
  roots = roots_are;
  nodes = nodes_are;
  leaves = ap (leaves_seen joined.members.items) at
      ∙ seen_is_cut joined.members.items 0 joined.leaves.items ∙ leaves_are;
}

-- the leaves below a root child of an index are a range
pub root_range : (ix : IndexParts) (firsts : List ℕ) (places : List LeafPlace) (members : List Member) (i first end : ℕ)
    → IsIndex ix → AreRanges ix.nodes firsts places → ix.leaves ≡ leaves_seen members places
    → i < length ix.roots → first ≡ get_or firsts i first → end ≡ get_or firsts (i + 1) end
    → IsRange (length ix.leaves) first end (node_at ix i)
root_range ix firsts places members i first end is are seen inside at_first at_end =
    let low : i < length ix.nodes = omega (arith, is.one_node_each, inside) in
    let range = are.each i (node_at ix i) (slice_get-get_or ix.nodes i (Leaf 0) low) in
    let long : length ix.leaves ≡ length places
    = ap (λ (ls : List TreeLeaf). length ls) seen ∙ length-map places (leaf_seen members) in
    let is_first : slice_index firsts i ≡ first
    = get_or_default firsts i 0 first (omega (arith, are.long, low)) ∙ sym at_first in
    let is_end : slice_index firsts (i + 1) ≡ end
    = get_or_default firsts (i + 1) 0 end (omega (arith, are.long, low)) ∙ sym at_end in
    let P : ℕ → Type 0 = λ n. IsRange n (slice_index firsts i) (slice_index firsts (i + 1)) (node_at ix i) in
    let F : ℕ → Type 0 = λ n. IsRange (length ix.leaves) n (slice_index firsts (i + 1)) (node_at ix i) in
    let E : ℕ → Type 0 = λ n. IsRange (length ix.leaves) first n (node_at ix i) in
    subst E is_end (subst F is_first (subst P (sym long) range))
