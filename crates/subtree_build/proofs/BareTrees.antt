-- Bare trees: parts that were put together are one (`bare_of`), whose members are series (`series_of`); the members of one are series of
-- a collection where those of its index are (`real_members`), and what has its means has those of the index that it was taken from
-- (`same_means`).
use Rattle.std.proofs.Common.{◌≡◌, ℕ, ◌^◌, ◌<◌, All, List, ap, sym, ◌∙◌, subst, length, map, arith}
use Rattle.std.specs.Prelude.{None, Some}
use Rattle.std.specs.declared.alloc.Global.{Global}
use Rattle.std.specs.declared.vec.Vec.{Vec}
use Rattle.std.proofs.lemmas.List.{length-map}
use Rattle.segment_sums.specs.Division.{IsDivision}
use Rattle.series_core.specs.Collection.{Collection, IsCollection}
use Rattle.isax_word.specs.declared.layout.Layout.{Layout}
use Rattle.isax_word.specs.declared.member.Member.{Member}
use Rattle.subtree_build.specs.declared.bare_tree.BareTree.{BareTree}
use Rattle.subtree_build.specs.declared.leaf.LeafPlace.{LeafPlace}
use Rattle.subtree_build.specs.declared.leaf.TreeLeaf.{TreeLeaf}
use Rattle.subtree_build.specs.declared.part.Joined.{Joined}
use Rattle.subtree_build.specs.Assembly.{HasMeansOf}
use Rattle.subtree_build.specs.BareTree.{HasSeries, IsBare, bare_parts}
use Rattle.subtree_build.specs.Division.{roots_of, tree, tree_leaves}
use Rattle.subtree_build.specs.Grown.{cut_leaves, members_in}
use Rattle.subtree_build.specs.Index.{IndexParts}
use Rattle.subtree_build.specs.Means.{leaf_means, leaf_codes}
use Rattle.subtree_build.specs.Outline.{outline}
use Rattle.subtree_build.specs.Places.{leaves_seen, places_from, tree_firsts}
use Rattle.subtree_build.specs.Tree.{Tree, all_numbered}
use Rattle.subtree_build.proofs.Fitting.{real_in_tree}
use Rattle.subtree_build.proofs.Growing.{length-cut}
use Rattle.subtree_build.proofs.Indexing.{length-all_numbered, tree_is_index}
use Rattle.subtree_build.proofs.InRow.{members_seen}
use Rattle.subtree_build.proofs.LeafWords.{all_pieces}
use Rattle.subtree_build.proofs.Meaning.{all_cut}
use Rattle.subtree_build.proofs.OfCollection.{IsReal}
use Rattle.subtree_build.proofs.Placed.{length-places, tree_is_seen, are_ranges, few_members, places_lie}

-- parts that were put together are those of the tree of a collection
pub record IsJoined (c : Collection) (layout : Layout) (size : ℕ) (joined : Joined) : Type 0 where
  pub nodes : map outline joined.nodes.items ≡ all_numbered 0 (tree c layout size)
  pub firsts : joined.firsts.items ≡ tree_firsts 0 (tree c layout size)
  pub leaves : cut_leaves joined.leaves.items joined.members.items ≡ tree_leaves c layout size
  pub whole : members_in joined.leaves.items ≡ length joined.members.items

module _ (c : Collection) (layout : Layout) (size : ℕ) where
  -- their members are few
  pub few_joined : (joined : Joined) → IsDivision layout.cuts → IsCollection c → IsJoined c layout size joined
      → members_in joined.leaves.items < 2 ^ 32
  few_joined joined divides sound is =
      few_members c layout size joined.leaves.items joined.members.items divides sound is.leaves is.whole

  -- and are series of the collection
  pub series_of : (joined : Joined) → IsJoined c layout size joined → All (IsReal c) joined.members.items
  series_of joined is =
      let P : List TreeLeaf → Type 0 = λ ls. All (λ (x : TreeLeaf). All (IsReal c) x.members) ls in
      all_cut (IsReal c) joined.leaves.items joined.members.items is.whole
      (subst P (sym is.leaves) (real_in_tree c layout size))

  module _ (segments : ℕ) (roots : Vec ℕ Global) (joined : Joined) (places : Vec LeafPlace Global) where
    -- the bare tree that is made of them
    abbrev pub made : BareTree
    made = record {
      segments = segments;
      roots = roots;
      nodes = joined.nodes;
      firsts = joined.firsts;
      leaves = places;
      members = joined.members;
    }

    -- it is bare
    pub bare_of : IsDivision layout.cuts → IsCollection c → IsJoined c layout size joined → segments ≡ layout.cuts.segments
        → roots.items ≡ roots_of c layout → places.items ≡ places_from 0 joined.leaves.items → IsBare made
    bare_of divides sound is same roots_are lie =
        let long : length places.items ≡ length (tree_leaves c layout size) = omega (
          arith,
          ap (λ (ps : List LeafPlace). length ps) lie,
          length-places 0 joined.leaves.items,
          length-cut joined.leaves.items joined.members.items,
          ap (λ (ls : List TreeLeaf). length ls) is.leaves,
        ) in
        let many : length joined.nodes.items ≡ length (tree c layout size)
        = sym (length-map joined.nodes.items outline) ∙ ap (λ (ts : List (Tree ℕ)). length ts) is.nodes
        ∙ length-all_numbered 0 (tree c layout size) in
        let few = few_joined joined divides sound is in
        record {
          is_index = tree_is_index c layout size _ divides sound
              (tree_is_seen c layout size segments roots.items joined places.items same roots_are is.nodes is.leaves lie);
          places = places_lie joined.members.items joined.leaves.items places.items is.whole lie;
          ranges = are_ranges (tree c layout size) joined.nodes.items joined.firsts.items places.items is.nodes is.firsts long many;
          seen = record { leaves = joined.leaves.items; lie = lie; whole = is.whole; few = omega (arith, is.whole, few) };
        }

module _ (c : Collection) (t : BareTree) (ix : IndexParts) where
  -- each member is a series, where those of each leaf are
  pub real_members : IsBare t → bare_parts t ≡ record ix { means = None; codes = None }
      → All (λ (x : TreeLeaf). All (IsReal c) x.members) ix.leaves → HasSeries c t
  real_members bare same each =
      let P : List TreeLeaf → Type 0 = λ ls. All (λ (x : TreeLeaf). All (IsReal c) x.members) ls in
      let leaves : leaves_seen t.members.items t.leaves.items ≡ ix.leaves = ap (λ (x : IndexParts). x.leaves) same in
      subst (λ (ms : List Member). All (IsReal c) ms) (members_seen t.members.items t.leaves.items bare.seen)
      (all_pieces (IsReal c) (λ (x : TreeLeaf). x.members) (leaves_seen t.members.items t.leaves.items)
      (subst P (sym leaves) each))

module _ (c : Collection) (layout : Layout) (t : BareTree) (ix : IndexParts) (after : IndexParts) where
  -- the same tree with means is that of the index with means
  pub same_means : bare_parts t ≡ record ix { means = None; codes = None } → HasMeansOf c layout (bare_parts t) after
      → HasMeansOf c layout ix after
  same_means same h =
      let leaves = ap (λ (x : IndexParts). x.leaves) same in
      record {
        segments = h.segments ∙ ap (λ (x : IndexParts). x.segments) same;
        roots = h.roots ∙ ap (λ (x : IndexParts). x.roots) same;
        nodes = h.nodes ∙ ap (λ (x : IndexParts). x.nodes) same;
        leaves = h.leaves ∙ leaves;
        own_means = h.own_means ∙ ap (λ (ls : List TreeLeaf). Some (map (leaf_means c layout) ls)) leaves;
        own_codes = h.own_codes ∙ ap (λ (ls : List TreeLeaf). Some (map (leaf_codes c) ls)) leaves;
      }
