-- All of an index but its members.
use Rattle.std.specs.Prelude.{◌≡◌, ℕ, ◌^◌, ◌<◌, ◌≤◌, List, length, map}
use Rattle.subtree_build.specs.declared.leaf.LeafPlace.{LeafPlace}
use Rattle.subtree_build.specs.declared.node.Node.{Node}
use Rattle.subtree_build.specs.Assembly.{AddUp, MakeIndex, all_words, counted_leaves}
use Rattle.subtree_build.specs.Outline.{outline}
use Rattle.subtree_build.specs.Places.{places_from, tree_firsts}

-- what is seen of a frame: how many segments its words have, its root numbers and nodes, how many members each leaf has, and all have
pub record FrameParts : Type 0 where
  pub segments : ℕ
  pub roots : List ℕ
  pub nodes : List Node
  pub counts : List ℕ
  pub members : ℕ

abbrev pub frame_parts : ℕ → List ℕ → List Node → List ℕ → ℕ → FrameParts
frame_parts segments roots nodes counts members = record {
  segments = segments;
  roots = roots;
  nodes = nodes;
  counts = counts;
  members = members;
}

-- the parts make an index of so many members, and the leaves lie at their places in the row of these
pub record IsFrame (segments : ℕ) (roots : List ℕ) (nodes : List Node) (counts firsts : List ℕ) (places : List LeafPlace) (members : ℕ)
    : Type 0 where
  pub some_segments : 1 ≤ segments
  pub few_segments : segments ≤ 16
  pub few_leaves : length counts < 2 ^ 32
  pub made : MakeIndex segments roots nodes (length counts)
  pub whole : AddUp counts members
  pub few_members : members < 2 ^ 32
  pub firsts_are : firsts ≡ tree_firsts 0 (map outline nodes)
  pub places_are : places ≡ places_from 0 (counted_leaves (all_words segments roots nodes) counts)
