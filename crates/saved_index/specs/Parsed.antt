-- What the reader of bytes has made of them.
use Rattle.std.specs.Prelude.{◌≡◌, ℕ, ◌+◌, ◌^◌, ◌<◌, ◌≤◌, List, [], ◌∷◌, ◌++◌, length, map, drop, Some}
use Rattle.subtree_build.specs.Outline.{outline}
use Rattle.subtree_build.specs.Tree.{Tree, all_numbered, leaves_of, IsBuilt}
use Rattle.std.specs.List.{flat_map}
use Rattle.subtree_build.specs.declared.node.Node.{Node}
use Rattle.saved_index.specs.declared.reading.Spelled.{Spelled}
use Rattle.saved_index.specs.Fields.{header_of}
use Rattle.isax_word.specs.declared.member.Member.{Member}
use Rattle.saved_index.specs.Membership.{number_of}
use Rattle.saved_index.specs.Saved.{Saved}
use Rattle.saved_index.specs.Reading.{Read, saved_in}

-- a place in bytes, or behind the last of them, which are few enough for numbers of 32 bits
abbrev pub IsPlaceIn : List ℕ → ℕ → Type 0
IsPlaceIn bytes at = (at ≤ length bytes) × (length bytes < 2 ^ 32)

-- Numbers were read from these bytes, and stand behind the others, each as the number of a member.
pub record AreNumbersRead (bytes : List ℕ) (many to : ℕ) (read : Read (List ℕ)) (before after : List Member) : Type 0 where
  pub numbers : List ℕ
  pub is : read ≡ Some (numbers, drop to bytes)
  pub long : length numbers ≡ many
  pub put : map number_of after ≡ map number_of before ++ numbers

-- A list of numbers was read from these bytes, and stands behind the others.
pub record IsListRead (bytes : List ℕ) (to : ℕ) (read : Read (List ℕ)) (before after : List (List ℕ)) : Type 0 where
  pub numbers : List ℕ
  pub is : read ≡ Some (numbers, drop to bytes)
  pub put : after ≡ before ++ numbers ∷ []

-- A node was read from these bytes, which are read as a tree: it names the tree's leaves behind those that there were, of
-- which no more came than bytes.
pub record IsNodeRead (bytes : List ℕ) (from to : ℕ) (read : Read (Tree (List ℕ))) (before : List (List ℕ)) (node : Tree ℕ)
    (after : List (List ℕ)) : Type 0 where
  pub tree : Tree (List ℕ)
  pub is : read ≡ Some (tree, drop to bytes)
  pub built : IsBuilt tree before node after
  pub within : to ≤ length bytes
  pub fewer : length after + from ≤ length before + to

-- Root children were read: their root numbers, and nodes that name the leaves of all in order.
pub record AreRootsRead (bytes : List ℕ) (to : ℕ) (read : Read (List ℕ × List (Tree (List ℕ)))) (roots : List ℕ)
    (nodes : List Node) (lists : List (List ℕ)) : Type 0 where
  pub trees : List (Tree (List ℕ))
  pub is : read ≡ Some ((roots, trees), drop to bytes)
  pub nodes_are : map outline nodes ≡ all_numbered 0 trees
  pub lists_are : lists ≡ flat_map (λ t. leaves_of t) trees
  pub within : to ≤ length bytes
  pub fewer : length lists ≤ to

-- A text was read whole: what it is the text of, with nodes that name the leaves of all in order.
pub record IsSavedRead (bytes : List ℕ) (r : Spelled) : Type 0 where
  pub saved : Saved
  pub is : saved_in bytes ≡ Some saved
  pub header : saved.header ≡ header_of r.fields
  pub roots : saved.roots ≡ r.found.roots.items
  pub nodes_are : map outline r.found.nodes.items ≡ all_numbered 0 saved.nodes
  pub lists_are : r.found.lists ≡ flat_map (λ t. leaves_of t) saved.nodes
  pub few : length r.found.lists ≤ length bytes
