-- The tree of a collection: the members divided by root number, and then bit by bit.
use Rattle.std.specs.Prelude.{ℕ, zero, suc, ◌+◌, ◌-◌, ◌^◌, true, false, List, [], ◌∷◌, length, map, nat_le, if◌then◌else◌}
use Rattle.std.specs.List.{filter, list_any, range_with_len, flat_map}
use Rattle.series_core.specs.Collection.{Collection}
use Rattle.isax_word.specs.declared.layout.Layout.{Layout}
use Rattle.isax_word.specs.declared.word.Part.{Part}
use Rattle.isax_word.specs.Word.{child_word, one_bit_word}
use Rattle.isax_word.specs.declared.member.Member.{Member}
use Rattle.subtree_build.specs.declared.leaf.TreeLeaf.{TreeLeaf}
use Rattle.subtree_build.specs.Tree.{Tree, absent, leaf, split, leaves_of}
use Rattle.summary_phase.specs.Members.{members_of}
use Rattle.summary_phase.specs.Roots.{has_root, of_root}
use Rattle.subtree_build.specs.Splitting.{goes_high, goes_low, split_segment}

-- how many bits a word lacks of eight in each segment
abbrev pub bits_left : List Part → ℕ
bits_left [] = 0
bits_left (p ∷ word) = (8 - p.bits) + bits_left word

-- the leaf of a word and its members
abbrev pub leaf_with : List Part → List Member → TreeLeaf
leaf_with word members = record { word = word; members = members }

-- the node of a word that lacks `lacking` bits, and of these members: absent without members, a leaf where the
-- word lacks no bit or there are no more than `leaf_size` members, and else split into the members whose next
-- bit is 0 and those whose next bit is 1
unfoldable pub divide : ℕ → ℕ → List Part → List Member → Tree TreeLeaf
divide leaf_size lacking word [] = absent
divide leaf_size zero word (m ∷ members) = leaf (leaf_with word (m ∷ members))
divide leaf_size (suc lacking) word (m ∷ members) =
    let all = m ∷ members in
    let j = split_segment word all in
    if nat_le (length all) leaf_size then leaf (leaf_with word all) else
    split j
    (divide leaf_size lacking (child_word word j false) (filter (goes_low word j) all))
    (divide leaf_size lacking (child_word word j true) (filter (goes_high word j) all))

-- the node of a word and its members
abbrev pub node_of : ℕ → List Part → List Member → Tree TreeLeaf
node_of leaf_size word members = divide leaf_size (bits_left word) word members

-- the root numbers that some series has, ascending
abbrev pub roots_of : Collection → Layout → List ℕ
roots_of c layout =
    filter (λ root. list_any (has_root root) (members_of layout c))
    (range_with_len 0 (2 ^ layout.cuts.segments))

-- the root child of a root number, with all below it
abbrev pub root_child : Collection → Layout → ℕ → ℕ → Tree TreeLeaf
root_child c layout leaf_size root =
    node_of leaf_size (one_bit_word root layout.cuts.segments) (of_root (members_of layout c) root)

-- the tree of a collection: its root children, ascending by root number
unfoldable pub tree : Collection → Layout → ℕ → List (Tree TreeLeaf)
tree c layout leaf_size = map (root_child c layout leaf_size) (roots_of c layout)

-- the leaves of the tree in order, each a word and its members
abbrev pub tree_leaves : Collection → Layout → ℕ → List TreeLeaf
tree_leaves c layout leaf_size = flat_map (λ t. leaves_of t) (tree c layout leaf_size)
