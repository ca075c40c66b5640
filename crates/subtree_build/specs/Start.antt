-- The leaf where a search starts: at the root the child of least bound, ties to the smaller root number; at a
-- split the child of least bound, ties to the low one.
use Rattle.std.specs.Prelude.{ℕ, ◌==◌, ◌&&◌, ◌||◌, not, Bool, true, false, List, length, nat_lt, find, Option, option_map, slice_index_or, if◌then◌else◌}
use Rattle.std.specs.List.{list_all, range_with_len}
use Rattle.isax_word.specs.declared.word.Part.{Part}
use Rattle.isax_word.specs.Word.{child_word}
use Rattle.lower_bound.specs.Bound.{View, word_bound}
use Rattle.subtree_build.specs.declared.node.Node.{Node, Leaf}
use Rattle.subtree_build.specs.Tree.{Tree, absent, leaf, split, is_absent}
use Rattle.subtree_build.specs.Outline.{outline}
use Rattle.subtree_build.specs.Index.{IndexParts, root_word_at}

-- whether the bound of the high child is less than that of the low one
abbrev pub is_high_nearer : View → List Part → ℕ → Bool
is_high_nearer view word segment =
    nat_lt (word_bound view (child_word word segment true))
    (word_bound view (child_word word segment false))

-- whether the high child is taken: where there is no low child, and where there are both and its bound is less
abbrev pub takes_high : View → List Part → ℕ → Tree ℕ → Tree ℕ → Bool
takes_high view word segment low high =
    is_absent low
    || (not (is_absent high) && is_high_nearer view word segment)

-- the leaf that the descent from a node of this word reaches
abbrev pub first_descent : View → List Part → Tree ℕ → ℕ
first_descent view word absent = 0
first_descent view word (leaf l) = l
first_descent view word (split segment low high) =
    if takes_high view word segment low high
    then first_descent view (child_word word segment true) high
    else first_descent view (child_word word segment false) low

-- the bound of root child number i
abbrev pub root_bound : View → IndexParts → ℕ → ℕ
root_bound view ix i = word_bound view (root_word_at ix i)

-- whether root child k is taken rather than i: its bound is less, or equal with a smaller root number
abbrev pub is_nearer : View → IndexParts → ℕ → ℕ → Bool
is_nearer view ix k i =
    nat_lt (root_bound view ix k) (root_bound view ix i)
    || (root_bound view ix k == root_bound view ix i && nat_lt k i)

-- whether no root child is taken rather than i
abbrev pub is_nearest : View → IndexParts → ℕ → Bool
is_nearest view ix i =
    list_all (λ k. not (is_nearer view ix k i)) (range_with_len 0 (length ix.roots))

-- the node of root child number i
abbrev pub node_at : IndexParts → ℕ → Node
node_at ix i = slice_index_or ix.nodes i (Leaf 0)

-- the start leaf, and none where there is no root child
unfoldable pub start_leaf_of : View → IndexParts → Option ℕ
start_leaf_of view ix =
    option_map (λ i. first_descent view (root_word_at ix i) (outline (node_at ix i)))
    (find (is_nearest view ix) (range_with_len 0 (length ix.roots)))
