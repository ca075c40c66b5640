-- The start leaf: none where there is no root child (`start_none`), and else where the descent from the nearest
-- root child leads (`start_some`).
use Rattle.std.proofs.Common.{◌≡◌, ℕ, zero, suc, ◌<◌, List, [], ◌∷◌, length, refl, ap, ◌∙◌, arith}
use Rattle.std.specs.Prelude.{Some, None, true, false, find, option_map, slice_get}
use Rattle.std.proofs.lemmas.Bool.{false≢true}
use Rattle.std.specs.List.{range_with_len, flat_map}
use Rattle.std.proofs.lemmas.Option.{get_or_from_slice_get}
use Rattle.lower_bound.specs.Bound.{View}
use Rattle.subtree_build.specs.declared.node.Node.{Node, Leaf}
use Rattle.subtree_build.specs.Outline.{outline, leaf_numbers}
use Rattle.subtree_build.specs.Index.{IndexParts, IsIndex, root_word_at}
use Rattle.subtree_build.specs.Start.{first_descent, is_nearest, node_at, start_leaf_of}

-- without a nearest root child there is no start leaf
pub start_none : (view : View) (ix : IndexParts)
    → find (is_nearest view ix) (range_with_len 0 (length ix.roots)) ≡ None
    → start_leaf_of view ix ≡ None
unfolding start_leaf_of
start_none view ix h =
    ap (option_map (λ i. first_descent view (root_word_at ix i) (outline (node_at ix i)))) h

-- the start leaf is where the descent from the nearest root child leads
pub start_some : (view : View) (ix : IndexParts) (i : ℕ) (node : Node)
    → find (is_nearest view ix) (range_with_len 0 (length ix.roots)) ≡ Some i
    → slice_get ix.nodes i ≡ Some node
    → start_leaf_of view ix ≡ Some (first_descent view (root_word_at ix i) (outline node))
unfolding start_leaf_of
start_some view ix i node h is =
    ap (option_map (λ i. first_descent view (root_word_at ix i) (outline (node_at ix i)))) h
    ∙ ap (λ n. Some (first_descent view (root_word_at ix i) (outline n)))
    (get_or_from_slice_get ix.nodes i node (Leaf 0) is)

-- no numbers from 0 on are none
none_in_range : (n : ℕ) → [] ≡ range_with_len 0 n → n ≡ 0
none_in_range zero h = refl
none_in_range (suc n) h = cc

-- an index without root children has no leaf
pub no_leaves : (ix : IndexParts) → IsIndex ix → length ix.roots ≡ 0 → length ix.leaves ≡ 0
no_leaves ix kept none =
    none_in_range (length ix.leaves)
    (of_none ix.nodes (kept.one_node_each ∙ none) ∙ kept.in_order)
  where
    -- no nodes have no leaves below them
    of_none : (nodes : List Node) → length nodes ≡ 0 → [] ≡ flat_map leaf_numbers nodes
    of_none [] h = refl
    of_none (n ∷ nodes) h = absurd (omega arith)

-- where there is no root child there is no leaf
pub none_is_none : (ix : IndexParts) → IsIndex ix → (0 < length ix.roots → false ≡ true)
    → (0 < length ix.leaves → false ≡ true)
none_is_none ix kept no_root leaves =
    absurd (omega (arith, no_leaves ix kept (is_none (length ix.roots) no_root)))
  where
    -- a number that is not above 0 is 0
    is_none : (n : ℕ) → (0 < n → false ≡ true) → n ≡ 0
    is_none zero none = refl
    is_none (suc n) none = absurd (false≢true (none (omega arith)))
