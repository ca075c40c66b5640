-- The start leaf of an index is one of its leaves (`start_is_leaf`), and that which the index told is it (`told_start`).
use Rattle.std.proofs.Common.{◌≡◌, ℕ, zero, suc, ◌+◌, ◌<◌, List, length, Bool, true, false, refl, sym, ap, ◌∙◌, subst, ⊎_elim, arith}
use Rattle.std.specs.Prelude.{Some, None, Option, find, not, nat_lt, option_map, ◌&&◌, ◌||◌}
use Rattle.std.specs.List.{range_with_len}
use Rattle.std.proofs.lemmas.Bool.{cases_Bool, cond_both, cond-true, cond-false}
use Rattle.std.proofs.lemmas.Option.{none-some, same_Some, slice_get-get_or}
use Rattle.isax_word.specs.declared.word.Part.{Part}
use Rattle.isax_word.specs.Word.{child_word}
use Rattle.lower_bound.specs.Bound.{View, word_bound}
use Rattle.subtree_build.specs.declared.leaf.TreeLeaf.{TreeLeaf}
use Rattle.subtree_build.specs.declared.node.Node.{Leaf}
use Rattle.subtree_build.specs.Tree.{Tree, absent, leaf, split, is_absent}
use Rattle.subtree_build.specs.Outline.{outline}
use Rattle.subtree_build.specs.Index.{IndexParts, IsIndex, StandsUnder, root_word_at}
use Rattle.subtree_build.specs.Start.{takes_high, first_descent, is_nearest, node_at, start_leaf_of}
use Rattle.subtree_build.proofs.Outlines.{present}
use Rattle.search_task.specs.Questions.{Question, view_in}

-- where the high child is taken, it is there
high_there : (a b t : Bool) → (a && b) ≡ false → (a || (not b && t)) ≡ true → b ≡ false
high_there true b t some takes = some
high_there false true t some takes = cc
high_there false false t some takes = refl

-- and else the low one is there
low_there : (a b t : Bool) → (a || (not b && t)) ≡ false → a ≡ false
low_there true b t takes = cc
low_there false b t takes = refl

-- the descent from a node that stands somewhere leads to a leaf
descent_to_leaf : (view : View) (leaves : List TreeLeaf) (word : List Part) (t : Tree ℕ)
    → StandsUnder leaves word t → is_absent t ≡ false → first_descent view word t < length leaves
descent_to_leaf view leaves word absent stands there = cc
descent_to_leaf view leaves word (leaf l) stands there = stands.0
descent_to_leaf view leaves word (split segment low high) stands there =
    let less = nat_lt (word_bound view (child_word word segment true))
    (word_bound view (child_word word segment false)) in
    cond_both (takes_high view word segment low high)
    (first_descent view (child_word word segment true) high)
    (first_descent view (child_word word segment false) low)
    (λ l. l < length leaves)
    (λ yes. descent_to_leaf view leaves (child_word word segment true) high stands.2
    (high_there (is_absent low) (is_absent high) less stands.0.some_child yes))
    (λ no. descent_to_leaf view leaves (child_word word segment false) low stands.1
    (low_there (is_absent low) (is_absent high) less no))

-- what is found among the numbers from a on is one of them
found_in_range : (p : ℕ → Bool) (a n i : ℕ) → find p (range_with_len a n) ≡ Some i → i < a + n
found_in_range p a zero i e = absurd (none-some i e)
found_in_range p a (suc n) i e = ⊎_elim
    (λ (yes : p a ≡ true).
    let same = same_Some a i (sym (cond-true (p a) (Some a) rest yes) ∙ e) in omega arith)
    (λ (no : p a ≡ false).
    let later = found_in_range p (a + 1) n i (sym (cond-false (p a) (Some a) rest no) ∙ e) in
    omega arith)
    (cases_Bool (p a))
  where
    rest : Option ℕ
    rest = find p (range_with_len (a + 1) n)

-- the start leaf is one of the leaves
pub start_is_leaf : (view : View) (ix : IndexParts) (l : ℕ) → IsIndex ix
    → start_leaf_of view ix ≡ Some l → l < length ix.leaves
unfolding start_leaf_of
start_is_leaf view ix l index e = at (find (is_nearest view ix) (range_with_len 0 (length ix.roots))) refl e
  where
    reached : (i : ℕ) → i < length ix.roots
        → first_descent view (root_word_at ix i) (outline (node_at ix i)) < length ix.leaves
    reached i low =
        let nodes = index.one_node_each in
        let inside : i < length ix.nodes = omega arith in
        descent_to_leaf view ix.leaves (root_word_at ix i) (outline (node_at ix i))
        (index.nodes_stand i (node_at ix i) (slice_get-get_or ix.nodes i (Leaf 0) inside))
        (present (node_at ix i))

    at : (o : Option ℕ) → find (is_nearest view ix) (range_with_len 0 (length ix.roots)) ≡ o
        → option_map (λ i. first_descent view (root_word_at ix i) (outline (node_at ix i))) o ≡ Some l
        → l < length ix.leaves
    at None found e = absurd (none-some l e)
    at (Some i) found e =
        let low = found_in_range (is_nearest view ix) 0 (length ix.roots) i found in
        subst (λ m. m < length ix.leaves) (same_Some _ l e) (reached i (omega arith))

-- the start leaf that an index told for the question's own view
pub told_start : (a : Question) (ix : IndexParts) (view : View) (told : Option ℕ) (l : ℕ) → view ≡ view_in a
    → told ≡ start_leaf_of view ix → told ≡ Some l → start_leaf_of (view_in a) ix ≡ Some l
told_start a ix view told l own is some = sym (ap (λ (v : View). start_leaf_of v ix) own) ∙ sym is ∙ some
