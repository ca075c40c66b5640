-- Each leaf of an index is below one root child, once (`below_count`), below each root child there is some leaf
-- (`some_below`), and each leaf has a word (`leaf_has_word`).
use Rattle.std.proofs.Common.{◌≡◌, ℕ, zero, suc, ◌+◌, ◌<◌, ◌≤◌, ◌⊎◌, inl, inr, List, [], length, map, Bool, true, false, refl, sym, ap, ◌∙◌, subst, ⊎_elim, arith, All}
use Rattle.std.specs.Prelude.{Some, slice_get, slice_index, slice_index_or, ◌&&◌}
use Rattle.std.specs.List.{range_with_len}
use Rattle.std.proofs.lemmas.Bool.{cases_eq}
use Rattle.std.proofs.lemmas.Bool.Decides.{nat_tests}
use Rattle.std.proofs.lemmas.List.{length-append}
use Rattle.std.proofs.lemmas.List.Elements.{All-nil, All-cons, All-append}
use Rattle.std.proofs.lemmas.Option.{slice_get-get_or}
use Rattle.list_totals.specs.Totals.{total, times, one_if_same, once_below}
use Rattle.list_totals.proofs.Places.{times_contains, total_some}
use Rattle.list_totals.proofs.Totals.{total_map, once_below_yes}
use Rattle.isax_word.specs.declared.word.Part.{Part}
use Rattle.isax_word.specs.Word.{IsWord, child_word}
use Rattle.isax_word.proofs.Roots.{IsWord-one_bit_word}
use Rattle.isax_word.proofs.Words.{IsWord-child_word}
use Rattle.subtree_build.specs.declared.leaf.TreeLeaf.{TreeLeaf}
use Rattle.subtree_build.specs.declared.node.Node.{Node, Leaf}
use Rattle.subtree_build.specs.Tree.{Tree, absent, leaf, split, leaves_of, is_absent}
use Rattle.subtree_build.specs.Outline.{outline, leaf_numbers}
use Rattle.subtree_build.specs.Index.{IndexParts, IsIndex, StandsUnder, leaf_at, root_word_at}
use Rattle.subtree_build.proofs.Fitting.{total_flat_map}
use Rattle.subtree_build.proofs.Outlines.{present}
use Rattle.search_machine.proofs.Counts.{equal_counts, others_count}
use Rattle.search_machine.proofs.Places.{get_map}

-- a number from a on, of n, stands there once
pub times_range : (x a n : ℕ) → a ≤ x → times x (range_with_len a n) ≡ once_below x (a + n)
times_range x a zero low = grind (arith, nat_tests)
times_range x a (suc n) low = ⊎_elim
    (λ (e : x ≡ a). first e)
    (λ (ne : x ≡ a → ⊥).
    let none = others_count x a ne in
    let rest = times_range x (a + 1) n (omega arith) in
    let same : a + 1 + n ≡ a + suc n = omega arith in
    let end = ap (once_below x) same in
    omega arith)
    (cases_eq x a)
  where
    -- a number below those from b on is not among them
    before : (b m : ℕ) → x < b → times x (range_with_len b m) ≡ 0
    before b zero less = refl
    before b (suc m) less =
        let none = others_count x b (λ e. omega arith) in
        let rest = before (b + 1) m (omega arith) in
        omega arith

    first : x ≡ a → times x (range_with_len a (suc n)) ≡ once_below x (a + suc n)
    first e =
        let one = equal_counts x a e in
        let rest = before (a + 1) n (omega arith) in
        let whole = once_below_yes x (a + suc n) (omega arith) in
        omega arith

-- a number below the count of leaves stands once below the root children, and no other does
pub below_count : (ix : IndexParts) → IsIndex ix → (l : ℕ)
    → total (times l) (map leaf_numbers ix.nodes) ≡ once_below l (length ix.leaves)
below_count ix index l =
    let none : 0 + length ix.leaves ≡ length ix.leaves = omega arith in
    total_map (times l) leaf_numbers ix.nodes
    ∙ sym (total_flat_map (one_if_same l) leaf_numbers ix.nodes)
    ∙ ap (times l) index.in_order
    ∙ times_range l 0 (length ix.leaves) (omega arith)
    ∙ ap (once_below l) none

-- of two children of which not both are absent, one is there
pub one_there : (a b : Bool) → (a && b) ≡ false → (a ≡ false) ⊎ (b ≡ false)
one_there false b h = inl refl
one_there true b h = inr h

-- below a node that stands somewhere there is a leaf
tree_has_leaf : (leaves : List TreeLeaf) (word : List Part) (t : Tree ℕ) → StandsUnder leaves word t
    → is_absent t ≡ false → 0 < length (leaves_of t)
tree_has_leaf leaves word absent stands there = cc
tree_has_leaf leaves word (leaf l) stands there = omega arith
tree_has_leaf leaves word (split segment low high) stands there = ⊎_elim
    (λ (h : is_absent low ≡ false).
    let some = tree_has_leaf leaves (child_word word segment false) low stands.1 h in
    omega (arith, some, length-append (leaves_of low) (leaves_of high)))
    (λ (h : is_absent high ≡ false).
    let some = tree_has_leaf leaves (child_word word segment true) high stands.2 h in
    omega (arith, some, length-append (leaves_of low) (leaves_of high)))
    (one_there (is_absent low) (is_absent high) stands.0.some_child)

-- below each root child there is a leaf
pub some_below : (ix : IndexParts) → IsIndex ix → (i : ℕ) (ls : List ℕ)
    → slice_get (map leaf_numbers ix.nodes) i ≡ Some ls → 0 < length ls
some_below ix index i ls e =
    let there = get_map leaf_numbers ix.nodes i ls e in
    subst (λ (xs : List ℕ). 0 < length xs) there.2
    (tree_has_leaf ix.leaves (root_word_at ix i) (outline there.0)
    (index.nodes_stand i there.0 there.1) (present there.0))

-- each leaf below a node that stands under a word has a word
words_below : (leaves : List TreeLeaf) (word : List Part) (t : Tree ℕ) → IsWord word
    → StandsUnder leaves word t → All (λ l. IsWord (leaf_at leaves l).word) (leaves_of t)
words_below leaves word absent is stands = All-nil _
words_below leaves word (leaf l) is stands =
    All-cons (λ m. IsWord (leaf_at leaves m).word) l [] (subst IsWord (sym stands.1) is) (All-nil _)
words_below leaves word (split segment low high) is stands =
    let used = stands.0.used in
    let divisible = stands.0.divisible in
    All-append (λ m. IsWord (leaf_at leaves m).word) (leaves_of low) (leaves_of high)
    (words_below leaves (child_word word segment false) low
    (IsWord-child_word word segment false is used divisible) stands.1)
    (words_below leaves (child_word word segment true) high
    (IsWord-child_word word segment true is used divisible) stands.2)

-- the word of a root child
pub root_has_word : (ix : IndexParts) → IsIndex ix → (i : ℕ) → i < length ix.roots
    → IsWord (root_word_at ix i)
root_has_word ix index i low =
    IsWord-one_bit_word (slice_index ix.roots i) ix.segments index.some_segments index.few_segments
    (index.roots_fit i 0 low)

-- what holds of the word of each leaf below each root child holds of the word of each leaf
each_leaf : (ix : IndexParts) → IsIndex ix → (P : List Part → Type 0)
    → ((i : ℕ) → i < length ix.nodes
    → All (λ l. P (leaf_at ix.leaves l).word) (leaf_numbers (slice_index_or ix.nodes i (Leaf 0))))
    → (l : ℕ) → l < length ix.leaves → P (leaf_at ix.leaves l).word
each_leaf ix index P below l low =
    let once = once_below_yes l (length ix.leaves) low in
    let all = below_count ix index l in
    let over = total_map (times l) leaf_numbers ix.nodes in
    let root = total_some (λ (n : Node). times l (leaf_numbers n)) ix.nodes (Leaf 0) (omega arith) in
    let node = slice_index_or ix.nodes root.0 (Leaf 0) in
    let place = times_contains l (leaf_numbers node) root.2 in
    let at : ℕ = slice_index_or (leaf_numbers node) place.0 l in
    subst (λ (m : ℕ). P (leaf_at ix.leaves m).word) {x = at} place.2 (below root.0 root.1 place.0 l place.1)

-- each leaf has a word
pub leaf_has_word : (ix : IndexParts) → IsIndex ix → (l : ℕ) → l < length ix.leaves
    → IsWord (leaf_at ix.leaves l).word
leaf_has_word ix index =
    each_leaf ix index IsWord
    (λ i real.
    words_below ix.leaves (root_word_at ix i) (outline (slice_index_or ix.nodes i (Leaf 0)))
    (root_has_word ix index i (omega (arith, index.one_node_each)))
    (index.nodes_stand i (slice_index_or ix.nodes i (Leaf 0)) (slice_get-get_or ix.nodes i (Leaf 0) real)))
