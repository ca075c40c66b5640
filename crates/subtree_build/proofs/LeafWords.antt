-- The word of each leaf has as many parts as the index has segments (`leaf_has_segments`).
use Rattle.std.proofs.Common.{◌≡◌, ℕ, ◌<◌, true, false, List, [], ◌∷◌, length, get_or, ap, ◌∙◌, subst, arith, All, zero-add}
use Rattle.std.specs.Prelude.{flat_map, slice_index}
use Rattle.std.specs.List.{range_with_len}
use Rattle.std.proofs.lemmas.List.Elements.{All-nil, All-cons, All-append, All-head, All-tail}
use Rattle.std.proofs.lemmas.List.FromFn.{length-range_with_len, get_or-range_with_len}
use Rattle.std.proofs.lemmas.Option.{slice_get-get_or}
use Rattle.isax_word.specs.declared.word.Part.{Part}
use Rattle.isax_word.specs.Word.{child_word}
use Rattle.isax_word.proofs.Roots.{length-one_bit_word}
use Rattle.subtree_build.specs.declared.leaf.TreeLeaf.{TreeLeaf}
use Rattle.subtree_build.specs.Index.{IndexParts, IsIndex, StandsUnder, leaf_at, root_word_at}
use Rattle.subtree_build.specs.Outline.{outline, leaf_numbers}
use Rattle.subtree_build.specs.Tree.{Tree, absent, leaf, split, leaves_of}
use Rattle.subtree_build.proofs.Children.{length-child_word}

-- each leaf below a node has as many segments as the node
segments_below : (leaves : List TreeLeaf) (word : List Part) (t : Tree ℕ) (w : ℕ) → length word ≡ w
    → StandsUnder leaves word t → All (λ l. length (leaf_at leaves l).word ≡ w) (leaves_of t)
segments_below leaves word absent w is stands = All-nil _
segments_below leaves word (leaf l) w is stands =
    All-cons (λ m. length (leaf_at leaves m).word ≡ w) l [] (ap length stands.1 ∙ is) (All-nil _)
segments_below leaves word (split segment low high) w is stands =
    All-append (λ m. length (leaf_at leaves m).word ≡ w) (leaves_of low) (leaves_of high)
    (segments_below leaves (child_word word segment false) low w
    (length-child_word word segment false ∙ is) stands.1)
    (segments_below leaves (child_word word segment true) high w
    (length-child_word word segment true ∙ is) stands.2)

-- what holds of all items of each list holds of all items of the lists put together
pub all_pieces : {X Y : Type 0} (P : Y → Type 0) (h : X → List Y) (xs : List X)
    → All (λ x. All P (h x)) xs → All P (flat_map h xs)
all_pieces P h [] each = All-nil P
all_pieces P h (x ∷ xs) each =
    All-append P (h x) (flat_map h xs) (All-head (λ y. All P (h y)) x xs each)
    (all_pieces P h xs (All-tail (λ y. All P (h y)) x xs each))

-- each leaf has as many segments as the index
pub leaf_has_segments : (ix : IndexParts) → IsIndex ix → (l : ℕ) → l < length ix.leaves
    → length (leaf_at ix.leaves l).word ≡ ix.segments
leaf_has_segments ix index l low =
    let n = length ix.leaves in
    let Q : ℕ → Type 0 = λ m. length (leaf_at ix.leaves m).word ≡ ix.segments in
    let P : List ℕ → Type 0 = λ ls. All Q ls in
    let each : All (λ node. All Q (leaf_numbers node)) ix.nodes
    = λ i d inside.
    segments_below ix.leaves (root_word_at ix i) (outline (get_or ix.nodes i d)) ix.segments
    (length-one_bit_word (slice_index ix.roots i) ix.segments)
    (index.nodes_stand i (get_or ix.nodes i d) (slice_get-get_or ix.nodes i d inside)) in
    let all : All Q (range_with_len 0 n) = subst P index.in_order (all_pieces Q leaf_numbers ix.nodes each) in
    subst Q (get_or-range_with_len 0 n l 0 low ∙ zero-add l) (all l 0 (omega (arith, low, length-range_with_len 0 n)))
