-- The leaves of an index by its nodes: their words (`words_told`), and with the numbers of their members those of what is saved
-- (`leaves_told`).
use Rattle.std.proofs.Common.{◌≡◌, ℕ, zero, suc, ◌+◌, ◌<◌, true, false, List, [], ◌∷◌, ◌++◌, length, map, refl, sym, ap, ◌∙◌, arith, zero-add}
use Rattle.std.specs.Prelude.{Some, flat_map, slice_get, slice_index}
use Rattle.std.specs.List.{range_with_len}
use Rattle.std.proofs.lemmas.List.{get_or-map, length-map, map-append, same_lists}
use Rattle.std.proofs.lemmas.List.FromFn.{get_or-map-range_with_len, length-map-range_with_len}
use Rattle.isax_word.specs.declared.word.Part.{Part}
use Rattle.isax_word.specs.Word.{child_word, one_bit_word}
use Rattle.subtree_build.specs.declared.leaf.TreeLeaf.{TreeLeaf}
use Rattle.subtree_build.specs.declared.node.Node.{Node}
use Rattle.subtree_build.specs.Assembly.{all_words, leaf_words}
use Rattle.subtree_build.specs.Index.{IndexParts, IsIndex, StandsUnder, leaf_at, no_leaf}
use Rattle.subtree_build.specs.Members.{numbers_of}
use Rattle.subtree_build.specs.Outline.{outline, leaf_numbers}
use Rattle.subtree_build.specs.Tree.{Tree, absent, leaf, split, leaves_of, numbered, all_numbered}
use Rattle.subtree_build.proofs.Assembled.{words_of}
use Rattle.subtree_build.proofs.Indexing.{length-all_numbered}
use Rattle.saved_index.specs.Faults.{WordedLeaf, worded, all_worded, saved_leaves}
use Rattle.saved_index.specs.Saved.{Saved}

-- a leaf as it is saved
abbrev pub worded_leaf : TreeLeaf → WordedLeaf
worded_leaf x = record { word = x.word; numbers = numbers_of x.members }

-- what the leaves of all numbers in order have is what the leaves have
pub leaves_by_number : {X : Type 0} (f : TreeLeaf → X) (leaves : List TreeLeaf)
    → map (λ l. f (leaf_at leaves l)) (range_with_len 0 (length leaves)) ≡ map f leaves
leaves_by_number {X} f leaves =
    let n = length leaves in
    let g : ℕ → X = λ l. f (leaf_at leaves l) in
    let long : length (map g (range_with_len 0 n)) ≡ n = length-map-range_with_len g 0 n in
    same_lists (map g (range_with_len 0 n)) (map f leaves) (long ∙ sym (length-map leaves f))
    (λ k d inside.
    let low : k < n = omega (arith, long, inside) in
    get_or-map-range_with_len g 0 n k k d low (zero-add k) ∙ sym (get_or-map f leaves k no_leaf d low))

-- the words of the leaves below a node that stands under a word
words_below : (leaves : List TreeLeaf) (word : List Part) (t : Tree ℕ) → StandsUnder leaves word t
    → map (λ l. (leaf_at leaves l).word) (leaves_of t) ≡ leaf_words word t
words_below leaves word absent stands = refl
words_below leaves word (leaf l) stands = ap (λ (w : List Part). w ∷ []) stands.1
words_below leaves word (split j low high) stands =
    let f : ℕ → List Part = λ l. (leaf_at leaves l).word in
    map-append f (leaves_of low) (leaves_of high)
    ∙ ap (λ ws. ws ++ map f (leaves_of high)) (words_below leaves (child_word word j false) low stands.1)
    ∙ ap (λ ws. leaf_words (child_word word j false) low ++ ws)
    (words_below leaves (child_word word j true) high stands.2)

-- and of those below root children that stand under their one-bit words
words_below_nodes : (leaves : List TreeLeaf) (w : ℕ) (roots : List ℕ) (nodes : List Node) → length nodes ≡ length roots
    → ((i : ℕ) (node : Node) → slice_get nodes i ≡ Some node
    → StandsUnder leaves (one_bit_word (slice_index roots i) w) (outline node))
    → map (λ l. (leaf_at leaves l).word) (flat_map leaf_numbers nodes) ≡ all_words w roots nodes
words_below_nodes leaves w [] [] one stand = refl
words_below_nodes leaves w [] (n ∷ nodes) one stand = absurd (omega (arith, one))
words_below_nodes leaves w (root ∷ roots) [] one stand = refl
words_below_nodes leaves w (root ∷ roots) (n ∷ nodes) one stand =
    let f : ℕ → List Part = λ l. (leaf_at leaves l).word in
    map-append f (leaf_numbers n) (flat_map leaf_numbers nodes)
    ∙ ap (λ ws. ws ++ map f (flat_map leaf_numbers nodes))
    (words_below leaves (one_bit_word root w) (outline n) (stand zero n refl))
    ∙ ap (λ ws. leaf_words (one_bit_word root w) (outline n) ++ ws)
    (words_below_nodes leaves w roots nodes (omega (arith, one)) (λ i node here. stand (suc i) node here))

-- the words of an index' leaves are those of its nodes
pub words_told : (ix : IndexParts) → IsIndex ix → words_of ix.leaves ≡ all_words ix.segments ix.roots ix.nodes
words_told ix is =
    sym (leaves_by_number (λ x. x.word) ix.leaves)
    ∙ ap (map (λ l. (leaf_at ix.leaves l).word)) (sym is.in_order)
    ∙ words_below_nodes ix.leaves ix.segments ix.roots ix.nodes is.one_node_each is.nodes_stand

-- the words of a tree's leaves, numbered or not
words_of_worded : (first : ℕ) (word : List Part) (t : Tree (List ℕ))
    → leaf_words word (numbered first t) ≡ map (λ (x : WordedLeaf). x.word) (worded word t)
words_of_worded first word absent = refl
words_of_worded first word (leaf numbers) = refl
words_of_worded first word (split j low high) =
    let low_word = child_word word j false in
    let high_word = child_word word j true in
    let behind = first + length (leaves_of low) in
    let f : WordedLeaf → List Part = λ x. x.word in
    ap (λ ws. ws ++ leaf_words high_word (numbered behind high)) (words_of_worded first low_word low)
    ∙ ap (λ ws. map f (worded low_word low) ++ ws) (words_of_worded behind high_word high)
    ∙ sym (map-append f (worded low_word low) (worded high_word high))

words_of_all_worded : (w first : ℕ) (roots : List ℕ) (nodes : List Node) (trees : List (Tree (List ℕ)))
    → map outline nodes ≡ all_numbered first trees
    → all_words w roots nodes ≡ map (λ (x : WordedLeaf). x.word) (all_worded w roots trees)
words_of_all_worded w first [] nodes trees is = refl
words_of_all_worded w first (root ∷ roots) [] [] is = refl
words_of_all_worded w first (root ∷ roots) [] (t ∷ trees) is = cc
words_of_all_worded w first (root ∷ roots) (n ∷ nodes) [] is = cc
words_of_all_worded w first (root ∷ roots) (n ∷ nodes) (t ∷ trees) is =
    let word = one_bit_word root w in
    let behind = first + length (leaves_of t) in
    let f : WordedLeaf → List Part = λ x. x.word in
    let here : outline n ≡ numbered first t = cc in
    let rest : map outline nodes ≡ all_numbered behind trees = cc in
    ap (λ (o : Tree ℕ). leaf_words word o ++ all_words w roots nodes) here
    ∙ ap (λ ws. ws ++ all_words w roots nodes) (words_of_worded first word t)
    ∙ ap (λ ws. map f (worded word t) ++ ws) (words_of_all_worded w behind roots nodes trees rest)
    ∙ sym (map-append f (worded word t) (all_worded w roots trees))

-- the numbers of a tree's leaves are what its leaves hold
numbers_of_worded : (word : List Part) (t : Tree (List ℕ))
    → map (λ (x : WordedLeaf). x.numbers) (worded word t) ≡ leaves_of t
numbers_of_worded word absent = refl
numbers_of_worded word (leaf numbers) = refl
numbers_of_worded word (split j low high) =
    let low_word = child_word word j false in
    let high_word = child_word word j true in
    let f : WordedLeaf → List ℕ = λ x. x.numbers in
    map-append f (worded low_word low) (worded high_word high)
    ∙ ap (λ ns. ns ++ map f (worded high_word high)) (numbers_of_worded low_word low)
    ∙ ap (λ ns. leaves_of low ++ ns) (numbers_of_worded high_word high)

numbers_of_all_worded : (w : ℕ) (roots : List ℕ) (trees : List (Tree (List ℕ))) → length trees ≡ length roots
    → map (λ (x : WordedLeaf). x.numbers) (all_worded w roots trees)
    ≡ flat_map (λ (t : Tree (List ℕ)). leaves_of t) trees
numbers_of_all_worded w [] [] one = refl
numbers_of_all_worded w [] (t ∷ trees) one = absurd (omega (arith, one))
numbers_of_all_worded w (root ∷ roots) [] one = refl
numbers_of_all_worded w (root ∷ roots) (t ∷ trees) one =
    let word = one_bit_word root w in
    let f : WordedLeaf → List ℕ = λ x. x.numbers in
    map-append f (worded word t) (all_worded w roots trees)
    ∙ ap (λ ns. ns ++ map f (all_worded w roots trees)) (numbers_of_worded word t)
    ∙ ap (λ ns. leaves_of t ++ ns) (numbers_of_all_worded w roots trees (omega (arith, one)))

-- leaves with the words and the numbers of saved ones are these
same_worded : (xs : List TreeLeaf) (ys : List WordedLeaf) → words_of xs ≡ map (λ (y : WordedLeaf). y.word) ys
    → map (λ (x : TreeLeaf). numbers_of x.members) xs ≡ map (λ (y : WordedLeaf). y.numbers) ys
    → map worded_leaf xs ≡ ys
same_worded [] [] words numbers = refl
same_worded [] (y ∷ ys) words numbers = cc
same_worded (x ∷ xs) [] words numbers = cc
same_worded (x ∷ xs) (y ∷ ys) words numbers =
    let word_is : x.word ≡ y.word = cc in
    let numbers_are : numbers_of x.members ≡ y.numbers = cc in
    let words_behind : words_of xs ≡ map (λ (y : WordedLeaf). y.word) ys = cc in
    let numbers_behind : map (λ (x : TreeLeaf). numbers_of x.members) xs ≡ map (λ (y : WordedLeaf). y.numbers) ys = cc in
    let rest = same_worded xs ys words_behind numbers_behind in
    λ i. record { word = word_is i; numbers = numbers_are i } ∷ rest i

-- The leaves of an index are those of what is saved, in order, where its root numbers and nodes are, and where the numbers of
-- its leaves' members are.
pub leaves_told : (ix : IndexParts) (s : Saved) → IsIndex ix → ix.segments ≡ s.header.segments → ix.roots ≡ s.roots
    → map outline ix.nodes ≡ all_numbered 0 s.nodes
    → map (λ (x : TreeLeaf). numbers_of x.members) ix.leaves ≡ flat_map (λ (t : Tree (List ℕ)). leaves_of t) s.nodes
    → map worded_leaf ix.leaves ≡ saved_leaves s
leaves_told ix s is segments roots nodes numbers =
    let w = s.header.segments in
    let one : length s.nodes ≡ length s.roots
    = sym (length-all_numbered 0 s.nodes)
    ∙ ap (λ (ts : List (Tree ℕ)). length ts) (sym nodes)
    ∙ length-map ix.nodes outline
    ∙ is.one_node_each
    ∙ ap (λ (rs : List ℕ). length rs) roots in
    same_worded ix.leaves (saved_leaves s)
    (words_told ix is
    ∙ ap (λ n. all_words n ix.roots ix.nodes) segments
    ∙ ap (λ rs. all_words w rs ix.nodes) roots
    ∙ words_of_all_worded w 0 s.roots ix.nodes s.nodes nodes)
    (numbers ∙ sym (numbers_of_all_worded w s.roots s.nodes one))
