-- An index that is the tree of a collection keeps the facts of every index (`tree_is_index`).
use Rattle.std.proofs.Common.{◌≡◌, ℕ, zero, suc, ◌+◌, ◌^◌, ◌<◌, ◌≤◌, ℤ, List, [], ◌∷◌, ◌++◌, length, map, refl, sym, ap, ◌∙◌, subst, arith, All, length-append, append_assoc, zero-add, add-zero}
use Rattle.std.specs.Prelude.{flat_map, Some, slice_get, slice_index}
use Rattle.std.specs.List.{range_with_len, list_any}
use Rattle.std.specs.List.Sorted.{IsStrictlyIncreasing}
use Rattle.std.proofs.lemmas.List.{length-map}
use Rattle.std.proofs.lemmas.List.Elements.{All-head, All-tail}
use Rattle.std.proofs.lemmas.Option.{same_Some, none-some}
use Rattle.std.proofs.Math.Nat.{pow-le-pow_right}
use Rattle.list_totals.specs.Totals.{total}
use Rattle.series_core.specs.Collection.{Collection, IsCollection}
use Rattle.segment_sums.specs.Division.{IsDivision}
use Rattle.isax_word.specs.declared.layout.Layout.{Layout}
use Rattle.isax_word.specs.Word.{one_bit_word}
use Rattle.isax_word.proofs.Roots.{IsWord-one_bit_word}
use Rattle.isax_word.specs.declared.member.Member.{Member}
use Rattle.summary_phase.specs.Members.{members_from, members_of}
use Rattle.summary_phase.specs.Roots.{has_root, of_root}
use Rattle.subtree_build.specs.declared.leaf.TreeLeaf.{TreeLeaf}
use Rattle.subtree_build.specs.declared.node.Node.{Node}
use Rattle.subtree_build.specs.Tree.{Tree, absent, leaf, split, leaves_of, numbered, all_numbered}
use Rattle.subtree_build.specs.Outline.{outline, leaf_numbers}
use Rattle.subtree_build.specs.Division.{bits_left, roots_of, root_child, tree, tree_leaves}
use Rattle.subtree_build.specs.Index.{IndexParts, IsIndex, StandsUnder}
use Rattle.subtree_build.specs.Fits.{IsTreeOf}
use Rattle.subtree_build.proofs.Partition.{total_by_roots}
use Rattle.subtree_build.proofs.RootNumbers.{ascend_filter, increasing, below_count, no_more, root_once}
use Rattle.subtree_build.proofs.OfCollection.{root_fits}
use Rattle.subtree_build.proofs.Standing.{divided_stands}
use Rattle.subtree_build.proofs.Divisions.{few_leaves}
use Rattle.subtree_build.proofs.Fitting.{total_flat_map, leaves_by_roots}

-- numbers in a row, in two parts
pub range_parts : (a m n : ℕ)
    → range_with_len a (m + n) ≡ range_with_len a m ++ range_with_len (a + m) n
range_parts a zero n =
    ap (range_with_len a) (zero-add n) ∙ ap (λ k. range_with_len k n) (sym (add-zero a))
range_parts a (suc m) n =
    let more : suc m + n ≡ suc (m + n) = omega arith in
    let from : a + 1 + m ≡ a + suc m = omega arith in
    ap (range_with_len a) more
    ∙ ap (λ xs. a ∷ xs)
    (range_parts (a + 1) m n ∙ ap (λ k. range_with_len (a + 1) m ++ range_with_len k n) from)

-- the leaves of a numbered tree are numbered in order
pub leaves_numbered : {A : Type 0} (first : ℕ) (t : Tree A)
    → leaves_of (numbered first t) ≡ range_with_len first (length (leaves_of t))
leaves_numbered first absent = refl
leaves_numbered first (leaf x) = refl
leaves_numbered first (split j low high) =
    ap (λ xs. xs ++ leaves_of (numbered (first + length (leaves_of low)) high)) (leaves_numbered first low)
    ∙ ap (λ xs. range_with_len first (length (leaves_of low)) ++ xs)
    (leaves_numbered (first + length (leaves_of low)) high)
    ∙ sym (range_parts first (length (leaves_of low)) (length (leaves_of high)))
    ∙ ap (range_with_len first) (sym (length-append (leaves_of low) (leaves_of high)))

-- so are those of trees that are numbered on from one to the next
all_leaves_numbered : {A : Type 0} (first : ℕ) (trees : List (Tree A))
    → flat_map (λ t. leaves_of t) (all_numbered first trees)
    ≡ range_with_len first (length (flat_map (λ t. leaves_of t) trees))
all_leaves_numbered first [] = refl
all_leaves_numbered first (t ∷ trees) =
    let here = length (leaves_of t) in
    let rest = flat_map (λ t. leaves_of t) trees in
    ap (λ xs. xs ++ flat_map (λ t. leaves_of t) (all_numbered (first + here) trees)) (leaves_numbered first t)
    ∙ ap (λ xs. range_with_len first here ++ xs) (all_leaves_numbered (first + here) trees)
    ∙ sym (range_parts first here (length rest))
    ∙ ap (range_with_len first) (sym (length-append (leaves_of t) rest))

-- the leaf numbers of nodes are the leaves of their outlines
pub numbers_of_outlines : (nodes : List Node)
    → flat_map leaf_numbers nodes ≡ flat_map (λ (t : Tree ℕ). leaves_of t) (map outline nodes)
numbers_of_outlines [] = refl
numbers_of_outlines (n ∷ nodes) = ap (λ xs. leaf_numbers n ++ xs) (numbers_of_outlines nodes)

-- as many numbered trees as trees
pub length-all_numbered : {A : Type 0} (first : ℕ) (trees : List (Tree A))
    → length (all_numbered first trees) ≡ length trees
length-all_numbered first [] = refl
length-all_numbered first (t ∷ trees) =
    let rest = length-all_numbered (first + length (leaves_of t)) trees in omega arith

-- each root child's node stands under its one-bit word
roots_stand : (c : Collection) (layout : Layout) (size : ℕ) (before : List TreeLeaf) (roots : List ℕ)
    (nodes : List Node) (leaves : List TreeLeaf) → IsDivision layout.cuts
    → All (λ root. root < 2 ^ layout.cuts.segments) roots
    → map outline nodes ≡ all_numbered (length before) (map (root_child c layout size) roots)
    → leaves ≡ before ++ flat_map (λ (t : Tree TreeLeaf). leaves_of t) (map (root_child c layout size) roots)
    → (i : ℕ) (node : Node) → slice_get nodes i ≡ Some node
    → StandsUnder leaves (one_bit_word (slice_index roots i) layout.cuts.segments) (outline node)
roots_stand c layout size before [] [] leaves is fit nodes_are leaves_are i node at =
    absurd (none-some node at)
roots_stand c layout size before [] (n ∷ nodes) leaves is fit nodes_are leaves_are i node at = cc
roots_stand c layout size before (root ∷ roots) [] leaves is fit nodes_are leaves_are i node at =
    absurd (none-some node at)
roots_stand c layout size before (root ∷ roots) (n ∷ nodes) leaves is fit nodes_are leaves_are zero node at =
    let w = layout.cuts.segments in
    let word = one_bit_word root w in
    let t = root_child c layout size root in
    let first : outline n ≡ numbered (length before) t = cc in
    let is_node : n ≡ node = same_Some n node at in
    let after = flat_map (λ (t : Tree TreeLeaf). leaves_of t) (map (root_child c layout size) roots) in
    let P : Tree ℕ → Type 0 = λ o. StandsUnder leaves word o in
    let Q : List TreeLeaf → Type 0 = λ xs. StandsUnder xs word (numbered (length before) t) in
    subst P (sym first ∙ ap outline is_node)
    (subst Q (sym leaves_are)
    (divided_stands size (bits_left word) word (of_root (members_of layout c) root) before after
    (IsWord-one_bit_word root w is.some_segments is.few_segments
    (All-head (λ r. r < 2 ^ w) root roots fit))
    refl))
roots_stand c layout size before (root ∷ roots) (n ∷ nodes) leaves is fit nodes_are leaves_are (suc i) node at =
    let t = root_child c layout size root in
    let rest = map (root_child c layout size) roots in
    let behind : map outline nodes ≡ all_numbered (length before + length (leaves_of t)) rest = cc in
    roots_stand c layout size (before ++ leaves_of t) roots nodes leaves is
    (All-tail (λ r. r < 2 ^ layout.cuts.segments) root roots fit)
    (behind ∙ ap (λ k. all_numbered k rest) (sym (length-append before (leaves_of t))))
    (leaves_are ∙ sym (append_assoc before (leaves_of t) (flat_map (λ (t : Tree TreeLeaf). leaves_of t) rest)))
    i node at

-- there are as many members as series
pub length-members : (layout : Layout) (i : ℕ) (rows : List (List ℤ))
    → length (members_from layout i rows) ≡ length rows
length-members layout i [] = refl
length-members layout i (row ∷ rows) = let rest = length-members layout (i + 1) rows in omega arith

-- a list's length is the total of ones
pub length_is_ones : {X : Type 0} (xs : List X) → length xs ≡ total (λ x. 1) xs
length_is_ones [] = refl
length_is_ones (x ∷ xs) = let rest = length_is_ones xs in omega arith

-- a total of at most as much at each item is at most as much
total_less : (f g : ℕ → ℕ) → ((r : ℕ) → f r ≤ g r) → (xs : List ℕ) → total f xs ≤ total g xs
total_less f g less [] = omega arith
total_less f g less (x ∷ xs) = omega (arith, less x, total_less f g less xs)

-- the tree has no more leaves than there are series
pub few_in_tree : (c : Collection) (layout : Layout) (size : ℕ) → IsDivision layout.cuts
    → length (tree_leaves c layout size) ≤ length c.series
few_in_tree c layout size is =
    let ms = members_of layout c in
    let roots = roots_of c layout in
    let below = λ (root : ℕ). leaves_of (root_child c layout size root) in
    let one : Member → ℕ = λ m. 1 in
    let long : length (tree_leaves c layout size) ≡ total (λ root. total (λ x. 1) (below root)) roots
    = ap length (leaves_by_roots c layout size)
    ∙ length_is_ones (flat_map below roots)
    ∙ total_flat_map (λ x. 1) below roots in
    let fewer : total (λ root. total (λ x. 1) (below root)) roots
    ≤ total (λ root. total one (of_root ms root)) roots
    = total_less (λ root. total (λ x. 1) (below root)) (λ root. total one (of_root ms root))
    (λ root. omega (
      arith,
      length_is_ones (below root),
      length_is_ones (of_root ms root),
      few_leaves size (bits_left (one_bit_word root layout.cuts.segments))
          (one_bit_word root layout.cuts.segments) (of_root ms root),
    ))
    roots in
    omega (
      arith,
      long,
      fewer,
      total_by_roots one ms roots (root_once ms (2 ^ layout.cuts.segments) (root_fits c layout is)),
      length_is_ones ms,
      length-members layout 0 c.series,
    )

-- an index that is the tree of a collection keeps the facts of every index
pub tree_is_index : (c : Collection) (layout : Layout) (size : ℕ) (ix : IndexParts)
    → IsDivision layout.cuts → IsCollection c → IsTreeOf c layout size ix → IsIndex ix
unfolding tree
tree_is_index c layout size ix is kept tree_is =
    let w = layout.cuts.segments in
    let some_has = λ (root : ℕ). list_any (has_root root) (members_of layout c) in
    let long : length ix.nodes ≡ length ix.roots
    = sym (length-map ix.nodes outline)
    ∙ ap length tree_is.nodes
    ∙ length-all_numbered 0 (map (root_child c layout size) (roots_of c layout))
    ∙ length-map (roots_of c layout) (root_child c layout size)
    ∙ ap length (sym tree_is.roots) in
    let Increasing : List ℕ → Type 0 = λ xs. IsStrictlyIncreasing xs in
    let Fit : List ℕ → Type 0 = λ xs. All (λ root. root < 2 ^ w) xs in
    let FitIn : ℕ → Type 0 = λ n. All (λ root. root < 2 ^ n) ix.roots in
    let Stand : ℕ → List ℕ → Type 0 = λ n xs. (i : ℕ) (node : Node) → slice_get ix.nodes i ≡ Some node
    → StandsUnder ix.leaves (one_bit_word (slice_index xs i) n) (outline node) in
    let fit : All (λ root. root < 2 ^ w) (roots_of c layout) = below_count some_has (2 ^ w) in
    let stand = roots_stand c layout size [] (roots_of c layout) ix.nodes ix.leaves is fit
    tree_is.nodes tree_is.leaves in
    let StandAt : ℕ → Type 0 = λ n. Stand n (roots_of c layout) in
    let StandOf : List ℕ → Type 0 = λ xs. Stand ix.segments xs in
    record {
      some_segments = omega (arith, is.some_segments, tree_is.segments);
      few_segments = omega (arith, is.few_segments, tree_is.segments);
      roots_ascend = subst Increasing (sym tree_is.roots)
          (increasing 0 (roots_of c layout) (ascend_filter some_has 0 (2 ^ w)));
      roots_fit = subst FitIn (sym tree_is.segments) (subst Fit (sym tree_is.roots) fit);
      few_roots =
          let most : 2 ^ w ≤ 2 ^ 16 = pow-le-pow_right {n = 2} (omega arith) {i = w} {j = 16} is.few_segments in
          omega (arith, ap length tree_is.roots, no_more some_has (2 ^ w), most);
      one_node_each = long;
      nodes_stand = subst StandOf (sym tree_is.roots) (subst StandAt (sym tree_is.segments) stand);
      few_leaves = omega (arith, ap length tree_is.leaves, few_in_tree c layout size is, kept.count_limit);
      in_order =
          numbers_of_outlines ix.nodes
          ∙ ap (flat_map (λ (t : Tree ℕ). leaves_of t)) tree_is.nodes
          ∙ all_leaves_numbered 0 (map (root_child c layout size) (roots_of c layout))
          ∙ ap (λ xs. range_with_len 0 (length xs)) (sym tree_is.leaves);
    }
