-- What was read of a text makes an index (`read_makes_index`).
use Rattle.std.proofs.Common.{◌≡◌, ℕ, zero, suc, ◌+◌, true, false, List, [], ◌∷◌, ◌++◌, length, map, sym, ap, ◌∙◌, refl, subst, length-append}
use Rattle.std.specs.Prelude.{◌&&◌, Some, flat_map, slice_get, slice_index}
use Rattle.std.specs.List.{range_with_len}
use Rattle.std.proofs.lemmas.List.{length-map}
use Rattle.std.proofs.lemmas.Option.{same_Some, none-some}
use Rattle.isax_word.specs.declared.word.Part.{Part}
use Rattle.isax_word.specs.Word.{child_word, one_bit_word}
use Rattle.series_file.proofs.Numbers.{AreBytes}
use Rattle.subtree_build.specs.declared.node.Node.{Node}
use Rattle.subtree_build.specs.Assembly.{AreRoots, CanStand, MakeIndex}
use Rattle.subtree_build.specs.Outline.{outline, leaf_numbers}
use Rattle.subtree_build.specs.Tree.{Tree, absent, leaf, split, is_absent, leaves_of, numbered, all_numbered}
use Rattle.subtree_build.proofs.Indexing.{range_parts, leaves_numbered, length-all_numbered}
use Rattle.saved_index.specs.declared.reading.Spelled.{Spelled}
use Rattle.saved_index.specs.Parsed.{IsSavedRead}
use Rattle.saved_index.specs.Saved.{Header, IsNode, AreRootNodes}
use Rattle.saved_index.proofs.SoundWhole.{saved_sound}

-- a numbered tree is there where the tree is
numbered_absent : {A : Type 0} (first : ℕ) (t : Tree A) → is_absent (numbered first t) ≡ is_absent t
numbered_absent first absent = refl
numbered_absent first (leaf x) = refl
numbered_absent first (split j low high) = refl

-- a node that can be saved can stand under its word
node_can_stand : (count first : ℕ) (word : List Part) (t : Tree (List ℕ)) → IsNode count word t
    → CanStand word (numbered first t)
node_can_stand count first word absent is = tt
node_can_stand count first word (leaf numbers) is = tt
node_can_stand count first word (split j low high) is =
    let behind = first + length (leaves_of low) in (
      record {
        used = is.0.used;
        divisible = is.0.divisible;
        some_child = ap (λ a. a && is_absent (numbered behind high)) (numbered_absent first low)
            ∙ ap (λ b. is_absent low && b) (numbered_absent behind high) ∙ is.0.some_child;
      },
      node_can_stand count first (child_word word j false) low is.1,
      node_can_stand count behind (child_word word j true) high is.2,
    )

-- each root child can stand under its one-bit word
roots_can_stand : (w count first : ℕ) (roots : List ℕ) (nodes : List Node) (trees : List (Tree (List ℕ)))
    → map outline nodes ≡ all_numbered first trees → AreRootNodes w count roots trees
    → (i : ℕ) (node : Node) → slice_get nodes i ≡ Some node
    → CanStand (one_bit_word (slice_index roots i) w) (outline node)
roots_can_stand w count first roots [] trees is are i node at = absurd (none-some node at)
roots_can_stand w count first [] (n ∷ nodes) [] is are i node at = cc
roots_can_stand w count first [] (n ∷ nodes) (t ∷ trees) is are i node at = absurd are
roots_can_stand w count first (root ∷ roots) (n ∷ nodes) [] is are i node at = absurd are
roots_can_stand w count first (root ∷ roots) (n ∷ nodes) (t ∷ trees) is are zero node at =
    let numbers : outline n ≡ numbered first t = cc in
    let is_node : n ≡ node = same_Some n node at in
    let P : Tree ℕ → Type 0 = λ o. CanStand (one_bit_word root w) o in
    subst P (sym numbers ∙ ap outline is_node) (node_can_stand count first (one_bit_word root w) t are.0.node)
roots_can_stand w count first (root ∷ roots) (n ∷ nodes) (t ∷ trees) is are (suc i) node at =
    let behind : map outline nodes ≡ all_numbered (first + length (leaves_of t)) trees = cc in
    roots_can_stand w count (first + length (leaves_of t)) roots nodes trees behind are.1 i node at

-- each root number has one tree
pub one_tree_each : (w count : ℕ) (roots : List ℕ) (trees : List (Tree (List ℕ))) → AreRootNodes w count roots trees
    → length trees ≡ length roots
one_tree_each w count [] [] are = refl
one_tree_each w count [] (t ∷ trees) are = absurd are
one_tree_each w count (root ∷ roots) [] are = absurd are
one_tree_each w count (root ∷ roots) (t ∷ trees) are = ap (λ n. suc n) (one_tree_each w count roots trees are.1)

-- the leaves of nodes that are numbered on are numbered in order
pub nodes_in_order : {A : Type 0} (first : ℕ) (nodes : List Node) (trees : List (Tree A))
    → map outline nodes ≡ all_numbered first trees
    → flat_map leaf_numbers nodes ≡ range_with_len first (length (flat_map (λ (t : Tree A). leaves_of t) trees))
nodes_in_order first [] [] is = refl
nodes_in_order first [] (t ∷ trees) is = cc
nodes_in_order first (n ∷ nodes) [] is = cc
nodes_in_order {A} first (n ∷ nodes) (t ∷ trees) is =
    let here = length (leaves_of t) in
    let rest = flat_map (λ (t : Tree A). leaves_of t) trees in
    let numbers : outline n ≡ numbered first t = cc in
    let behind : map outline nodes ≡ all_numbered (first + here) trees = cc in
    ap (λ (o : Tree ℕ). leaves_of o ++ flat_map leaf_numbers nodes) numbers
    ∙ ap (λ xs. xs ++ flat_map leaf_numbers nodes) (leaves_numbered first t)
    ∙ ap (λ xs. range_with_len first here ++ xs) (nodes_in_order (first + here) nodes trees behind)
    ∙ sym (range_parts first here (length rest))
    ∙ ap (range_with_len first) (sym (length-append (leaves_of t) rest))

-- what was read of a text makes an index
pub read_makes_index : (bytes : List ℕ) (r : Spelled) → AreBytes bytes → IsSavedRead bytes r
    → MakeIndex r.fields.segments r.found.roots.items r.found.nodes.items (length r.found.lists)
read_makes_index bytes r each read =
    let s = read.saved in
    let is = (saved_sound bytes s each read.is).sound in
    let w : s.header.segments ≡ r.fields.segments = ap (λ (h : Header). h.segments) read.header in
    let nodes = r.found.nodes.items in
    let RootsW : ℕ → Type 0 = λ n. AreRoots n s.roots in
    let RootsR : List ℕ → Type 0 = λ rs. AreRoots r.fields.segments rs in
    let NodesW : ℕ → Type 0 = λ n. AreRootNodes n s.header.count s.roots s.nodes in
    let NodesR : List ℕ → Type 0 = λ rs. AreRootNodes r.fields.segments s.header.count rs s.nodes in
    let trees : AreRootNodes r.fields.segments s.header.count r.found.roots.items s.nodes
    = subst NodesR read.roots (subst NodesW w is.nodes) in
    record {
      are_roots = subst RootsR read.roots (subst RootsW w is.roots);
      one_node_each =
          sym (length-map nodes outline)
          ∙ ap (λ (ts : List (Tree ℕ)). length ts) read.nodes_are
          ∙ length-all_numbered 0 s.nodes
          ∙ one_tree_each r.fields.segments s.header.count r.found.roots.items s.nodes trees;
      all_stand = roots_can_stand r.fields.segments s.header.count 0 r.found.roots.items nodes s.nodes read.nodes_are trees;
      in_order =
          nodes_in_order 0 nodes s.nodes read.nodes_are
          ∙ ap (λ (ls : List (List ℕ)). range_with_len 0 (length ls)) (sym read.lists_are);
    }
