-- The parts of all root children, put together, are the tree: its nodes (`nodes_are`), the numbers of their first leaves
-- (`firsts_are`) and its leaves (`leaves_all`).
use Rattle.std.proofs.Common.{◌≡◌, ℕ, suc, ◌+◌, ◌^◌, ◌<◌, List, [], ◌∷◌, ◌++◌, length, get_or, map, length-append, refl, sym, ap, ◌∙◌, arith, All, zero-add}
use Rattle.std.specs.Prelude.{flat_map}
use Rattle.std.specs.List.{range_with_len}
use Rattle.std.proofs.lemmas.List.Elements.{All-head, All-tail}
use Rattle.list_totals.specs.Totals.{total}
use Rattle.list_totals.proofs.Totals.{total_append}
use Rattle.series_core.specs.Collection.{Collection}
use Rattle.isax_word.specs.Word.{one_bit_word}
use Rattle.summary_phase.specs.Members.{members_of}
use Rattle.summary_phase.specs.Roots.{of_root}
use Rattle.subtree_build.specs.declared.leaf.GrownLeaf.{GrownLeaf}
use Rattle.subtree_build.specs.declared.leaf.TreeLeaf.{TreeLeaf}
use Rattle.subtree_build.specs.Grown.{cut_leaves, members_in}
use Rattle.subtree_build.specs.Places.{tree_firsts}
use Rattle.subtree_build.proofs.Growing.{length-cut, cut_both}
use Rattle.subtree_build.specs.declared.part.RootPart.{RootPart}
use Rattle.subtree_build.specs.declared.settings.Settings.{Settings}
use Rattle.subtree_build.specs.declared.splicing.RootLists.{RootLists}
use Rattle.subtree_build.specs.Tree.{Tree, leaves_of, numbered, all_numbered, IsBuilt}
use Rattle.subtree_build.specs.Outline.{outline, moved_up}
use Rattle.subtree_build.specs.Division.{node_of, root_child, tree, tree_leaves}
use Rattle.subtree_build.specs.Parts.{leaves_in, joined_nodes, part_firsts, NumbersWithin}
use Rattle.subtree_build.specs.Building.{list_at, root_at, child_at, leaves_of_part, places_of, IsPartAt, HoldsRoots}
use Rattle.subtree_build.proofs.ByNumber.{permuted_by_number}
use Rattle.subtree_build.proofs.OfCollection.{root_ascends, root_differs}
use Rattle.subtree_build.proofs.Indexing.{few_in_tree}
use Rattle.subtree_build.proofs.Joining.{part_leaves, part_members, length-part_leaves, moved_numbered, built_within}

-- the root child at a place is the tree's
child_is : (settings : Settings) (c : Collection) (found : RootLists) (i : ℕ)
    → HoldsRoots settings.layout c found → i < length found.roots.items
    → child_at settings found i ≡ root_child c settings.layout settings.leaf_size (root_at found i)
child_is settings c found i h inside =
    let r = root_at found i in
    ap (node_of settings.leaf_size (one_bit_word r settings.layout.cuts.segments))
    (permuted_by_number (of_root (members_of settings.layout c) r) (list_at found i)
    (root_ascends c settings.layout r) (root_differs c settings.layout r) (h.members i inside))

-- a part was built as the tree of its place
abbrev pub BuiltAs : (ℕ → Tree TreeLeaf) → RootPart → Type 0
BuiltAs T p = IsBuilt (T p.place) [] (outline p.node) (leaves_of_part p)

-- a part has as many leaves as its tree
leaves_of_built : (T : ℕ → Tree TreeLeaf) (p : RootPart) → BuiltAs T p → leaves_in p ≡ length (leaves_of (T p.place))
leaves_of_built T p built =
    sym (length-cut p.leaves.items p.members.items) ∙ ap (λ (ls : List TreeLeaf). length ls) built.leaves_are

-- parts put together are the trees of their places, numbered on
joined_is : (T : ℕ → Tree TreeLeaf) (first : ℕ) (parts : List RootPart) → All (BuiltAs T) parts
    → joined_nodes first parts ≡ all_numbered first (map (λ (p : RootPart). T p.place) parts)
joined_is T first [] built = refl
joined_is T first (p ∷ parts) built =
    let here = All-head (BuiltAs T) p parts built in
    let long = leaves_of_built T p here in
    ap (λ t. t ∷ joined_nodes (first + leaves_in p) parts)
    (ap (moved_up first) here.node_is ∙ moved_numbered (T p.place) 0 first
    ∙ ap (λ k. numbered k (T p.place)) (zero-add first))
    ∙ ap (λ ts. numbered first (T p.place) ∷ ts)
    (joined_is T (first + leaves_in p) parts (All-tail (BuiltAs T) p parts built)
    ∙ ap (λ k. all_numbered (first + k) (map (λ (q : RootPart). T q.place) parts)) long)

-- the numbers of their first leaves are those of the trees
firsts_of : (T : ℕ → Tree TreeLeaf) (first : ℕ) (parts : List RootPart) → All (BuiltAs T) parts
    → part_firsts first parts ≡ tree_firsts first (map (λ (p : RootPart). T p.place) parts)
firsts_of T first [] built = refl
firsts_of T first (p ∷ parts) built =
    ap (λ ns. first ∷ ns)
    (firsts_of T (first + leaves_in p) parts (All-tail (BuiltAs T) p parts built)
    ∙ ap (λ k. tree_firsts (first + k) (map (λ (q : RootPart). T q.place) parts))
    (leaves_of_built T p (All-head (BuiltAs T) p parts built)))

-- all members of a part lie in its leaves
abbrev IsWhole : RootPart → Type 0
IsWhole p = members_in p.leaves.items ≡ length p.members.items

-- so do those of all parts
whole_of : (parts : List RootPart) → All IsWhole parts → members_in (part_leaves parts) ≡ length (part_members parts)
whole_of [] whole = refl
whole_of (p ∷ parts) whole =
    omega (
      arith,
      total_append (λ (l : GrownLeaf). l.count) p.leaves.items (part_leaves parts),
      length-append p.members.items (part_members parts),
      All-head IsWhole p parts whole,
      whole_of parts (All-tail IsWhole p parts whole),
    )

-- their leaves are those of the trees
leaves_are_of : (T : ℕ → Tree TreeLeaf) (parts : List RootPart) → All (BuiltAs T) parts → All IsWhole parts
    → cut_leaves (part_leaves parts) (part_members parts)
    ≡ flat_map (λ (t : Tree TreeLeaf). leaves_of t) (map (λ (p : RootPart). T p.place) parts)
leaves_are_of T [] built whole = refl
leaves_are_of T (p ∷ parts) built whole =
    let here = All-head (BuiltAs T) p parts built in
    cut_both p.leaves.items (part_leaves parts) p.members.items (part_members parts)
    (All-head IsWhole p parts whole)
    ∙ ap (λ (xs : List TreeLeaf). xs ++ cut_leaves (part_leaves parts) (part_members parts)) here.leaves_are
    ∙ ap (λ (xs : List TreeLeaf). leaves_of (T p.place) ++ xs)
    (leaves_are_of T parts (All-tail (BuiltAs T) p parts built) (All-tail IsWhole p parts whole))

-- the trees of the parts are those of their places
trees_of_places : (T : ℕ → Tree TreeLeaf) (parts : List RootPart)
    → map (λ (p : RootPart). T p.place) parts ≡ map T (places_of parts)
trees_of_places T [] = refl
trees_of_places T (p ∷ parts) = ap (λ ts. T p.place ∷ ts) (trees_of_places T parts)

-- the trees of places in order are those of the root numbers
trees_in_order : (T f : ℕ → Tree TreeLeaf) (a : ℕ) (roots : List ℕ)
    → ((i : ℕ) → i < length roots → T (a + i) ≡ f (get_or roots i 0))
    → map T (range_with_len a (length roots)) ≡ map f roots
trees_in_order T f a [] same = refl
trees_in_order T f a (r ∷ roots) same =
    ap (λ t. t ∷ map T (range_with_len (a + 1) (length roots)))
    (ap T (let e : a ≡ a + 0 = omega arith in e) ∙ same 0 (omega arith))
    ∙ ap (λ ts. f r ∷ ts)
    (trees_in_order T f (a + 1) roots (λ i inside. ap T (next a i) ∙ same (suc i) (omega arith)))
  where
    next : (a i : ℕ) → a + 1 + i ≡ a + suc i
    next a i = omega arith

-- the trees of all parts are the tree of the collection
trees_are : (settings : Settings) (c : Collection) (found : RootLists) (parts : List RootPart)
    → HoldsRoots settings.layout c found
    → places_of parts ≡ range_with_len 0 (length found.roots.items)
    → map (λ (p : RootPart). child_at settings found p.place) parts ≡ tree c settings.layout settings.leaf_size
unfolding tree
trees_are settings c found parts h places =
    let T = child_at settings found in
    let f = root_child c settings.layout settings.leaf_size in
    trees_of_places T parts
    ∙ ap (map T) places
    ∙ trees_in_order T f 0 found.roots.items
    (λ i inside. ap T (zero-add i) ∙ child_is settings c found i h inside)
    ∙ ap (map f) h.roots

-- parts at their places were built as the trees of their places
built_as : (settings : Settings) (found : RootLists) (parts : List RootPart)
    → All (IsPartAt settings found) parts → All (BuiltAs (child_at settings found)) parts
built_as settings found parts built k d inside = (built k d inside).built

-- all members of parts at their places lie in their leaves
whole_each : (settings : Settings) (found : RootLists) (parts : List RootPart)
    → All (IsPartAt settings found) parts → All IsWhole parts
whole_each settings found parts built k d inside = (built k d inside).whole

-- all members of all parts lie in their leaves
pub whole_all : (settings : Settings) (found : RootLists) (parts : List RootPart)
    → All (IsPartAt settings found) parts → members_in (part_leaves parts) ≡ length (part_members parts)
whole_all settings found parts built = whole_of parts (whole_each settings found parts built)

module _ (settings : Settings) (c : Collection) (found : RootLists) (parts : List RootPart)
    (h : HoldsRoots settings.layout c found) (places : places_of parts ≡ range_with_len 0 (length found.roots.items))
    (built : All (IsPartAt settings found) parts) where
  -- the nodes of all parts are those of the tree
  pub nodes_are : joined_nodes 0 parts ≡ all_numbered 0 (tree c settings.layout settings.leaf_size)
  nodes_are =
      joined_is (child_at settings found) 0 parts (built_as settings found parts built)
      ∙ ap (all_numbered 0) (trees_are settings c found parts h places)

  -- the numbers of first leaves of all parts are those of the tree
  pub firsts_are : part_firsts 0 parts ≡ tree_firsts 0 (tree c settings.layout settings.leaf_size)
  firsts_are =
      firsts_of (child_at settings found) 0 parts (built_as settings found parts built)
      ∙ ap (tree_firsts 0) (trees_are settings c found parts h places)

  -- the leaves of all parts are those of the tree
  pub leaves_all : cut_leaves (part_leaves parts) (part_members parts) ≡ tree_leaves c settings.layout settings.leaf_size
  leaves_all =
      leaves_are_of (child_at settings found) parts (built_as settings found parts built)
      (whole_each settings found parts built)
      ∙ ap (flat_map (λ (t : Tree TreeLeaf). leaves_of t)) (trees_are settings c found parts h places)

  -- all parts together have few leaves
  pub few_parts : total leaves_in parts < 2 ^ 32
  few_parts =
      omega (
        arith,
        length-part_leaves parts,
        length-cut (part_leaves parts) (part_members parts),
        ap length leaves_all,
        few_in_tree c settings.layout settings.leaf_size h.division,
        h.sound.count_limit,
      )

-- each part has the numbers of its own leaves
pub within_all : (settings : Settings) (found : RootLists) (parts : List RootPart)
    → All (IsPartAt settings found) parts → All NumbersWithin parts
within_all settings found parts built k d inside =
    let p = get_or parts k d in
    built_within (child_at settings found p.place) p (built k d inside).built
