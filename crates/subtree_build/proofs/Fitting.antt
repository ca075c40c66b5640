-- An index that is the tree of a collection fits it (`tree_fits`), as does one whose tree fits, with the means and the codes of its
-- members' series beside it (`with_tables_fits`) or with none (`bare_fits`, `tree_alone_fits`, `built_alone_fits`).
use Rattle.std.proofs.Common.{◌≡◌, ℕ, ◌+◌, ◌^◌, List, [], ◌∷◌, ◌++◌, length, map, refl, sym, ap, ◌∙◌, subst, All}
use Rattle.std.specs.Prelude.{IfSome, None, Option, Some, flat_map}
use Rattle.std.proofs.lemmas.List.Elements.{All-nil, All-append, All-filter}
use Rattle.list_totals.specs.Totals.{total, one_if_same, once_below}
use Rattle.list_totals.proofs.Totals.{total_append}
use Rattle.series_core.specs.Collection.{Collection}
use Rattle.segment_sums.specs.Division.{IsDivision}
use Rattle.isax_word.specs.declared.layout.Layout.{Layout}
use Rattle.isax_word.specs.Word.{one_bit_word}
use Rattle.isax_word.specs.declared.member.Member.{Member}
use Rattle.summary_phase.specs.Members.{members_of}
use Rattle.summary_phase.specs.Roots.{has_root, of_root}
use Rattle.row_codes.specs.Rows.{Block}
use Rattle.subtree_build.specs.declared.leaf.TreeLeaf.{TreeLeaf}
use Rattle.subtree_build.specs.Tree.{Tree, leaves_of}
use Rattle.subtree_build.specs.Division.{bits_left, roots_of, root_child, tree, tree_leaves}
use Rattle.subtree_build.specs.Index.{IndexParts}
use Rattle.subtree_build.specs.Means.{leaf_means, leaf_codes}
use Rattle.subtree_build.specs.Fits.{IsTreeOf, Fits, FitsByTree, TreeFits, times_in, HasItsWord, MembersAreSeries, WordContainsMembers}
use Rattle.subtree_build.proofs.ByNumber.{times_numbers}
use Rattle.subtree_build.proofs.Partition.{total_in, total_divided, all_divided, total_by_roots}
use Rattle.subtree_build.proofs.RootNumbers.{root_once}
use Rattle.subtree_build.proofs.Contained.{divided_contains}
use Rattle.subtree_build.proofs.OfCollection.{times_of_all, own_word, own_number, IsReal, root_fits, root_contains_all}

-- a total over lists put together is the total of their totals
pub total_flat_map : {X Y : Type 0} (f : Y → ℕ) (h : X → List Y) (xs : List X)
    → total f (flat_map h xs) ≡ total (λ x. total f (h x)) xs
total_flat_map f h [] = refl
total_flat_map f h (x ∷ xs) =
    total_append f (h x) (flat_map h xs) ∙ ap (λ n. total f (h x) + n) (total_flat_map f h xs)

-- totals of two functions that agree are the same
pub total_agree : {X : Type 0} (f g : X → ℕ) → ((x : X) → f x ≡ g x) → (xs : List X)
    → total f xs ≡ total g xs
total_agree f g same [] = refl
total_agree f g same (x ∷ xs) =
    ap (λ n. n + total f xs) (same x) ∙ ap (λ n. g x + n) (total_agree f g same xs)

-- what holds of all items of each list holds of all items of the lists put together
pub all_flat_map : {X Y : Type 0} (P : Y → Type 0) (h : X → List Y) → ((x : X) → All P (h x))
    → (xs : List X) → All P (flat_map h xs)
all_flat_map P h each [] = All-nil P
all_flat_map P h each (x ∷ xs) =
    All-append P (h x) (flat_map h xs) (each x) (all_flat_map P h each xs)

-- lists put together over mapped items are put together over the items
pub flat_map_map : {X Y Z : Type 0} (h : Y → List Z) (f : X → Y) (xs : List X)
    → flat_map h (map f xs) ≡ flat_map (λ x. h (f x)) xs
flat_map_map h f [] = refl
flat_map_map h f (x ∷ xs) = ap (λ ys. h (f x) ++ ys) (flat_map_map h f xs)

-- the leaves of the tree, root child by root child
pub leaves_by_roots : (c : Collection) (layout : Layout) (size : ℕ)
    → tree_leaves c layout size
    ≡ flat_map (λ root. leaves_of (root_child c layout size root)) (roots_of c layout)
unfolding tree
leaves_by_roots c layout size =
    flat_map_map (λ (t : Tree TreeLeaf). leaves_of t) (root_child c layout size) (roots_of c layout)

-- a total over all members of the leaves is that over all members of the collection
pub total_tree : (f : Member → ℕ) (c : Collection) (layout : Layout) (size : ℕ) → IsDivision layout.cuts
    → total (total_in f) (tree_leaves c layout size) ≡ total f (members_of layout c)
total_tree f c layout size is =
    let ms = members_of layout c in
    let roots = roots_of c layout in
    ap (total (total_in f)) (leaves_by_roots c layout size)
    ∙ total_flat_map (total_in f) (λ root. leaves_of (root_child c layout size root)) roots
    ∙ total_agree (λ root. total (total_in f) (leaves_of (root_child c layout size root)))
    (λ root. total f (of_root ms root))
    (λ root. total_divided f size (bits_left (one_bit_word root layout.cuts.segments))
    (one_bit_word root layout.cuts.segments) (of_root ms root)) roots
    ∙ total_by_roots f ms roots (root_once ms (2 ^ layout.cuts.segments) (root_fits c layout is))

-- each number of a series is that of one member of the tree's leaves
once_in_tree : (c : Collection) (layout : Layout) (size i : ℕ) → IsDivision layout.cuts
    → total (times_in i) (tree_leaves c layout size) ≡ once_below i (length c.series)
once_in_tree c layout size i is =
    let one : Member → ℕ = λ m. one_if_same i m.number in
    total_agree (times_in i) (total_in one) (λ x. times_numbers i x.members) (tree_leaves c layout size)
    ∙ total_tree one c layout size is
    ∙ sym (times_numbers i (members_of layout c))
    ∙ times_of_all c layout i

-- each member of the tree's leaves has its series' word
own_in_tree : (c : Collection) (layout : Layout) (size : ℕ)
    → All (MembersAreSeries c layout) (tree_leaves c layout size)
own_in_tree c layout size =
    let P : List TreeLeaf → Type 0 = λ leaves. All (MembersAreSeries c layout) leaves in
    subst P (sym (leaves_by_roots c layout size))
    (all_flat_map (MembersAreSeries c layout) (λ root. leaves_of (root_child c layout size root))
    (λ root. all_divided (HasItsWord c layout) size (bits_left (one_bit_word root layout.cuts.segments))
    (one_bit_word root layout.cuts.segments) (of_root (members_of layout c) root)
    (All-filter (has_root root) (HasItsWord c layout) (members_of layout c) (own_word c layout)))
    (roots_of c layout))

-- the number of each member of the tree's leaves is that of a series
pub real_in_tree : (c : Collection) (layout : Layout) (size : ℕ)
    → All (λ (x : TreeLeaf). All (IsReal c) x.members) (tree_leaves c layout size)
real_in_tree c layout size =
    let Real : TreeLeaf → Type 0 = λ x. All (IsReal c) x.members in
    let P : List TreeLeaf → Type 0 = λ leaves. All Real leaves in
    subst P (sym (leaves_by_roots c layout size))
    (all_flat_map Real (λ root. leaves_of (root_child c layout size root))
    (λ root. all_divided (IsReal c) size (bits_left (one_bit_word root layout.cuts.segments))
    (one_bit_word root layout.cuts.segments) (of_root (members_of layout c) root)
    (All-filter (has_root root) (IsReal c) (members_of layout c) (own_number c layout)))
    (roots_of c layout))

-- the word of each of the tree's leaves contains its members
contained_in_tree : (c : Collection) (layout : Layout) (size : ℕ) → IsDivision layout.cuts
    → All WordContainsMembers (tree_leaves c layout size)
contained_in_tree c layout size is =
    let P : List TreeLeaf → Type 0 = λ leaves. All WordContainsMembers leaves in
    subst P (sym (leaves_by_roots c layout size))
    (all_flat_map WordContainsMembers (λ root. leaves_of (root_child c layout size root))
    (λ root. divided_contains size (bits_left (one_bit_word root layout.cuts.segments))
    (one_bit_word root layout.cuts.segments) (of_root (members_of layout c) root) refl
    (root_contains_all c layout root is))
    (roots_of c layout))

-- the tree of a collection fits it
built_fits : (c : Collection) (layout : Layout) (size : ℕ) (ix : IndexParts) → IsDivision layout.cuts
    → IsTreeOf c layout size ix → TreeFits c layout ix
built_fits c layout size ix is tree_is =
    let P : List TreeLeaf → Type 0 = λ leaves. All (MembersAreSeries c layout) leaves in
    let Q : List TreeLeaf → Type 0 = λ leaves. All WordContainsMembers leaves in
    record {
      segments = tree_is.segments;
      each_once = λ i. ap (total (times_in i)) tree_is.leaves ∙ once_in_tree c layout size i is;
      own_words = subst P (sym tree_is.leaves) (own_in_tree c layout size);
      contained = subst Q (sym tree_is.leaves) (contained_in_tree c layout size is);
    }

module _ (c : Collection) (layout : Layout) (ix : IndexParts) where
  -- means that may be beside the leaves
  abbrev OwnMeans : Option (List (List (List ℕ))) → Type 0
  OwnMeans o = IfSome o (λ means. means ≡ map (leaf_means c layout) ix.leaves)

  -- and codes
  abbrev OwnCodes : Option (List (List Block)) → Type 0
  OwnCodes o = IfSome o (λ codes. codes ≡ map (leaf_codes c) ix.leaves)

  -- an index with the means and the codes of its members' series fits where its tree does
  pub with_tables_fits : TreeFits c layout ix → ix.means ≡ Some (map (leaf_means c layout) ix.leaves)
      → ix.codes ≡ Some (map (leaf_codes c) ix.leaves) → Fits c layout ix
  with_tables_fits fits means codes = record {
    tree = fits;
    own_means = subst OwnMeans (sym means) refl;
    own_codes = subst OwnCodes (sym codes) refl;
  }

  -- and so does one with neither
  pub bare_fits : TreeFits c layout ix → ix.means ≡ None → ix.codes ≡ None → Fits c layout ix
  bare_fits fits means codes = record {
    tree = fits;
    own_means = subst OwnMeans (sym means) tt;
    own_codes = subst OwnCodes (sym codes) tt;
  }

-- what a tree fits it fits with nothing beside it
pub tree_alone_fits : (ix : IndexParts) → FitsByTree ix (record ix { means = None; codes = None })
tree_alone_fits ix c layout fits =
    bare_fits c layout (record ix { means = None; codes = None })
    (record { segments = fits.segments; each_once = fits.each_once; own_words = fits.own_words; contained = fits.contained }) refl refl

-- an index that is the tree of a collection fits it with nothing beside it
pub built_alone_fits : (c : Collection) (layout : Layout) (size : ℕ) (ix : IndexParts) → IsDivision layout.cuts
    → IsTreeOf c layout size ix → ix.means ≡ None → ix.codes ≡ None → Fits c layout ix
built_alone_fits c layout size ix is tree_is = bare_fits c layout ix (built_fits c layout size ix is tree_is)

-- and with the tables of its members beside it
pub tree_fits : (c : Collection) (layout : Layout) (size : ℕ) (ix : IndexParts) → IsDivision layout.cuts
    → IsTreeOf c layout size ix → ix.means ≡ Some (map (leaf_means c layout) ix.leaves)
    → ix.codes ≡ Some (map (leaf_codes c) ix.leaves) → Fits c layout ix
tree_fits c layout size ix is tree_is means codes =
    with_tables_fits c layout ix (built_fits c layout size ix is tree_is) means codes
