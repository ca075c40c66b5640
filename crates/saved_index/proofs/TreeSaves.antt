-- The tree of a collection can be saved (`tree_can_save`).
use Rattle.std.proofs.Common.{ℕ, zero, suc, ◌+◌, ◌<◌, ◌≤◌, Bool, true, false, List, [], ◌∷◌, length, sym, subst, arith, All}
use Rattle.std.specs.Prelude.{filter, nat_le}
use Rattle.std.proofs.lemmas.Bool.{cond_both}
use Rattle.std.proofs.lemmas.List.Elements.{All-nil, All-cons, All-head, All-tail, All-append, All-filter}
use Rattle.series_core.specs.Collection.{Collection, IsCollection}
use Rattle.isax_word.specs.declared.layout.Layout.{Layout}
use Rattle.isax_word.specs.declared.member.Member.{Member}
use Rattle.isax_word.specs.declared.word.Part.{Part}
use Rattle.isax_word.specs.Word.{child_word, one_bit_word}
use Rattle.summary_phase.specs.Members.{members_of}
use Rattle.summary_phase.specs.Roots.{has_root, of_root}
use Rattle.subtree_build.specs.declared.leaf.TreeLeaf.{TreeLeaf}
use Rattle.subtree_build.specs.declared.settings.Settings.{Settings}
use Rattle.subtree_build.specs.Division.{bits_left, divide, leaf_with, root_child, roots_of, tree_leaves}
use Rattle.subtree_build.specs.Fits.{IsTreeOf}
use Rattle.subtree_build.specs.Index.{IndexParts}
use Rattle.subtree_build.specs.Members.{numbers_of}
use Rattle.subtree_build.specs.Splitting.{goes_high, goes_low, split_segment}
use Rattle.subtree_build.specs.Tree.{Tree, leaf, split, leaves_of}
use Rattle.subtree_build.proofs.Ascending.{AllFrom, IsAscending}
use Rattle.subtree_build.proofs.Fitting.{all_flat_map, leaves_by_roots}
use Rattle.subtree_build.proofs.OfCollection.{IsReal, own_number, root_ascends}
use Rattle.saved_index.specs.IndexText.{AreSaved, CanSave, HasSaved}
use Rattle.saved_index.proofs.Again.{Ascend}
use Rattle.saved_index.proofs.Sound.{increase}

-- numbers that ascend from one on ascend from a lesser one on
ascend_less : (from least count : ℕ) (numbers : List ℕ) → least ≤ from → Ascend from count numbers
    → Ascend least count numbers
ascend_less from least count [] less up = tt
ascend_less from least count (n ∷ numbers) less up = (omega (arith, up.0), up.1, up.2)

-- the numbers of members that pass a test ascend where those of all do
ascend_passing : (p : Member → Bool) (from count : ℕ) (ms : List Member) → Ascend from count (numbers_of ms)
    → Ascend from count (numbers_of (filter p ms))
ascend_passing p from count [] up = tt
ascend_passing p from count (m ∷ ms) up =
    let rest = ascend_passing p (m.number + 1) count ms up.2 in
    cond_both (p m) (m ∷ filter p ms) (filter p ms) (λ (xs : List Member). Ascend from count (numbers_of xs))
    (λ _. (up.0, up.1, rest))
    (λ _. ascend_less (m.number + 1) from count (numbers_of (filter p ms)) (omega (arith, up.0)) rest)

-- each number is at least 0
from_none : (ms : List Member) → AllFrom 0 ms
from_none [] = tt
from_none (m ∷ ms) = (omega arith, from_none ms)

-- members that ascend have numbers that ascend
numbers_ascend : (from count : ℕ) (ms : List Member) → AllFrom from ms → IsAscending ms → All (λ m. m.number < count) ms
    → Ascend from count (numbers_of ms)
numbers_ascend from count [] least up below = tt
numbers_ascend from count (m ∷ ms) least up below = (
  least.0,
  All-head (λ (x : Member). x.number < count) m ms below,
  numbers_ascend (m.number + 1) count ms up.0 up.1 (All-tail (λ (x : Member). x.number < count) m ms below),
)

-- members whose numbers ascend below the count are below it
members_below : (from count : ℕ) (ms : List Member) → Ascend from count (numbers_of ms) → All (λ m. m.number < count) ms
members_below from count [] up = All-nil (λ (x : Member). x.number < count)
members_below from count (m ∷ ms) up =
    All-cons (λ (x : Member). x.number < count) m ms up.1 (members_below (m.number + 1) count ms up.2)

-- a leaf of some members whose numbers ascend can be saved
leaf_can_save : (count : ℕ) (word : List Part) (m : Member) (ms : List Member) → Ascend 0 count (numbers_of (m ∷ ms))
    → All (HasSaved count) (leaf_with word (m ∷ ms) ∷ [])
leaf_can_save count word m ms up =
    let saved : AreSaved count (m ∷ ms) = record {
      some = omega arith;
      ascend = increase 0 count (numbers_of (m ∷ ms)) up;
      below = members_below 0 count (m ∷ ms) up;
    } in
    All-cons (HasSaved count) (leaf_with word (m ∷ ms)) [] saved (All-nil (HasSaved count))

-- each leaf of a divided tree can be saved where the members ascend
divided_can_save : (count size lacking : ℕ) (word : List Part) (members : List Member)
    → Ascend 0 count (numbers_of members) → All (HasSaved count) (leaves_of (divide size lacking word members))
unfolding divide
divided_can_save count size lacking word [] up = All-nil (HasSaved count)
divided_can_save count size zero word (m ∷ members) up = leaf_can_save count word m members up
divided_can_save count size (suc lacking) word (m ∷ members) up =
    let all = m ∷ members in
    let j = split_segment word all in
    let low_members = filter (goes_low word j) all in
    let high_members = filter (goes_high word j) all in
    let low = divide size lacking (child_word word j false) low_members in
    let high = divide size lacking (child_word word j true) high_members in
    cond_both (nat_le (length all) size) (leaf (leaf_with word all)) (split j low high)
    (λ (t : Tree TreeLeaf). All (HasSaved count) (leaves_of t))
    (λ _. leaf_can_save count word m members up)
    (λ _. All-append (HasSaved count) (leaves_of low) (leaves_of high)
    (divided_can_save count size lacking (child_word word j false) low_members
    (ascend_passing (goes_low word j) 0 count all up))
    (divided_can_save count size lacking (child_word word j true) high_members
    (ascend_passing (goes_high word j) 0 count all up)))

-- each leaf of the tree of a collection can be saved
leaves_can_save : (c : Collection) (layout : Layout) (size : ℕ)
    → All (HasSaved (length c.series)) (tree_leaves c layout size)
leaves_can_save c layout size =
    let count = length c.series in
    let P : List TreeLeaf → Type 0 = λ leaves. All (HasSaved count) leaves in
    subst P (sym (leaves_by_roots c layout size))
    (all_flat_map (HasSaved count) (λ root. leaves_of (root_child c layout size root))
    (λ root. divided_can_save count size (bits_left (one_bit_word root layout.cuts.segments))
    (one_bit_word root layout.cuts.segments) (of_root (members_of layout c) root)
    (numbers_ascend 0 count (of_root (members_of layout c) root) (from_none (of_root (members_of layout c) root))
    (root_ascends c layout root)
    (All-filter (has_root root) (IsReal c) (members_of layout c) (own_number c layout))))
    (roots_of c layout))

-- an index that is the tree of a collection can be saved
pub tree_can_save : (c : Collection) (settings : Settings) (ix : IndexParts) → IsCollection c
    → IsTreeOf c settings.layout settings.leaf_size ix → 1 ≤ settings.leaf_size → settings.leaf_size ≤ 65535
    → CanSave settings (length c.series) ix
tree_can_save c settings ix is tree some few =
    let P : List TreeLeaf → Type 0 = λ leaves. All (HasSaved (length c.series)) leaves in
    record {
      segments = tree.segments;
      count_limit = is.count_limit;
      some_leaf_size = some;
      leaf_size_limit = few;
      leaves = subst P (sym tree.leaves) (leaves_can_save c settings.layout settings.leaf_size);
    }
