-- Workers of the second phase: what they build from, and what they have built.
use Rattle.std.specs.Prelude.{◌≡◌, ℕ, ◌^◌, ◌<◌, List, [], length, map, true, slice_index, slice_index_or, IsPermutation}
use Rattle.std.specs.List.{All}
use Rattle.claim_word.specs.Passes.{Pass}
use Rattle.series_core.specs.Collection.{Collection, IsCollection}
use Rattle.segment_sums.specs.Division.{IsDivision}
use Rattle.isax_word.specs.declared.layout.Layout.{Layout}
use Rattle.isax_word.specs.Word.{one_bit_word}
use Rattle.isax_word.specs.declared.member.Member.{Member}
use Rattle.summary_phase.specs.Members.{members_of}
use Rattle.summary_phase.specs.Roots.{of_root}
use Rattle.subtree_build.specs.declared.leaf.TreeLeaf.{TreeLeaf}
use Rattle.subtree_build.specs.declared.part.RootPart.{RootPart}
use Rattle.subtree_build.specs.declared.settings.Settings.{Settings}
use Rattle.subtree_build.specs.declared.splicing.RootLists.{RootLists}
use Rattle.subtree_build.specs.Division.{node_of, roots_of}
use Rattle.subtree_build.specs.Grown.{cut_leaves, members_in}
use Rattle.subtree_build.specs.Members.{NumbersDiffer, HaveSegments, by_number}
use Rattle.subtree_build.specs.Outline.{outline}
use Rattle.subtree_build.specs.Tree.{Tree, IsBuilt}

-- the members of the root child at a place
abbrev pub list_at : RootLists → ℕ → List Member
list_at found i = slice_index_or found.lists.items i []

-- the root number of the root child at a place
abbrev pub root_at : RootLists → ℕ → ℕ
root_at found i = slice_index found.roots.items i

-- a root number and its members, of which there are some, from which a root child can be built
pub record IsRootList (w root : ℕ) (list : List Member) : Type 0 where
  pub root_fits : root < 2 ^ w
  pub some : 0 < length list
  pub few : length list < 2 ^ 32
  pub segments : HaveSegments w list
  pub numbers : NumbersDiffer list

-- there is a list for each root number, from which its root child can be built
pub record CanBuild (settings : Settings) (found : RootLists) : Type 0 where
  pub one_list_each : length found.lists.items ≡ length found.roots.items
  pub each : (i : ℕ) → i < length found.roots.items
      → IsRootList settings.layout.cuts.segments (root_at found i) (list_at found i)

-- the root child at a place
abbrev pub child_at : Settings → RootLists → ℕ → Tree TreeLeaf
child_at settings found i =
    node_of settings.leaf_size (one_bit_word (root_at found i) settings.layout.cuts.segments)
    (by_number (list_at found i))

-- the leaves of a part with their members
abbrev pub leaves_of_part : RootPart → List TreeLeaf
leaves_of_part p = cut_leaves p.leaves.items p.members.items

-- a part is the root child at its place, and each of its members lies in one of its leaves
pub record IsPartAt (settings : Settings) (found : RootLists) (p : RootPart) : Type 0 where
  pub placed : p.place < length found.roots.items
  pub built : IsBuilt (child_at settings found p.place) [] (outline p.node) (leaves_of_part p)
  pub whole : members_in p.leaves.items ≡ length p.members.items

-- the places of parts
abbrev pub places_of : List RootPart → List ℕ
places_of parts = map (λ p. p.place) parts

-- with this pass, which has ended, a worker made the root child of each place that it drew
pub record HasBuilt (settings : Settings) (found : RootLists) (pass : Pass) (parts : List RootPart) : Type 0 where
  pub ended : pass.ended ≡ true
  pub drawn : places_of parts ≡ pass.draws
  pub made : All (IsPartAt settings found) parts

-- the root numbers that some series has, and for each of them a list of the members under it, each once
pub record HoldsRoots (layout : Layout) (c : Collection) (found : RootLists) : Type 0 where
  pub division : IsDivision layout.cuts
  pub sound : IsCollection c
  pub roots : found.roots.items ≡ roots_of c layout
  pub one_list_each : length found.lists.items ≡ length found.roots.items
  pub members : (i : ℕ) → i < length found.roots.items
      → IsPermutation (of_root (members_of layout c) (root_at found i)) (list_at found i)
