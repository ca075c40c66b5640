-- The parts of all root children, put together, are the tree of the collection, and each thing lies at its place.
use Rattle.std.proofs.Common.{◌≡◌, ◌^◌, ◌<◌, All, List, length, map, sym, ap, ◌∙◌, subst}
use Rattle.std.specs.List.{range_with_len}
use Rattle.series_core.specs.Collection.{Collection}
use Rattle.isax_word.specs.declared.member.Member.{Member}
use Rattle.subtree_build.specs.declared.leaf.GrownLeaf.{GrownLeaf}
use Rattle.subtree_build.specs.declared.part.Joined.{Joined}
use Rattle.subtree_build.specs.declared.part.RootPart.{RootPart}
use Rattle.subtree_build.specs.declared.settings.Settings.{Settings}
use Rattle.subtree_build.specs.declared.splicing.RootLists.{RootLists}
use Rattle.subtree_build.specs.Building.{HoldsRoots, IsPartAt}
use Rattle.subtree_build.specs.Grown.{cut_leaves, members_in}
use Rattle.subtree_build.specs.Outline.{outline}
use Rattle.subtree_build.specs.Parts.{joined_nodes, part_firsts}
use Rattle.subtree_build.specs.Places.{places_from}
use Rattle.subtree_build.proofs.Assembling.{within_all, few_parts, nodes_are, firsts_are, leaves_all, whole_all}
use Rattle.subtree_build.proofs.BareTrees.{IsJoined, few_joined, bare_of, series_of}
use Rattle.subtree_build.proofs.Joining.{part_leaves, part_members}
use Rattle.subtree_build.proofs.Placed.{tree_is_seen}
use Rattle.subtree_build.proofs.bare_tree.BareTree.of_parts.Given as given
use Rattle.subtree_build.proofs.bare_tree.BareTree.of_parts.Goals as goal
use Rattle.subtree_build.proofs.bare_tree.BareTree.of_parts.Goals.{In_ok-joined}

pub join_parts-requires-clause-within : goal.join_parts-requires-clause-within
join_parts-requires-clause-within g c =
    within_all c.args.settings.now c.args.found c.args.parts.items c.requires.built

pub join_parts-requires-clause-few : goal.join_parts-requires-clause-few
join_parts-requires-clause-few g c =
    few_parts c.args.settings.now (g.R.Rows.collection c.args.rows.now) c.args.found c.args.parts.items c.requires.roots
    c.requires.places c.requires.built

-- parts put together are those of the tree
is_joined : (settings : Settings) (rows : Collection) (found : RootLists) (parts : List RootPart) (joined : Joined)
    → HoldsRoots settings.layout rows found → map (λ (p : RootPart). p.place) parts ≡ range_with_len 0 (length found.roots.items)
    → All (IsPartAt settings found) parts
    → map outline joined.nodes.items ≡ joined_nodes 0 parts → joined.firsts.items ≡ part_firsts 0 parts
    → joined.leaves.items ≡ part_leaves parts → joined.members.items ≡ part_members parts
    → IsJoined rows settings.layout settings.leaf_size joined
is_joined settings rows found parts joined holds places built nodes firsts leaves members = record {
  nodes = nodes ∙ nodes_are settings rows found parts holds places built;
  firsts = firsts ∙ firsts_are settings rows found parts holds places built;
  leaves = ap (λ (ls : List GrownLeaf). cut_leaves ls joined.members.items) leaves
      ∙ ap (cut_leaves (part_leaves parts)) members
      ∙ leaves_all settings rows found parts holds places built;
  whole = ap members_in leaves ∙ whole_all settings found parts built ∙ ap (λ (ms : List Member). length ms) (sym members);
}

-- and here they were put together
own : (g : given.Over) (c : In_ok-joined g)
    → IsJoined (g.R.Rows.collection c.args.rows.now) c.args.settings.now.layout c.args.settings.now.leaf_size c.in_ok-joined.joined
own g c =
    let is = c.in_ok-joined.ensures in
    is_joined c.args.settings.now (g.R.Rows.collection c.args.rows.now) c.args.found c.args.parts.items c.in_ok-joined.joined
    c.requires.roots c.requires.places c.requires.built is.nodes is.firsts is.leaves is.members

pub placed-requires : goal.placed-requires
placed-requires g c =
    let layout = c.args.settings.now.layout in
    let P : List GrownLeaf → Type 0 = λ ls. members_in ls < 2 ^ 32 in
    subst P (sym c.as_slice.ensures.value)
    (few_joined (g.R.Rows.collection c.args.rows.now) layout c.args.settings.now.leaf_size c.in_ok-joined.joined
    c.segments-segments.ensures.divides c.requires.roots.sound (own g (goal.at.placed-requires g c).In_ok-joined))

pub returns-clause-tree : goal.returns-clause-tree
returns-clause-tree g c =
    let is = own g (goal.at.returns-clause-tree g c).In_ok-joined in
    let settings = c.args.settings.now in
    tree_is_seen (g.R.Rows.collection c.args.rows.now) settings.layout settings.leaf_size c.segments-segments.result
    c.args.found.roots.items c.in_ok-joined.joined c.in_ok-leaves.leaves.items c.segments-segments.ensures.value
    c.requires.roots.roots is.nodes is.leaves (c.in_ok-leaves.ensures ∙ ap (places_from 0) c.as_slice.ensures.value)

pub returns-clause-bare : goal.returns-clause-bare
returns-clause-bare g c =
    let is = own g (goal.at.returns-clause-bare g c).In_ok-joined in
    bare_of (g.R.Rows.collection c.args.rows.now) c.args.settings.now.layout c.args.settings.now.leaf_size
    c.segments-segments.result c.args.found.roots c.in_ok-joined.joined c.in_ok-leaves.leaves
    c.segments-segments.ensures.divides c.requires.roots.sound is c.segments-segments.ensures.value c.requires.roots.roots
    (c.in_ok-leaves.ensures ∙ ap (places_from 0) c.as_slice.ensures.value)

pub returns-clause-few : goal.returns-clause-few
returns-clause-few g c = (returns-clause-bare g c).seen.few

pub returns-clause-places : goal.returns-clause-places
returns-clause-places g c = (returns-clause-bare g c).places

pub returns-clause-series : goal.returns-clause-series
returns-clause-series g c =
    series_of (g.R.Rows.collection c.args.rows.now) c.args.settings.now.layout c.args.settings.now.leaf_size
    c.in_ok-joined.joined (own g (goal.at.returns-clause-series g c).In_ok-joined)
