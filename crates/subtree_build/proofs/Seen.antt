-- What lies in an index by what it is seen as: the places of its leaves (`has_place`), the boxes of these (`leaf_box_is`) and of groups of
-- them (`group_there`, `group_is`, `wide_group_there`, `wide_group_is`) in a table of means, and the codes in a table of codes (`codes_are`).
use Rattle.std.proofs.Common.{◌≡◌, ◌∙◌, ℕ, ◌*◌, ◌-◌, ◌<◌, List, [], length, take, drop, get_or, map, ap, sym, subst, arith}
use Rattle.std.specs.Prelude.{IfSome, Option, Some, flat_map, option_map, slice_index_or, vec_len}
use Rattle.std.specs.declared.alloc.Global.{Global}
use Rattle.std.specs.declared.vec.Vec.{Vec}
use Rattle.std.proofs.lemmas.List.{get_or-map, length-map}
use Rattle.mean_bound.specs.Boxes.{Box, box_of, box_of_boxes}
use Rattle.row_codes.specs.Rows.{Block}
use Rattle.subtree_build.specs.contracts.index.Index.{the_view}
use Rattle.subtree_build.specs.declared.index.Index.TheInside.{Inside}
use Rattle.subtree_build.specs.declared.leaf.LeafPlace.{LeafPlace}
use Rattle.subtree_build.specs.declared.tables.CodeTable.{CodeTable}
use Rattle.subtree_build.specs.declared.tables.MeanTable.{MeanTable}
use Rattle.subtree_build.specs.BareTree.{AreBeside, IsBare}
use Rattle.subtree_build.specs.Index.{IndexParts}
use Rattle.subtree_build.specs.Places.{leaf_seen, means_seen, codes_seen, means_beside, codes_beside, AreGroups, IsCodeTable, IsMeanTable}
use Rattle.subtree_build.proofs.Grouping.{group_inside, group_of_means}
use Rattle.subtree_build.proofs.InRow.{codes_seen_are_all}

module _ (x : Inside) {ix : IndexParts} (view_is : the_view x ≡ ix) where
  -- a leaf has a place
  pub has_place : (l : ℕ) → l < length ix.leaves → l < length x.tree.leaves.items
  has_place l inside =
      omega (
        arith,
        inside,
        length-map x.tree.leaves.items (leaf_seen x.tree.members.items),
        ap (λ (p : IndexParts). length p.leaves) view_is,
      )

  module _ (beside : AreBeside x.tree x.mean_table x.code_table) (t : MeanTable) (has : x.mean_table ≡ Some t) where
    -- a table that there is has the means of the members
    own_table : IsMeanTable x.tree.members.items x.tree.leaves.items t
    own_table =
        let P : Option MeanTable → Type 0 = λ o. IfSome o (IsMeanTable x.tree.members.items x.tree.leaves.items) in
        subst P has beside.means_are

    -- and these are seen
    seen_means : Some (means_seen t.means.items x.tree.leaves.items) ≡ ix.means
    seen_means =
        ap (λ (o : Option MeanTable). means_beside o x.tree.leaves.items) (sym has)
        ∙ ap (λ (p : IndexParts). p.means) view_is

    -- the box of a leaf is that of its means
    pub leaf_box_is : (l : ℕ) → l < length ix.leaves → (b : Box) → b ≡ get_or t.boxes.leaves.items l b
        → Some b ≡ option_map (λ (means : List (List (List ℕ))). box_of (slice_index_or means l [])) ix.means
    leaf_box_is l inside b at =
        let part : LeafPlace → List (List ℕ) = λ p. take (p.end - p.first) (drop p.first t.means.items) in
        let low = has_place l inside in
        let none : LeafPlace = record { word = []; first = 0; end = 0 } in
        ap Some
        (at
        ∙ ap (λ (bs : List Box). get_or bs l b) own_table.boxes_are.leaves
        ∙ get_or-map (λ (q : LeafPlace). box_of (part q)) x.tree.leaves.items l none b low
        ∙ ap box_of (sym (get_or-map part x.tree.leaves.items l none [] low)))
        ∙ ap (option_map (λ (means : List (List (List ℕ))). box_of (slice_index_or means l []))) seen_means

    module _ (g : ℕ) where
      -- a group of this size with a leaf has a box
      box_there : (size : ℕ) (groups : Vec Box Global) → AreGroups size t.boxes.leaves.items groups.items
          → g * size < length ix.leaves → g < vec_len groups
      box_there size groups are inside =
          let low = group_inside size g t.means.items x.tree.leaves.items t.boxes.leaves.items groups.items
          own_table.boxes_are.leaves are (has_place (g * size) inside) in
          omega (arith, low, groups.ok)

      -- that of the means of its leaves
      box_is : (size : ℕ) (groups : Vec Box Global) → AreGroups size t.boxes.leaves.items groups.items
          → g * size < length ix.leaves → (b : Box) → b ≡ get_or groups.items g b
          → Some b
          ≡ option_map (λ (means : List (List (List ℕ))). box_of_boxes (map box_of (take size (drop (g * size) means)))) ix.means
      box_is size groups are inside b at =
          ap Some
          (group_of_means size g t.means.items x.tree.leaves.items t.boxes.leaves.items groups.items
          own_table.boxes_are.leaves are (has_place (g * size) inside) b at)
          ∙ ap (option_map (λ (means : List (List (List ℕ))). box_of_boxes (map box_of (take size (drop (g * size) means)))))
          seen_means

      -- so has a group
      pub group_there : g * 16 < length ix.leaves → g < vec_len t.boxes.groups
      group_there = box_there 16 t.boxes.groups own_table.boxes_are.groups

      -- and a wide group
      pub wide_group_there : g * 256 < length ix.leaves → g < vec_len t.boxes.wide_groups
      wide_group_there = box_there 256 t.boxes.wide_groups own_table.boxes_are.wide_groups

      -- which is that of its leaves' means
      pub group_is : g * 16 < length ix.leaves → (b : Box) → b ≡ get_or t.boxes.groups.items g b
          → Some b
          ≡ option_map (λ (means : List (List (List ℕ))). box_of_boxes (map box_of (take 16 (drop (g * 16) means)))) ix.means
      group_is = box_is 16 t.boxes.groups own_table.boxes_are.groups

      -- of a wide group too
      pub wide_group_is : g * 256 < length ix.leaves → (b : Box) → b ≡ get_or t.boxes.wide_groups.items g b
          → Some b
          ≡ option_map (λ (means : List (List (List ℕ))). box_of_boxes (map box_of (take 256 (drop (g * 256) means)))) ix.means
      wide_group_is = box_is 256 t.boxes.wide_groups own_table.boxes_are.wide_groups

  module _ (bare : IsBare x.tree) (beside : AreBeside x.tree x.mean_table x.code_table) (t : CodeTable)
      (has : x.code_table ≡ Some t) where
    -- the codes of a table that there is are those of all leaves
    pub codes_are : (codes : List Block) → codes ≡ t.codes.items
        → Some codes ≡ option_map (flat_map (λ (cs : List Block). cs)) ix.codes
    codes_are codes are =
        let P : Option CodeTable → Type 0 = λ o. IfSome o (IsCodeTable x.tree.members.items) in
        let own : IsCodeTable x.tree.members.items t = subst P has beside.codes_are in
        let all : codes ≡ flat_map (λ (cs : List Block). cs) (codes_seen t.blocks t.codes.items x.tree.leaves.items)
        = are
        ∙ sym (codes_seen_are_all t.blocks t.codes.items x.tree.members.items x.tree.leaves.items own.codes_each bare.seen) in
        ap Some all
        ∙ ap (λ (o : Option CodeTable). option_map (flat_map (λ (cs : List Block). cs)) (codes_beside o x.tree.leaves.items))
        (sym has)
        ∙ ap (λ (p : IndexParts). option_map (flat_map (λ (cs : List Block). cs)) p.codes) view_is
