-- The next root is kept with its list where it has members.
use Rattle.std.proofs.Common.{◌≡◌, List, length, map, sym, ap, ◌∙◌, subst, arith, All}
use Rattle.summary_phase.specs.Roots.{root_of_all}
use Rattle.subtree_build.specs.Splicing.{has_members}
use Rattle.subtree_build.proofs.Spliced.{Lists, roots_grow, lists_grow, others_stand, emptied_whole}
use Rattle.subtree_build.proofs.splicing.splice.Goals as goal

pub loop-root-preserved : goal.loop-root-preserved
loop-root-preserved c =
    let all = c.args.buffers.now in
    let root = c.loop-root.root in
    let now = c.loop-root.buffers in
    let was = c.loop-root.invariant in
    let list = c.spliced-list.result in
    let own : list ≡ root_of_all all root = c.spliced-list.ensures.list ∙ was.2 root (omega arith) in
    let has : has_members (root_of_all all root) ≡ has_members list = ap has_members (sym own) in
    let roots = roots_grow (λ r. has_members (root_of_all all r)) root c.loop-root.found.roots.items
    (has_members list) has was.0 in
    let P : List Lists → Type 0 = λ bs. All (λ b. length b ≡ c.args.roots) bs in (
      c.in_ok-keep.ensures.roots ∙ roots,
      c.in_ok-keep.ensures.lists
          ∙ lists_grow (root_of_all all) root list c.loop-root.found.roots.items c.loop-root.found.lists.items
          (has_members list) own was.1
          ∙ ap (map (root_of_all all)) (sym c.in_ok-keep.ensures.roots),
      λ r behind. ap (λ (bs : List Lists). root_of_all bs r) c.spliced-list.ensures.left
          ∙ others_stand root r now (λ same. absurd (omega (arith, same, behind)))
          ∙ was.2 r (omega (arith, behind)),
      subst P (sym c.spliced-list.ensures.left) (emptied_whole root c.args.roots now was.3),
    )
