-- Each part goes behind those before it.
use Rattle.std.proofs.Common.{◌≡◌, ◌+◌, ◌^◌, [], ◌∷◌, ◌++◌, length, map, sym, ap, ◌∙◌, arith, append_assoc}
use Rattle.std.specs.Vec.Iter.{into_iter_items}
use Rattle.std.proofs.lemmas.List.{map-append}
use Rattle.list_totals.specs.Totals.{total}
use Rattle.subtree_build.specs.Outline.{outline, moved_up}
use Rattle.subtree_build.specs.Parts.{leaves_in, joined_nodes, part_firsts, NumbersWithin}
use Rattle.subtree_build.proofs.Joining.{joined_nodes_push, part_firsts_push, length-part_leaves, part_leaves_push, part_members_push, moved_fits, next_fits, next_has, next_is_whole}
use Rattle.subtree_build.proofs.part.join_parts.Goals as goal

pub overflow_cast-first : goal.overflow_cast-first
overflow_cast-first c =
    let was = c.loop-part.invariant in
    let fits = next_fits c.args.parts.items c.loop-part.yielded _ _ c.in-Some.part c.in-Some.ensures.steps.0 was.whole c.requires.few in
    omega (arith, fits, ap length was.leaves, c.loop-part.leaves.ok.0, c.len-first.ensures)

pub renumber-requires : goal.renumber-requires
renumber-requires c =
    let was = c.loop-part.invariant in
    let part = c.in-Some.part in
    let parts = c.args.parts.items in
    let next = c.in-Some.ensures.steps.0 in
    moved_fits (outline part.node) (leaves_in part) c.len-first.result (2 ^ 32)
    (next_has parts c.loop-part.yielded _ _ part next was.whole NumbersWithin c.requires.within)
    (omega (
      arith,
      next_fits parts c.loop-part.yielded _ _ part next was.whole c.requires.few,
      ap length was.leaves,
      c.loop-part.leaves.ok.0,
      c.len-first.ensures,
    ))

pub overflow_cast-end : goal.overflow_cast-end
overflow_cast-end c =
    let was = c.loop-part.invariant in
    let part = c.in-Some.part in
    omega (
      arith,
      next_fits c.args.parts.items c.loop-part.yielded _ _ part c.in-Some.ensures.steps.0 was.whole c.requires.few,
      ap length was.leaves,
      c.in_ok-append.ensures.len,
      c.loop-part.leaves.ok.0,
      part.leaves.ok.0,
      c.len-end.ensures,
    )

pub loop-part-preserved : goal.loop-part-preserved
loop-part-preserved c =
    let was = c.loop-part.invariant in
    let done = c.loop-part.yielded in
    let part = c.in-Some.part in
    let rest = into_iter_items c.next.new.self in
    let nodes = c.loop-part.nodes.items in
    let node = c.renumber.new.node in
    let by : c.len-first.result ≡ 0 + total leaves_in done
    = omega (arith, ap length was.leaves, length-part_leaves done, c.loop-part.leaves.ok.0, c.len-first.ensures) in
    let behind : c.len-end.result ≡ 0 + (total leaves_in done + leaves_in part)
    = omega (
      arith,
      ap length was.leaves,
      length-part_leaves done,
      c.in_ok-append.ensures.len,
      c.loop-part.leaves.ok.0,
      part.leaves.ok.0,
      c.len-end.ensures,
    ) in
    record {
      nodes = ap (map outline) c.in_ok-push-2.ensures.items
          ∙ map-append outline nodes (node ∷ [])
          ∙ ap (λ xs. xs ++ outline node ∷ []) was.nodes
          ∙ ap (λ t. joined_nodes 0 done ++ t ∷ [])
          (c.renumber.ensures ∙ ap (λ k. moved_up k (outline part.node)) by)
          ∙ sym (joined_nodes_push 0 done part);
      firsts = c.in_ok-push-3.ensures.items
          ∙ ap (λ xs. xs ++ c.len-end.result ∷ []) was.firsts
          ∙ ap (λ n. part_firsts 0 done ++ n ∷ []) behind
          ∙ sym (part_firsts_push 0 done part);
      leaves = c.in_ok-append.ensures.items
          ∙ ap (λ xs. xs ++ part.leaves.items) was.leaves
          ∙ sym (part_leaves_push done part);
      members = c.in_ok-append-2.ensures.items
          ∙ ap (λ xs. xs ++ part.members.items) was.members
          ∙ sym (part_members_push done part);
      whole = append_assoc done (part ∷ []) rest
          ∙ next_is_whole c.args.parts.items done _ rest part c.in-Some.ensures.steps.0 was.whole;
    }
