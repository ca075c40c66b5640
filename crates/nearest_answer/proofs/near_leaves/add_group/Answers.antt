-- The leaves of a group that is far are far; else each of them is looked at: one that is far is left out, and one that is near is added.
use Rattle.std.proofs.Common.{◌+◌, ◌*◌, List, sym, subst, arith}
use Rattle.series_core.specs.declared.queue_words.Entry.{Entry}
use Rattle.nearest_answer.specs.NearLeaves.{AreNearBelow}
use Rattle.search_task.specs.Questions.{ground_of}
use Rattle.nearest_answer.proofs.LeavesNear.{far_up_to, next_far, next_near}
use Rattle.nearest_answer.proofs.near_leaves.add_group.Goals as goal

pub returns-then-group_bound-limit : goal.returns-then-group_bound-limit
returns-then-group_bound-limit g c are =
    let first = c.args.group * 16 in
    far_up_to (ground_of c.args.search.now) c.args.limit first (first + 16) c.args.entries.now.items (omega arith)
    (λ l from to real s member.
    let below = c.group_bound.ensures l from to real s member in
    omega (arith, below, c.if-group_bound-limit.true)) are

pub loop-leaf-init : goal.loop-leaf-init
loop-leaf-init g c are =
    subst (λ m. AreNearBelow (ground_of c.args.search.now) c.args.limit m c.args.entries.now.items)
    {x = c.args.group * 16} {y = c.args.group * 16} (omega arith) are

pub loop-leaf-preserved-then-bound-limit : goal.loop-leaf-preserved-then-bound-limit
loop-leaf-preserved-then-bound-limit g c are =
    next_far (ground_of c.args.search.now) c.args.limit c.loop-leaf.leaf c.leaf_bound-bound.result
    c.loop-leaf.entries.items c.leaf_bound-bound.ensures c.if-bound-limit.true (c.loop-leaf.invariant are)

pub loop-leaf-preserved : goal.loop-leaf-preserved
loop-leaf-preserved g c are =
    let ground = ground_of c.args.search.now in
    let leaf = c.loop-leaf.leaf in
    let e : Entry = record { bound = c.leaf_bound-bound.result; leaf = leaf } in
    subst (λ (es : List Entry). AreNearBelow ground c.args.limit (leaf + 1) es) (sym c.in_ok-push.ensures.items)
    (next_near ground c.args.limit e c.loop-leaf.entries.items
    (record { leaf = omega arith; low = c.leaf_bound-bound.ensures }) (c.loop-leaf.invariant are))

pub returns : goal.returns
returns g c are =
    let ix = c.args.search.now.index in
    let a = c.args.search.now.question in
    far_up_to (ground_of c.args.search.now) c.args.limit c.loop-leaf.leaf (c.args.group * 16 + 16) c.loop-leaf.entries.items
    (omega arith) (λ l from to real. absurd (omega arith)) (c.loop-leaf.invariant are)
