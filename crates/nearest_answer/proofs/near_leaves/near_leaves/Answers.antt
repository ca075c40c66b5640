-- The leaves of a wide group that is far are far; else each of its groups is looked at. In all wide groups is each leaf.
use Rattle.std.proofs.Common.{◌≤◌, ◌+◌, ◌*◌, List, sym, subst, arith}
use Rattle.series_core.specs.declared.queue_words.Entry.{Entry}
use Rattle.nearest_answer.specs.NearLeaves.{AreNearBelow}
use Rattle.search_task.specs.Questions.{ground_of}
use Rattle.nearest_answer.proofs.LeavesNear.{all_looked, far_up_to, none_looked}
use Rattle.nearest_answer.proofs.near_leaves.near_leaves.Goals as goal

pub loop-wide-init : goal.loop-wide-init
loop-wide-init g c =
    let ground = ground_of c.args.search.now in
    subst (λ (es : List Entry). AreNearBelow ground c.args.limit 0 es) (sym c.new-entries.ensures.items)
    (none_looked ground c.args.limit)

pub loop-wide-preserved-then-wide_group_bound-limit : goal.loop-wide-preserved-then-wide_group_bound-limit
loop-wide-preserved-then-wide_group_bound-limit g c =
    let ground = ground_of c.args.search.now in
    let wide = c.loop-wide.wide in
    far_up_to ground c.args.limit (wide * 256) ((wide + 1) * 256) c.loop-wide.entries.items (omega arith)
    (λ l from to real s member.
    let below = c.wide_group_bound.ensures l from (omega arith) real s member in
    omega (arith, below, c.if-wide_group_bound-limit.true)) c.loop-wide.invariant

pub loop-group-init : goal.loop-group-init
loop-group-init g c =
    let ground = ground_of c.args.search.now in
    let wide = c.loop-wide.wide in
    subst (λ m. AreNearBelow ground c.args.limit m c.loop-wide.entries.items)
    {x = wide * 256} {y = wide * 16 * 16} (omega arith) c.loop-wide.invariant

pub loop-group-preserved : goal.loop-group-preserved
loop-group-preserved g c =
    let ground = ground_of c.args.search.now in
    let group = c.loop-group.group in
    subst (λ m. AreNearBelow ground c.args.limit m c.add_group.new.entries.items)
    {x = group * 16 + 16} {y = (group + 1) * 16} (omega arith)
    (c.in_ok-add_group.ensures c.loop-group.invariant)

pub loop-wide-preserved : goal.loop-wide-preserved
loop-wide-preserved g c =
    let ground = ground_of c.args.search.now in
    let wide = c.loop-wide.wide in
    let group = c.loop-group.group in
    let most : group ≤ wide * 16 + c.min.result = c.loop-group.auto.group-end (omega arith) in
    far_up_to ground c.args.limit (group * 16) ((wide + 1) * 256) c.loop-group.entries.items
    (omega arith) (λ l from to real. absurd (omega arith)) c.loop-group.invariant

pub returns : goal.returns
returns g c =
    let ground = ground_of c.args.search.now in
    all_looked ground c.args.limit (c.loop-wide.wide * 256) c.loop-wide.entries.items (omega arith) c.loop-wide.invariant
