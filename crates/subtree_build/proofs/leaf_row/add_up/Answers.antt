-- One leaf more takes its members from what is left, or wants more.
use Rattle.std.proofs.Common.{◌+◌, false, IsTrue, get_or, arith}
use Rattle.std.proofs.lemmas.List.{get_or_default}
use Rattle.subtree_build.proofs.LeafSteps.{added_some, added_step}
use Rattle.subtree_build.proofs.leaf_row.add_up.Goals as goal

pub returns-then-own-left : goal.returns-then-own-left
returns-then-own-left c =
    let counts = c.args.counts.now in
    let i = c.loop-i.i in
    let own = get_or counts i 0 in
    let more = added_step counts i own c.loop-i-test.true (get_or_default counts i 0 own c.loop-i-test.true) in
    (λ (no : IsTrue false). cc, λ up. absurd (omega (arith, more, added_some counts (i + 1), c.loop-i.invariant, c.if-own-left.true, up)))

pub loop-i-preserved : goal.loop-i-preserved
loop-i-preserved c =
    let counts = c.args.counts.now in
    let i = c.loop-i.i in
    let own = get_or counts i 0 in
    let more = added_step counts i own c.loop-i-test.true (get_or_default counts i 0 own c.loop-i-test.true) in
    omega (arith, more, c.loop-i.invariant, c.if-own-left.false)
