-- Each number waits until it has a bit in front; all bounds stay below 2^49.
use Rattle.std.proofs.Common.{◌≡◌, ◌+◌, ◌*◌, ◌%◌, ◌^◌, arith, sym, subst, get_or, set}
use Rattle.std.proofs.lemmas.Nat.{one_shl}
use Rattle.lower_bound.specs.Halves.{view_with}
use Rattle.lower_bound.proofs.HalfBounds.{InFront, in_front_end, in_front_next, shifted_fits}
use Rattle.lower_bound.proofs.roots.put_in_front.Goals as goal

pub overflow_add-bounds : goal.overflow_add-bounds
overflow_add-bounds c =
    let small = shifted_fits (view_with c.args.layout.now c.args.sums.now) c.args.j c.args.count c.loop-x.x 1
    c.cost_at-high.result c.loop-x.bounds c.requires.is_view c.requires.few c.requires.inside (omega arith)
    c.loop-x-test.true c.loop-x.invariant c.cost_at-high.ensures in
    omega (arith, small)

pub overflow_add-bounds-in-loop-x-2 : goal.overflow_add-bounds-in-loop-x-2
overflow_add-bounds-in-loop-x-2 c =
    let small = shifted_fits (view_with c.args.layout.now c.args.sums.now) c.args.j c.args.count c.loop-x.x 0
    c.cost_at-low.result c.loop-x.bounds c.requires.is_view c.requires.few c.requires.inside (omega arith)
    c.loop-x-test.true c.loop-x.invariant c.cost_at-low.ensures in
    omega (arith, small)

pub loop-x-preserved : goal.loop-x-preserved
loop-x-preserved c =
    let n = c.args.count in
    let j = c.args.j in
    let x = c.loop-x.x in
    let bounds = c.loop-x.bounds in
    let low = c.cost_at-low.result in
    let high = c.cost_at-high.result in
    let half : 1 * 2 ^ n % 18446744073709551616 ≡ 2 ^ n
    = one_shl n 64 (omega (arith, c.requires.few)) in
    let view = view_with c.args.layout.now c.args.sums.now in
    subst
    (λ h. InFront view j n (x + 1)
    (set (set bounds (h + x) (get_or bounds x 0 + high)) x (get_or bounds x 0 + low))) (sym half)
    (in_front_next view j n x low high bounds c.requires.few
    (omega (arith, half, c.loop-x-test.true)) c.cost_at-low.ensures c.cost_at-high.ensures
    c.loop-x.invariant)

pub returns : goal.returns
returns c =
    let n = c.args.count in
    let view = view_with c.args.layout.now c.args.sums.now in
    let half : 1 * 2 ^ n % 18446744073709551616 ≡ 2 ^ n
    = one_shl n 64 (omega (arith, c.requires.few)) in
    let end : c.loop-x.x ≡ 2 ^ n = omega (arith, half, c.loop-x-test.false, c.loop-x.auto.x-end) in
    in_front_end view c.args.j n c.loop-x.bounds
    (subst (λ x. InFront view c.args.j n x c.loop-x.bounds) end c.loop-x.invariant)
