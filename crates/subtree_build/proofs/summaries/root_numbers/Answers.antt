-- One segment has two root numbers, and 16 have 65536.
use Rattle.std.proofs.Common.{◌≡◌, ◌*◌, ◌%◌, ◌^◌, ◌≤◌, arith}
use Rattle.std.proofs.Math.Nat.{pow-le-pow_right, mod-eq_of_lt}
use Rattle.subtree_build.proofs.summaries.root_numbers.Goals as goal

pub returns-clause-some : goal.returns-clause-some
returns-clause-some c =
    let w = c.segments.result in
    let is = c.segments.ensures.divides in
    let same = c.segments.ensures.value in
    let least : 2 ^ 1 ≤ 2 ^ w = pow-le-pow_right {n = 2} (omega arith) {i = 1} {j = w} (omega (arith, is.some_segments, same)) in
    let most : 2 ^ w ≤ 2 ^ 16 = pow-le-pow_right {n = 2} (omega arith) {i = w} {j = 16} (omega (arith, is.few_segments, same)) in
    let whole : 1 * 2 ^ w % 4294967296 ≡ 1 * 2 ^ w = mod-eq_of_lt (omega (arith, most)) in
    omega (arith, least, whole)
