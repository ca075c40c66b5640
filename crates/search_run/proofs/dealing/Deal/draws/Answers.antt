-- A draw before the last is no farther behind the first than the queries that are dealt.
use Rattle.std.proofs.Common.{◌+◌, ◌-◌, ◌*◌, ◌≤◌, ap, arith}
use Rattle.std.proofs.lemmas.Grind.{div_ceil_times}
use Rattle.std.proofs.lemmas.Nat.{mul-le}
use Rattle.search_run.proofs.dealing.Deal.draws.Goals as goal

pub returns : goal.returns
returns c n low =
    let d = c.args.self.now in
    let all = div_ceil_times (d.end - d.first) d.each c.requires.some in
    let is = ap (λ k. k * d.each) c.div_ceil.ensures in
    let more : (n + 1) * d.each ≤ c.div_ceil.result * d.each = mul-le (n + 1) d.each c.div_ceil.result d.each (omega (arith, low)) (omega arith) in
    omega (arith, all.1, is, more, c.requires.order)
