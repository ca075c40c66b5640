-- Rounded up, the groups have room for all series, and none is without one.
use Rattle.std.proofs.Common.{ℕ, ◌*◌, length, ap, arith}
use Rattle.std.proofs.lemmas.Grind.{div_ceil_times}
use Rattle.discord_query.proofs.Grouping.{all_cut}
use Rattle.discord_query.proofs.groups.group_count.Goals as goal

pub returns : goal.returns
returns g c =
    let size = c.args.search.now.size in
    let count = c.count.result in
    let some = c.requires.ready.size in
    let is = c.count.ensures.count in
    let round = div_ceil_times count size (omega (arith, some)) in
    let up = ap (λ (n : ℕ). n * size) c.div_ceil.ensures in
    all_cut size (length (g.R.Rows.collection c.args.search.now.rows.now).series) c.div_ceil.result some
    (omega (arith, up, round.0, is)) (omega (arith, up, round.1, is))
