-- Another that is near gives the series up.
use Rattle.std.proofs.Common.{◌-◌, arith}
use Rattle.discord_query.proofs.Others.{other_far}
use Rattle.discord_query.proofs.search.DiscordSearch.is_given_up.Goals as goal

pub returns-then-is_near : goal.returns-then-is_near
returns-then-is_near g c = λ _.
    let near = c.is_near.ensures c.if-is_near.true in
    other_far (g.R.Rows.collection c.args.self.now.rows.now) c.args.number c.at-known.result.number c.args.limit
    (18446744073709551615 - c.args.limit - 1) near.0 near.1 (omega (arith, c.if-limit-lt-NONE.true))

pub returns : goal.returns
returns g c = λ _.
    let near = c.in-Some-near_other.ensures in
    other_far (g.R.Rows.collection c.args.self.now.rows.now) c.args.number c.in-Some-near_other.other c.args.limit
    (18446744073709551615 - c.args.limit - 1) near.0 near.1 (omega (arith, c.if-limit-lt-NONE.true))
