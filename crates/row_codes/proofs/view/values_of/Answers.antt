-- A whole block is lent, and else the last.
use Rattle.std.proofs.Common.{◌≡◌, ◌∙◌, ◌+◌, ◌-◌, ◌*◌, ap, arith, take, drop}
use Rattle.row_codes.proofs.Views.{last_block, whole_block}
use Rattle.row_codes.proofs.view.values_of.Goals as goal

pub returns-then-from-query-clause-value : goal.returns-then-from-query-clause-value
returns-then-from-query-clause-value c =
    let all : 256 * c.args.k + 256 - 256 * c.args.k ≡ 256 = omega arith in
    ap (λ n. take n (drop (256 * c.args.k) c.args.query.now)) all ∙ whole_block c.args.query.now c.args.k (omega (arith, c.if-from-query.true))

pub returns-else-from-query-clause-value : goal.returns-else-from-query-clause-value
returns-else-from-query-clause-value c =
    c.requires.last ∙ last_block c.args.query.now c.args.k (omega (arith, c.requires.inside)) c.if-from-query.false
