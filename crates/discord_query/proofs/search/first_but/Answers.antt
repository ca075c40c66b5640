-- The pair at hand is the first of another series, or that stands behind it.
use Rattle.std.proofs.Common.{take, sym, ap, ◌∙◌, arith}
use Rattle.std.specs.List.{filter}
use Rattle.std.proofs.lemmas.List.{drop_all}
use Rattle.discord_query.specs.Discords.{is_other}
use Rattle.discord_query.proofs.Others.{other_behind, other_here}
use Rattle.discord_query.proofs.search.first_but.Goals as goal

pub returns-then-pair-number : goal.returns-then-pair-number
returns-then-pair-number c =
    other_here c.args.number c.args.pairs.now c.loop-pair.pair-index (record { distance = 0; number = 0 })
    c.loop-pair-test.true c.if-pair-number.true
    ∙ c.loop-pair.invariant

pub loop-pair-preserved : goal.loop-pair-preserved
loop-pair-preserved c =
    other_behind c.args.number c.args.pairs.now c.loop-pair.pair-index (record { distance = 0; number = 0 })
    c.loop-pair-test.true c.if-pair-number.false
    ∙ c.loop-pair.invariant

pub returns : goal.returns
returns c =
    let ps = c.args.pairs.now in
    let f = is_other c.args.number in
    sym (ap (λ l. take 1 (filter f l)) (drop_all c.loop-pair.pair-index ps (omega (arith, c.loop-pair-test.false))))
    ∙ c.loop-pair.invariant
