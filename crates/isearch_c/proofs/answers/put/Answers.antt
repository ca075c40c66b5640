-- One place more is filled, until all are.
use Rattle.std.proofs.Common.{◌≡◌, ◌++◌, ◌-◌, length, ap, ◌∙◌, arith}
use Rattle.std.specs.Prelude.{replicate}
use Rattle.isearch_c.specs.Found.{nothing}
use Rattle.isearch_c.proofs.Filling.{fill_more}
use Rattle.isearch_c.proofs.answers.put.Goals as goal

pub loop-preserved : goal.loop-preserved
loop-preserved c =
    let few = c.loop.auto.counter in
    fill_more c.args.found.now.items c.args.pairs.now c.loop.found.items c.push.new.self.items
    (c.loop.counter - length c.args.pairs.now) _ (omega (arith, few)) c.loop.invariant c.in_ok-push.ensures.items

pub returns : goal.returns
returns c =
    let same : c.loop.counter - length c.args.pairs.now ≡ c.args.k - length c.args.pairs.now
    = omega (arith, c.loop-test.false, c.loop.auto.counter, c.loop.auto.counter-end c.requires) in
    c.loop.invariant ∙ ap (λ n. c.args.found.now.items ++ (c.args.pairs.now ++ replicate n nothing)) same
