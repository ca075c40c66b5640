use Rattle.std.proofs.Common.{arith, ap, sym, ◌∙◌, take, refl}
use Rattle.series_core.specs.Pairs.{insert}
use Rattle.series_core.proofs.Room.{ascending_take, smallest_near, smallest_far, last_of}
use Rattle.series_core.proofs.best.KBest.add.Goals as goal

pub insert_in_order-requires-then-is_before-clause-ordered : goal.insert_in_order-requires-then-is_before-clause-ordered
insert_in_order-requires-then-is_before-clause-ordered c =
    rw c.pop.ensures.rest (ascending_take _ c.self.inside.pairs.items c.self.invariant.0.ordered)

pub returns-then-is_before-clause-pairs : goal.returns-then-is_before-clause-pairs
returns-then-is_before-clause-pairs c =
    let held = c.self.inside.pairs.ok.0 in
    let last = last_of c.self.inside.k c.len-2.result c.self.inside.pairs.items c.index.result.now
    (omega (arith, held)) (omega (arith, held, c.self.invariant.0.size)) c.self.invariant.0.some c.index.ensures in
    let result = smallest_near c.self.inside.k c.args.pair c.index.result.now c.self.inside.pairs.items
    c.self.invariant.0.ordered last.0 c.self.invariant.0.some last.1 (sym c.is_before.ensures ∙ c.if-is_before.true) in
    rw (← c.self.view_is, result, c.insert_in_order-then-is_before.ensures.items, c.pop.ensures.rest)
    (ap (λ n. insert c.args.pair (take n c.self.inside.pairs.items)) (omega (arith, held, last.0)))

pub returns-else-is_before-clause-pairs : goal.returns-else-is_before-clause-pairs
returns-else-is_before-clause-pairs c =
    let held = c.self.inside.pairs.ok.0 in
    let last = last_of c.self.inside.k c.len-2.result c.self.inside.pairs.items c.index.result.now
    (omega (arith, held)) (omega (arith, held, c.self.invariant.0.size)) c.self.invariant.0.some c.index.ensures in
    rw (
      ← c.self.view_is,
      smallest_far c.self.inside.k c.args.pair c.index.result.now c.self.inside.pairs.items
          c.self.invariant.0.ordered last.0 c.self.invariant.0.some last.1 (sym c.is_before.ensures ∙ c.if-is_before.false),
    ) refl
