-- Each round halves the places that are left, and after eight of them one is left.
use Rattle.std.proofs.Common.{◌≡◌, ◌+◌, ◌-◌, ◌/◌, ◌^◌, ◌*◌, cond, arith, sym, ap, subst, ◌∙◌, to_z, of_z}
use Rattle.std.specs.Int.{w16}
use Rattle.std.proofs.lemmas.Int.{to_z-of_z}
use Rattle.std.proofs.lemmas.Nat.{pow_pos}
use Rattle.breakpoints.specs.declared.table.Table.TheVariants.{Bent}
use Rattle.isax_word.specs.Symbol.{is_reached, symbol_of}
use Rattle.isax_word.proofs.Symbols.{Narrowed, narrowed_is, narrowed_next, halves}
use Rattle.isax_word.proofs.symbol.bent_symbol.Goals as goal

pub bent_reached-requires-clause-last : goal.bent_reached-requires-clause-last
bent_reached-requires-clause-last c =
    let i = c.loop-round.round in
    let half = halves i c.loop-round-test.true in
    omega (arith, c.loop-round.invariant.room, half.0, half.1, pow_pos (7 - i))

pub loop-round-preserved : goal.loop-round-preserved
loop-round-preserved c =
    let i = c.loop-round.round in
    let mean = to_z w16 (of_z w16 c.args.mean) in
    let found = c.loop-round.symbol in
    let half = halves i c.loop-round-test.true in
    let wide : Narrowed 1 mean found (2 * 2 ^ (7 - i))
    = subst (Narrowed 1 mean found) half.1 c.loop-round.invariant in
    let next = narrowed_next 1 mean found (2 ^ (7 - i)) (pow_pos (7 - i)) wide in
    let place : found + 2 ^ (7 - i) * cond (is_reached Bent 1 mean (found + 2 ^ (7 - i))) 1 0
    ≡ found + 128 / 2 ^ i * c.bent_reached.result
    = ap (λ step. found + step * cond (is_reached Bent 1 mean (found + step)) 1 0) (sym half.0)
    ∙ ap (λ r. found + 128 / 2 ^ i * r) (sym c.bent_reached.ensures) in
    subst (Narrowed 1 mean (found + 128 / 2 ^ i * c.bent_reached.result)) (sym half.2)
    (subst (λ k. Narrowed 1 mean k (2 ^ (7 - i))) place next)

pub returns : goal.returns
returns c =
    let found = c.loop-round.symbol in
    let mean = to_z w16 (of_z w16 c.args.mean) in
    let none_left : 8 - c.loop-round.round ≡ 0 = omega (arith, c.loop-round-test.false) in
    let narrow : Narrowed 1 mean found 1
    = subst (λ k. Narrowed 1 mean found (2 ^ k)) none_left c.loop-round.invariant in
    sym (ap (symbol_of Bent 1) (sym (to_z-of_z w16 c.args.mean c.ranges.mean)) ∙ narrowed_is 1 mean found narrow)
