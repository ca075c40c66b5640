-- The product with the reciprocal gives the quotient.
use Rattle.std.proofs.Common.{◌≡◌, ◌∙◌, ◌*◌, ◌/◌, ◌<◌, ap, arith, subst, sym}
use Rattle.row_codes.proofs.Coded.{by_reciprocal}
use Rattle.row_codes.proofs.coding.code_of.Goals as goal
use Rattle.row_codes.proofs.coding.code_of.Goals.{After-from}

-- of the number that was made
told : (c : After-from)
    → (c.from.result * c.args.reciprocal / 268435456 ≡ c.from.result / c.args.step) × (c.from.result * c.args.reciprocal < 4294967296)
    × (c.from.result / c.args.step < 16)
told c =
    by_reciprocal c.from.result c.args.step c.args.reciprocal c.requires.step
    (subst (λ n. n < 16 * c.args.step) (sym c.from.ensures) c.requires.near) c.requires.reciprocal

pub overflow_mul-result : goal.overflow_mul-result
overflow_mul-result c = record { fits = (told c).1 }

pub returns-clause-value : goal.returns-clause-value
returns-clause-value c = (told c).0 ∙ ap (λ n. n / c.args.step) c.from.ensures

pub returns-clause-small : goal.returns-clause-small
returns-clause-small c = omega (arith, (told c).0, (told c).2)
