-- The length of the limit is short, and the test on squares is that on bounds.
use Rattle.std.proofs.Common.{◌∙◌, ◌+◌, ◌*◌, ◌≤◌, ap, arith, nat_lt, leb}
use Rattle.std.proofs.lemmas.Nat.{mul-le}
use Rattle.row_codes.specs.Roots.{square}
use Rattle.row_codes.specs.Bound.{bound_at}
use Rattle.row_codes.proofs.RowLimits.{allowed, length_small}
use Rattle.row_codes.proofs.limit.CodeLimit.allows.Goals as goal
use Rattle.row_codes.proofs.limit.CodeLimit.allows.Goals.{After-from}

-- how long what is allowed is
short : (c : After-from) → c.self.inside.length + c.from.result + 1 ≤ 268435456
short c = omega (arith, c.self.invariant, length_small c.self.inside.limit, c.from.ensures, c.requires.rest)

pub overflow_add-above : goal.overflow_add-above
overflow_add-above c = record { fits = omega (arith, short c) }

pub overflow_add-above-2 : goal.overflow_add-above-2
overflow_add-above-2 c = record { fits = omega (arith, short c) }

pub overflow_mul-result-2 : goal.overflow_mul-result-2
overflow_mul-result-2 c =
    let above = c.self.inside.length + c.from.result + 1 in
    record { fits = omega (arith, mul-le above above 268435456 268435456 (short c) (short c)) }

pub returns : goal.returns
returns c =
    ap (λ n. nat_lt (4 * c.args.squared) (square (c.self.inside.length + n + 1))) c.from.ensures
    ∙ ap (λ n. nat_lt (4 * c.args.squared) (square (n + c.args.rest + 1))) c.self.invariant
    ∙ allowed c.args.squared c.args.rest c.self.inside.limit (omega (arith, c.requires.squared))
    ∙ ap (leb (bound_at c.args.squared c.args.rest)) c.self.view_is
