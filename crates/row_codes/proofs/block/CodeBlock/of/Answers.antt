-- The codes are those of the values, and what they forget is not long.
use Rattle.std.proofs.Common.{◌≡◌, ◌∙◌, ◌+◌, ◌-◌, ◌*◌, ◌/◌, ◌≤◌, ◌<◌, ap, arith, length}
use Rattle.std.proofs.lemmas.List.Elements.{All-take}
use Rattle.row_codes.specs.Roots.{root_up}
use Rattle.row_codes.specs.Codes.{packed, pictured, step_of, value_squares}
use Rattle.row_codes.proofs.Blocks.{length-packed, own_are}
use Rattle.row_codes.proofs.RootLemmas.{root_up_small}
use Rattle.row_codes.proofs.block.CodeBlock.of.Goals as goal
use Rattle.row_codes.proofs.block.CodeBlock.of.Goals.{After-root_up_of}

-- how long what is forgotten is
short : (c : After-root_up_of) → c.root_up_of.result ≤ 33554432
short c =
    omega (
      arith,
      c.root_up_of.ensures,
      root_up_small (4 * (c.args.before + c.forgotten_of.result)) 33554432
          (omega (arith, c.requires.before, c.requires.few, c.forgotten_of.ensures.small)),
    )

pub overflow_cast-block : goal.overflow_cast-block
overflow_cast-block c = record { fits = omega (arith, short c) }

pub squares_of-requires-clause-small : goal.squares_of-requires-clause-small
squares_of-requires-clause-small c =
    All-take (λ n. n < 16) (length c.args.values.now) c.codes_of-codes.result c.codes_of-codes.ensures.small

pub invariant_of-block : goal.invariant_of-block
invariant_of-block c = (
  ap length c.packed.ensures ∙ length-packed c.codes_of-codes.result,
  c.step_of-step.ensures.limit,
  short c.before,
  c.squares_of.ensures.small,
)

pub returns-clause-block : goal.returns-clause-block
returns-clause-block c =
    let xs = c.args.values.now in
    let words = c.packed.ensures ∙ ap packed c.codes_of-codes.ensures.value in
    let low = c.least_of-low.ensures in
    let step : c.step_of-step.result ≡ step_of xs
    = c.step_of-step.ensures.value ∙ (λ i. (c.greatest_of.ensures i - low i) / 16 + 1) in
    let left = c.root_up_of.ensures ∙ ap (λ n. root_up (4 * (c.args.before + n))) c.forgotten_of.ensures.value in
    let own = own_are xs c.codes_of-codes.result c.codes_of-codes.ensures.value in
    let squares = c.squares_of.ensures.value ∙ (λ i. value_squares (pictured (low i) (step i) (own i))) in
    λ i. record { words = words i; step = step i; low = low i; rest = left i; squares = squares i }
