-- What lies above the least sum, divided by the length, is the mean raised; lowered it takes 16 bits.
use Rattle.std.proofs.Common.{◌≡◌, ℕ, ◌*◌, ◌/◌, ◌<◌, ◌∙◌, pos, ◌+ℤ◌, arith, ap, to_z, of_z}
use Rattle.std.specs.Prelude.{◌-ℤ◌, unsigned_abs}
use Rattle.std.proofs.lemmas.Int.{ints}
use mir.Syntax.{w16, w32}
use Rattle.isax_word.proofs.Means.{raised_mean_small}
use Rattle.isax_word.proofs.symbol.mean_of.Goals as goal

-- what is lowered takes 16 bits
lowered : (q : ℕ) → q < 65536 → to_z w16 (of_z w16 (to_z w32 (of_z w32 (to_z w32 q -ℤ pos 32768)))) ≡ pos q -ℤ pos 32768
lowered q small = omega (arith, ints, small)

pub overflow_cast-result-3 : goal.overflow_cast-result-3
overflow_cast-result-3 c =
    let small = raised_mean_small c.above_least.result c.args.length c.requires.some_values c.above_least.ensures.bound in
    omega (arith, ints, small)

pub returns : goal.returns
returns c =
    let small = raised_mean_small c.above_least.result c.args.length c.requires.some_values c.above_least.ensures.bound in
    let above : c.above_least.result ≡ unsigned_abs (c.args.sum +ℤ pos (32768 * c.args.length))
    = omega (arith, ints, c.above_least.ensures.value) in
    lowered (c.above_least.result / c.args.length) small ∙ ap (λ n. pos (n / c.args.length) -ℤ pos 32768) above
