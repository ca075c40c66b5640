-- One symbol more is read.
use Rattle.std.proofs.Common.{◌≡◌, ◌*◌, ◌+◌, ◌-◌, ◌^◌, ◌<◌, arith, ap, sym, ◌∙◌, subst, get_or, drop, length}
use Rattle.std.proofs.lemmas.Option.{get_or_from_slice_get}
use Rattle.isax_word.specs.FullWord.{first_bit, root_number}
use Rattle.isax_word.proofs.Roots.{root_next, first_bit-lt, pow_doubles}
use Rattle.isax_word.proofs.full.root_of.Goals as goal

pub loop-j-preserved : goal.loop-j-preserved
loop-j-preserved c =
    let full = c.args.full.now in
    let j = c.loop-j.j in
    let read : get_or full j 0 ≡ c.symbol.result
    = get_or_from_slice_get full j c.symbol.result 0 c.symbol.ensures in
    let bit : first_bit (get_or full j 0) ≡ c.from.result = ap first_bit read
    ∙ sym c.from.ensures in
    let next =
    root_next full c.loop-j.root j (root_number full)
    (omega (arith, c.segments-j-end.ensures.value))
    c.loop-j.invariant.whole in
    let small : c.from.result < 2
    = omega (arith, c.from.ensures, first_bit-lt c.symbol.result c.symbol.type_inv) in
    let twice : 2 ^ (j + 1) ≡ 2 * 2 ^ j = ap (λ k. 2 ^ k) (omega arith) ∙ pow_doubles j in
    record {
      whole =
          subst
          (λ b. (2 * c.loop-j.root + b) * 2 ^ (length full - (j + 1)) + root_number
          (drop (j + 1) full) ≡ root_number full)
          bit next;
      bits = omega (arith, c.loop-j.invariant.bits, twice, small);
    }
