-- One more place value stands behind those so far.
use Rattle.std.proofs.Common.{◌≡◌, ◌-◌, ◌*◌, ◌%◌, ◌^◌, ◌<◌, arith, ap, ◌∙◌, below_more}
use Rattle.std.proofs.lemmas.List.{length-set, get_or-set_same, get_or-set_other}
use Rattle.std.proofs.lemmas.Nat.{pow_below}
use Rattle.std.proofs.Math.Nat.{mod-eq_of_lt}
use Rattle.isax_word.specs.Word.{part_at}
use Rattle.subtree_build.proofs.next_bits.next_places.Goals as goal

pub loop-j-preserved : goal.loop-j-preserved
loop-j-preserved c =
    let word = c.args.word.now in
    let j = c.loop-j.j in
    let places = c.loop-j.places in
    let e = 7 - (part_at word j).bits in
    let y = 1 * 2 ^ c.saturating_sub.result % 256 in
    let shift : c.saturating_sub.result ≡ e = omega (arith, c.saturating_sub.ensures, c.bits.ensures.value) in
    let small : 2 ^ e < 2 ^ 8 = pow_below e 8 (omega arith) in
    let one : 1 * 2 ^ e ≡ 2 ^ e = omega arith in
    let value : y ≡ 2 ^ e
    = ap (λ k. 1 * 2 ^ k % 256) shift ∙ ap (λ n. n % 256) one ∙ mod-eq_of_lt small in
    record {
      long = length-set places j y ∙ c.loop-j.invariant.long;
      each = below_more _ _
          (λ k low. get_or-set_other places j k y 0 (omega (arith, low)) ∙ c.loop-j.invariant.each k low)
          (get_or-set_same places j y 0
          (omega (arith, c.loop-j.invariant.long, c.segments-j-end.ensures.value, c.segments-j-end.ensures.is_word.few_parts)) ∙ value);
    }

pub returns-clause-places : goal.returns-clause-places
returns-clause-places c = λ j low. c.loop-j.invariant.each j (omega (arith, low, c.segments-j-end.ensures.value))
