-- Each round halves the places that are left of each of the sixteen, and after eight of them one is left.
use Rattle.std.proofs.Common.{rules, ◌≡◌, ◌+◌, ◌-◌, ◌/◌, ◌^◌, ◌*◌, ◌<◌, cond, arith, sym, ap, subst, ◌∙◌, pos, get_or, set, ⊎_elim}
use Rattle.std.specs.Prelude.{FitsSigned}
use Rattle.std.specs.Int.{w16}
use Rattle.std.proofs.lemmas.Int.{to_z-of_z}
use Rattle.std.proofs.lemmas.List.{length-set}
use Rattle.std.proofs.lemmas.Nat.{pow_pos}
use Rattle.std.proofs.Math.Nat.{eq-or-lt_of_le}
use Rattle.breakpoints.specs.declared.table.Table.TheVariants.{Bent}
use Rattle.isax_word.specs.Symbol.{is_reached}
use Rattle.isax_word.proofs.Symbols.{narrowed_is, halves}
use Rattle.isax_word.proofs.SideBySide.{NarrowedAt, narrowed_at_next, narrowed_at_other}
use Rattle.isax_word.proofs.sixteen.bent_symbols.Goals as goal

pub bent_reached-requires-clause-last : goal.bent_reached-requires-clause-last
bent_reached-requires-clause-last c =
    let r = c.loop-round.round in
    let half = halves r c.loop-round-test.true in
    let is = c.loop-j.invariant.left c.loop-j.j (omega arith) c.loop-j-test.true in
    omega (arith, is.room, half.0, half.1, pow_pos (7 - r))

pub loop-j-preserved : goal.loop-j-preserved
loop-j-preserved c =
    let r = c.loop-round.round in
    let half = halves r c.loop-round-test.true in
    let means = c.args.means.now in
    let found = c.loop-j.symbols in
    let j = c.loop-j.j in
    let long = c.loop-j.invariant.long in
    let fits : FitsSigned w16 (get_or means j (pos 0)) = search rules in
    let y = get_or found j 0 + 128 / 2 ^ r * c.bent_reached.result in
    let wide : NarrowedAt means found (2 * 2 ^ (7 - r)) j
    = subst (λ k. NarrowedAt means found k j) half.1 (c.loop-j.invariant.left j (omega arith) c.loop-j-test.true) in
    let value : y ≡ get_or found j 0
    + 2 ^ (7 - r) * cond (is_reached Bent 1 (get_or means j (pos 0)) (get_or found j 0 + 2 ^ (7 - r))) 1 0
    = ap (λ b. get_or found j 0 + 128 / 2 ^ r * b)
    (c.bent_reached.ensures
    ∙ ap (λ s. cond (is_reached Bent 1 s (get_or found j 0 + 128 / 2 ^ r)) 1 0)
    (to_z-of_z w16 (get_or means j (pos 0)) fits))
    ∙ ap (λ step. get_or found j 0
    + step * cond (is_reached Bent 1 (get_or means j (pos 0)) (get_or found j 0 + step)) 1 0)
    half.0 in
    let next = narrowed_at_next means found (2 ^ (7 - r)) j y (omega (arith, long)) (pow_pos (7 - r)) wide value in
    record {
      long = length-set found j y ∙ long;
      done = λ i low. ⊎_elim
          (λ (same : i ≡ j). subst (NarrowedAt means (set found j y) (2 ^ (7 - r))) (sym same) next)
          (λ (other : i < j). narrowed_at_other means found (2 ^ (7 - r)) i j y (omega (arith, other))
          (c.loop-j.invariant.done i other))
          (eq-or-lt_of_le (omega (arith, low)));
      left = λ i from low.
          narrowed_at_other means found (2 ^ (8 - r)) i j y (omega (arith, from))
          (c.loop-j.invariant.left i (omega (arith, from)) low);
    }

pub loop-round-preserved : goal.loop-round-preserved
loop-round-preserved c =
    let means = c.args.means.now in
    let half = halves c.loop-round.round c.loop-round-test.true in
    record {
      long = c.loop-j.invariant.long;
      each = λ i low. subst (λ k. NarrowedAt means c.loop-j.symbols k i) (sym half.2)
          (c.loop-j.invariant.done i (omega (arith, low, c.loop-j-test.false)));
    }

pub returns : goal.returns
returns c =
    let means = c.args.means.now in
    let found = c.loop-round.symbols in
    let none_left : 8 - c.loop-round.round ≡ 0 = omega (arith, c.loop-round-test.false) in
    λ j low.
    let narrow : NarrowedAt means found 1 j
    = subst (λ k. NarrowedAt means found (2 ^ k) j) none_left (c.loop-round.invariant.each j low) in
    sym (narrowed_is 1 (get_or means j (pos 0)) (get_or found j 0) narrow)
