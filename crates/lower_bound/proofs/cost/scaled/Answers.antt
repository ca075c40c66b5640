-- The breakpoint times the length is what was computed, and takes 32 bits.
use Rattle.std.proofs.Common.{◌≡◌, ◌∙◌, ℕ, ◌≤◌, arith, ap, sym, subst, to_z, of_z, ℤ, pos, neg_ℤ, ◌*ℤ◌, ◌≤ℤ◌}
use Rattle.std.specs.Prelude.{FitsSigned, unsigned_abs}
use Rattle.std.proofs.lemmas.Int.{ints, fits_signed_from_abs, fits_signed_mul, to_z-of_z, to_z_pos}
use mir.Syntax.{w32}
use Rattle.lower_bound.proofs.cost.scaled.Goals as goal

-- a breakpoint times the length of a segment takes 32 bits
scaled_kept : (n : ℕ) (b a : ℤ) → n ≤ 65536 → a ≡ b → neg_ℤ (pos 32512) ≤ℤ a → a ≤ℤ pos 32512
    → FitsSigned w32 (to_z w32 n *ℤ to_z w32 (of_z w32 a))
    × (to_z w32 (of_z w32 (to_z w32 n *ℤ to_z w32 (of_z w32 a))) ≡ pos n *ℤ b)
scaled_kept n b a few is low high =
    let small : unsigned_abs b ≤ 32512 = omega (arith, ints, is, low, high) in
    let own_n : to_z w32 n ≡ pos n = to_z_pos w32 n (omega (arith, few)) in
    let own_b : to_z w32 (of_z w32 a) ≡ b
    = ap (λ z. to_z w32 (of_z w32 z)) is ∙ to_z-of_z w32 b (fits_signed_from_abs w32 b (omega (arith, small))) in
    let both : to_z w32 n *ℤ to_z w32 (of_z w32 a) ≡ pos n *ℤ b = λ i. own_n i *ℤ own_b i in
    let whole : FitsSigned w32 (pos n *ℤ b) = fits_signed_mul w32 (pos n) b 65536 32512 few small (omega arith) in
    (subst (FitsSigned w32) (sym both) whole, ap (λ z. to_z w32 (of_z w32 z)) both ∙ to_z-of_z w32 (pos n *ℤ b) whole)

pub overflow_mul-result : goal.overflow_mul-result
overflow_mul-result c =
    (scaled_kept c.args.length _ c.at.result c.requires.few_values c.at.ensures.value c.at.ensures.not_low c.at.ensures.not_high).0

pub returns : goal.returns
returns c =
    (scaled_kept c.args.length _ c.at.result c.requires.few_values c.at.ensures.value c.at.ensures.not_low c.at.ensures.not_high).1
