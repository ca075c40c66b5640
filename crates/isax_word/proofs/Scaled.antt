-- Breakpoints times a length: they ascend as the breakpoints do (`scaled_rises`), and, raised, as multiples of the length (`scaled_raised`).
use Rattle.std.proofs.Common.{◌≡◌, ℕ, ◌+◌, ◌*◌, ◌≤◌, arith, ap, ℤ, pos, ◌+ℤ◌, ◌*ℤ◌, ◌≤ℤ◌}
use Rattle.std.proofs.Math.Nat.{mul-le-mul_left}
use Rattle.std.proofs.lemmas.Int.{ints}
use borrow.Author.Differences.{up, down, product_is}

-- multiples keep an order
pub scaled_rises : (l : ℕ) (a b : ℤ) → a ≤ℤ b → (pos l *ℤ a) ≤ℤ (pos l *ℤ b)
scaled_rises l a b below =
    let parts : up a + down b ≤ up b + down a = omega (arith, ints) in
    omega (arith, ints, mul-le-mul_left l parts)

-- a multiple of a number, raised by as many times 32768, is as many times the number raised
pub scaled_raised : (l n : ℕ) (b : ℤ) → pos n ≡ b +ℤ pos 32768 → pos l *ℤ b +ℤ pos (32768 * l) ≡ pos (l * n)
scaled_raised l n b is =
    let whole : up b + 32768 ≡ down b + n = omega (arith, ints, is) in
    let scaled : l * (up b + 32768) ≡ l * (down b + n) = ap (λ k. l * k) whole in
    omega (arith, ints, product_is (pos l) b, scaled)
