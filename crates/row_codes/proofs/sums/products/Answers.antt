-- Both products are short, and so is their sum.
use Rattle.std.proofs.Common.{◌≡◌, ◌∙◌, ◌+◌, ◌*◌, ◌/◌, ◌≤◌, arith, pos, subst, sym}
use Rattle.std.specs.Prelude.{◌+ℤ◌, ◌-ℤ◌, ◌*ℤ◌, unsigned_abs}
use Rattle.std.proofs.lemmas.Int.{ints, to_z-of_z}
use Rattle.std.proofs.lemmas.Nat.{mul-le}
use mir.Syntax.{w32}
use Rattle.row_codes.proofs.Totals.{sum_passed}
use Rattle.row_codes.proofs.sums.products.Goals as goal
use Rattle.row_codes.proofs.sums.products.Goals.{After-from-4}

-- what was multiplied, of the numbers themselves
first_is : (c : After-from-4) → (c.times.result ≡ pos c.args.step *ℤ c.args.dot) × (unsigned_abs c.times.result ≤ 515396075520)
first_is c =
    let dot = to_z-of_z w32 c.args.dot c.ranges.dot in
    let less = mul-le c.from-3.result (unsigned_abs c.args.dot) 4096 125829120 (omega (arith, c.from-3.ensures, c.requires.step)) c.requires.dot in
    let small = subst (λ z. unsigned_abs c.times.result ≤ c.from-3.result * unsigned_abs z) dot c.times.ensures.small in
    (c.times.ensures.value ∙ (λ i. pos (c.from-3.ensures i) *ℤ dot i), omega (arith, small, less))

second_is : (c : After-from-4)
    → (c.times-2.result ≡ pos (c.args.low + c.args.step / 2) *ℤ c.args.total) × (unsigned_abs c.times-2.result ≤ 566935683072)
second_is c =
    let total = to_z-of_z w32 c.args.total c.ranges.total in
    let n = c.from.result + c.from-2.result / 2 in
    let few : n ≤ 67584 = omega (arith, c.from.ensures, c.from-2.ensures, c.requires.step, c.ranges.low) in
    let less = mul-le n (unsigned_abs c.args.total) 67584 8388608 few c.requires.total in
    let small = subst (λ z. unsigned_abs c.times-2.result ≤ n * unsigned_abs z) total c.times-2.ensures.small in
    (c.times-2.ensures.value ∙ (λ i. pos (c.from.ensures i + c.from-2.ensures i / 2) *ℤ total i), omega (arith, small, less))

third_is : (c : After-from-4) → c.from-4.result ≡ c.args.total
third_is c = c.from-4.ensures ∙ to_z-of_z w32 c.args.total c.ranges.total

pub overflow_add-result : goal.overflow_add-result
overflow_add-result c = omega (arith, ints, (first_is c).1, (second_is c).1, third_is c, c.requires.total)

pub returns : goal.returns
returns c =
    let one = first_is c in
    let two = second_is c in
    let three = third_is c in
    let told = sum_passed c.times.result c.times-2.result c.from-4.result one.1 two.1 (subst (λ z. unsigned_abs z ≤ 8388608) (sym three) c.requires.total) in
    record {
      value = told.0 ∙ (λ i. one.0 i +ℤ (two.0 i -ℤ (pos 32768 *ℤ three i)));
      small = subst (λ z. unsigned_abs z ≤ 1400000000000) (sym told.0) told.1;
    }
