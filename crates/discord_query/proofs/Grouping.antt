-- The series of a group stand in a row (`of_group`, `in_group`), and groups of which there are enough have all (`all_cut`).
use Rattle.std.proofs.Common.{◌≡◌, ℕ, ◌+◌, ◌*◌, ◌/◌, ◌<◌, ◌≤◌, ap, arith}
use Rattle.std.proofs.Math.Nat.{div-lt_iff_lt-mul, le-div_iff_mul-le, div-mul-le_self, lt-div-mul-add, mul-le-mul_right}
use Rattle.discord_query.specs.Groups.{group_of, IsCut}

-- what stands from the first of a group up to but not including the first of the next is of the group
pub of_group : (size g s : ℕ) → 1 ≤ size → g * size ≤ s → s < g * size + size → group_of size s ≡ g
of_group size g s some low high =
    let next : (g + 1) * size ≡ g * size + size = grind arith in
    let least : g ≤ s / size = (le-div_iff_mul-le {k = size} {x = g} {y = s} (omega (arith, some))).1 low in
    let most : s / size < g + 1
    = (div-lt_iff_lt-mul {k = size} {x = s} {y = g + 1} (omega (arith, some))).1 (omega (arith, next, high)) in
    omega (arith, least, most)

-- and all of the group stands there
pub in_group : (size g s : ℕ) → 1 ≤ size → group_of size s ≡ g → (g * size ≤ s) × (s < g * size + size)
in_group size g s some is =
    let first = ap (λ (n : ℕ). n * size) is in
    let low = div-mul-le_self s size in
    let high = lt-div-mul-add {a = s} {b = size} (omega (arith, some)) in
    (omega (arith, first, low), omega (arith, first, high))

-- the series of the groups before one stand before it
pub before_group : (size g h s : ℕ) → 1 ≤ size → group_of size s < g → g ≤ h → s < h * size
before_group size g h s some low most =
    let high = (div-lt_iff_lt-mul {k = size} {x = s} {y = g} (omega (arith, some))).0 low in
    let more = mul-le-mul_right {m = g} {n = h} size most in
    omega (arith, high, more)

-- groups that have room for all series, but not without the last group, are those that have all
pub all_cut : (size count groups : ℕ) → 1 ≤ size → count ≤ groups * size → groups * size < count + size
    → IsCut size count groups
all_cut size count groups some room tight = record {
  whole = λ s low. (div-lt_iff_lt-mul {k = size} {x = s} {y = groups} (omega (arith, some))).1 (omega (arith, low, room));
  real = λ g low.
      let more = mul-le-mul_right {m = g + 1} {n = groups} size (omega (arith, low)) in
      let next : (g + 1) * size ≡ g * size + size = grind arith in
      omega (arith, more, next, tight);
}
