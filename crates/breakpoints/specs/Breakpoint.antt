-- The breakpoints of the two tables, by formula: the rule is that they strictly ascend.
use Rattle.std.specs.Prelude.{ℕ, ℤ, pos, ◌+ℤ◌, ◌-ℤ◌, ◌*ℤ◌, unsigned_abs}
use Rattle.breakpoints.specs.declared.table.Table.{Table}
use Rattle.breakpoints.specs.declared.table.Table.TheVariants.{Flat, Bent}

-- how far place i lies from the middle place, 128
abbrev pub from_middle : ℕ → ℤ
from_middle i = pos i -ℤ pos 128

-- the breakpoint at place i, from 1 to 255: with d the distance from the middle place,
-- it is 256 times d in Flat, and d times (64 + |d|) in Bent
abbrev pub breakpoint : Table → ℕ → ℤ
breakpoint Flat i = pos 256 *ℤ from_middle i
breakpoint Bent i = from_middle i *ℤ (pos 64 +ℤ pos (unsigned_abs (from_middle i)))
