-- The numbers so far, each put as that of a member behind the others, and those to come are all.
use Rattle.std.proofs.Common.{◌≡◌, ℕ, ◌+◌, ◌-◌, ◌*◌, ◌≤◌, ◌++◌, List, drop, length, map}
use Rattle.saved_index.specs.Membership.{number_of}
use Rattle.saved_index.specs.Reading.{numbers_in}
use Rattle.saved_index.proofs.NumbersRead.{AreTold}
use Rattle.saved_index.proofs.numbers.read_numbers.Given as goal

abbrev pub invariant-loop-i : goal.invariant-loop-i
invariant-loop-i l = record {
  numbers : List ℕ;
  told : AreTold (numbers_in l.many 0 l.count (drop l.from l.bytes)) numbers (l.many - l._i) l.least l.count (drop l.at l.bytes);
  long : length numbers ≡ l._i;
  put : map number_of l.members.items ≡ map number_of l.fn.members.items ++ numbers;
  within : l.at ≤ length l.bytes;
  at : l.at ≡ l.from + 4 * l._i;
  kept : length l.fn.members.items ≤ length l.members.items;
}
