-- The root children so far and those to come are all.
use Rattle.std.proofs.Common.{◌-◌, ◌≤◌, drop, length}
use Rattle.saved_index.specs.Reading.{roots_in}
use Rattle.saved_index.proofs.RootsRead.{AreRootsTold}
use Rattle.saved_index.proofs.roots.read_roots.Given as goal

abbrev pub invariant-loop-i : goal.invariant-loop-i
invariant-loop-i l = record {
  told : AreRootsTold (roots_in l.many 0 l.segments l.count (drop l.from l.bytes)) l.read.roots.items l.read.nodes.items
      l.read.lists (l.many - l._i) l.least l.segments l.count (drop l.read.at l.bytes);
  within : l.read.at ≤ length l.bytes;
  fewer : length l.read.lists ≤ l.read.at;
}
