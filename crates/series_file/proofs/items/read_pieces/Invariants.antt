use Rattle.std.proofs.Common.{◌-◌, ◌/◌, ◌%◌, ◌≡◌, ◌≤◌, length}
use Rattle.series_file.specs.Items.{Comes}
use Rattle.series_file.proofs.Stays.{Stays}
use Rattle.series_file.proofs.items.read_pieces.Given as goal

abbrev pub invariant-loop-bytes : goal.invariant-loop-bytes
invariant-loop-bytes g l = record {
  came : Comes g.T.Item.at g.T.Item.SIZE l.bytes (g.F.Files.left l.initial.files)
      (g.F.Files.left l.files) l.items.items l.bytes;
  limit : l.bytes ≤ l.want;
  whole : l.bytes % g.T.Item.SIZE ≡ 0;
  room : length l.cells ≡ length l.buffer / g.T.Item.SIZE;
  stays : Stays g.F.Files.held g.F.Files.at g.F.Files.blamed g.F.Files.faults g.F.Files.misses g.F.Files.reliable
      l.initial.files l.files;
}

abbrev pub decreases-loop-bytes : goal.decreases-loop-bytes
decreases-loop-bytes g l = l.want - l.bytes
