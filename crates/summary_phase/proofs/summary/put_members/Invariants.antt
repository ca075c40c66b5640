use Rattle.std.proofs.Common.{◌≡◌, ◌^◌, length}
use Rattle.summary_phase.specs.Roots.{HasPut}
use Rattle.summary_phase.proofs.summary.put_members.Given as goal

abbrev pub invariant-loop-number : goal.invariant-loop-number
invariant-loop-number g l = record {
  roots : length l.buffers ≡ 2 ^ l.layout.cuts.segments;
  found :
      HasPut l.layout (g.R.Rows.collection l.rows) l.fn.numbers.start l.number l.fn.buffers
      l.buffers;
}
