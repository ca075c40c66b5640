use Rattle.std.proofs.Common.{◌≡◌, ◌≤◌, ◌-◌, ◌^◌, false, length}
use Rattle.summary_phase.specs.Members.{members_of}
use Rattle.summary_phase.specs.Chunks.{members_drawn}
use Rattle.summary_phase.specs.Roots.{by_root}
use Rattle.summary_phase.proofs.summary.summarise.Given as goal

abbrev pub invariant-loop-chunk : goal.invariant-loop-chunk
invariant-loop-chunk g l = record {
  own : l.pass.claims ≡ l.claims;
  goes_on : l.pass.ended ≡ false;
  turns : l.turn ≡ length l.pass.draws;
  few : length l.pass.draws ≤ l.pass.met;
  met : l.pass.met ≤ l.claims.count;
  members :
      l.buffers
      ≡ by_root (2 ^ l.layout.cuts.segments)
      (members_drawn (members_of l.layout (g.R.Rows.collection l.rows)) l.pass.draws);
}

-- each draw leaves fewer chunks undrawn
abbrev pub decreases-loop-chunk : goal.decreases-loop-chunk
decreases-loop-chunk g l = l.claims.count - l.pass.met
