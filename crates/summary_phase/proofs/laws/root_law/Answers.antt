use Rattle.std.proofs.Common.{◌^◌}
use Rattle.summary_phase.proofs.Joined.{joined_root}
use Rattle.summary_phase.proofs.laws.root_law.Goals as goal

pub returns : goal.returns
returns g c =
    joined_root c.args.layout.now (g.R.Rows.collection c.args.rows.now) c.args.passes.now
    c.args.buffers.now (2 ^ c.args.layout.now.cuts.segments) c.args.root c.requires.root
    c.requires.drawn c.requires.some c.requires.ended c.requires.filled
