-- All lanes, from zero on.
use Rattle.std.proofs.Common.{ap, ◌∙◌, arith}
use Rattle.std.proofs.lemmas.Int.{ints}
use Rattle.row_codes.specs.Lanes.{wrapped}
use Rattle.row_codes.proofs.LaneSums.{folded_sum}
use Rattle.row_codes.proofs.lanes.lane_sum.Goals as goal

pub returns : goal.returns
returns c = folded_sum 0 c.args.all (omega arith) c.requires ∙ ap wrapped (omega (arith, ints))
