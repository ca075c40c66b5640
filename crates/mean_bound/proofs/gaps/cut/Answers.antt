-- What the comparison selects is the lesser, lane by lane.
use Rattle.std.proofs.Common.{◌∙◌, replicate}
use Rattle.std.specs.Prelude.{min}
use Rattle.std.proofs.lemmas.Simd.{zip2_splat}
use Rattle.mean_bound.proofs.Lanes.{lesser_are}
use Rattle.mean_bound.proofs.gaps.cut.Goals as goal

pub returns : goal.returns
returns c =
    lesser_are c.args.numbers (replicate 16 16383)
    ∙ zip2_splat min c.args.numbers 16 16383 c.requires
