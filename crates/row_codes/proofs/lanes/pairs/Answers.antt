-- Each lane is two neighbours added.
use Rattle.std.proofs.Common.{ap, ◌∙◌, refl}
use Rattle.std.specs.Prelude.{FitsSigned}
use Rattle.std.proofs.lemmas.List.Elements.{All-same}
use mir.Syntax.{w32}
use Rattle.row_codes.specs.Lanes.{wrapped, lane_total}
use Rattle.row_codes.proofs.LaneSums.{lanes, lanes_are, paired, paired_sum, paired_fit}
use Rattle.row_codes.proofs.lanes.pairs.Goals as goal

pub returns : goal.returns
returns c =
    let is = lanes_are c.args.all c.requires.lanes in
    record {
      value = ap (λ l. wrapped (lane_total l)) is ∙ paired_sum c.args.all c.requires.fits;
      lanes = refl;
      fits = All-same (FitsSigned w32) (lanes c.args.all) (paired c.args.all) is (paired_fit c.args.all c.requires.fits);
    }
