-- From the values to their products, and to these two by two.
use Rattle.std.proofs.Common.{ap, ◌∙◌, arith, drop}
use Rattle.std.specs.Prelude.{FitsSigned}
use Rattle.std.specs.List.{All}
use Rattle.std.specs.Simd.Lanes.{chunk}
use Rattle.std.proofs.lemmas.List.{length-take-le, length-drop}
use Rattle.std.proofs.lemmas.List.Elements.{All-take, All-drop}
use mir.Syntax.{w16, w32}
use Rattle.row_codes.specs.Lanes.{wrapped, lane_total, code_dot}
use Rattle.row_codes.proofs.LaneSums.{handed_back, handed_fit, handed_long}
use Rattle.row_codes.proofs.lanes.part.Goals as goal

pub products-requires-clause-values : goal.products-requires-clause-values
products-requires-clause-values c =
    handed_long w16 (chunk c.args.at 16 c.args.query.now)
    ∙ length-take-le 16 (drop c.args.at c.args.query.now) (omega (arith, length-drop c.args.at c.args.query.now, c.requires.room))

pub products-requires-clause-fits : goal.products-requires-clause-fits
products-requires-clause-fits c =
    handed_fit (chunk c.args.at 16 c.args.query.now)
    (All-take (FitsSigned w16) 16 (drop c.args.at c.args.query.now) (All-drop (FitsSigned w16) c.args.at c.args.query.now c.requires.fits))

pub pairs-requires-clause-lanes : goal.pairs-requires-clause-lanes
pairs-requires-clause-lanes c = handed_long w32 c.products.result ∙ c.products.ensures.lanes

pub pairs-requires-clause-fits : goal.pairs-requires-clause-fits
pairs-requires-clause-fits c = handed_fit c.products.result c.products.ensures.fits

pub returns : goal.returns
returns c =
    let values = chunk c.args.at 16 c.args.query.now in
    let fit : All (FitsSigned w16) values
    = All-take (FitsSigned w16) 16 (drop c.args.at c.args.query.now) (All-drop (FitsSigned w16) c.args.at c.args.query.now c.requires.fits) in
    record {
      value = ap (λ l. wrapped (lane_total l)) (handed_back c.pairs.result c.pairs.ensures.fits)
          ∙ c.pairs.ensures.value
          ∙ ap (λ l. wrapped (lane_total l)) (handed_back c.products.result c.products.ensures.fits)
          ∙ c.products.ensures.value
          ∙ ap (λ l. wrapped (code_dot c.args.codes l)) (handed_back values fit);
      lanes = handed_long w32 c.pairs.result ∙ c.pairs.ensures.lanes;
      fits = handed_fit c.pairs.result c.pairs.ensures.fits;
    }
