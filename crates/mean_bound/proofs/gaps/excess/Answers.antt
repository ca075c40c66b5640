-- The greater less the second is the excess.
use Rattle.std.proofs.Common.{ℕ, ◌<◌, List}
use Rattle.std.specs.Simd.Lanes.{Each1}
use Rattle.std.proofs.lemmas.Simd.{Each1-weaker}
use mir.Syntax.{w16}
use mir.Val.{Fits}
use Rattle.mean_bound.proofs.Lanes.{excess_are}
use Rattle.mean_bound.proofs.gaps.excess.Goals as goal

-- lanes of 16 bits are below 65536
lanes_fit : (xs : List ℕ) → Each1 (Fits w16) xs → Each1 (λ n. n < 65536) xs
lanes_fit xs fit = Each1-weaker (Fits w16) (λ n. n < 65536) (λ n is. is.fits) xs fit

pub returns : goal.returns
returns c =
    excess_are c.args.a c.args.b (lanes_fit c.args.a c.fits-a.1) (lanes_fit c.args.b c.fits-b.1)
