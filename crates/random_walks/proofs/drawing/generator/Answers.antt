use Rattle.std.proofs.Common.{◌∙◌, ap}
use Rattle.std.specs.Int.{w64, from_le_bytes}
use Rattle.std.proofs.lemmas.Nat.{from_le_bytes-to_le_bytes_8}
use Rattle.random_walks.proofs.drawing.generator.Goals as goal

pub returns : goal.returns
returns c =
    c.from_seed.ensures ∙ ap (from_le_bytes w64) c.to_le_bytes.ensures ∙ from_le_bytes-to_le_bytes_8 c.args.seed c.ranges.seed.fits
