-- What the mask leaves of the widened bits are the bits.
use Rattle.std.proofs.Common.{◌≡◌, length, map, ◌∙◌}
use Rattle.std.proofs.Math.ListN.{length-map}
use mir.Val.{of_z}
use mir.Syntax.{w16}
use Rattle.simd_distance.specs.Lanes.{bits_of}
use Rattle.simd_distance.proofs.Differences.{masked_are_plain, widened_are, with_sign}
use Rattle.simd_distance.proofs.lanes.widened.Goals as goal

pub overflow_cast-result-2 : goal.overflow_cast-result-2
overflow_cast-result-2 c = masked_are_plain (map with_sign (bits_of c.args.bits)) 16

pub returns : goal.returns
returns c =
    let long : length (bits_of c.args.bits) ≡ 16 = length-map c.args.bits (of_z w16) ∙
    c.requires.lanes in
    widened_are (bits_of c.args.bits) 16 long c.requires.small
