-- No count wraps.
use Rattle.std.proofs.Common.{ap, ◌∙◌, ◌+◌, ◌≤◌, subst, sym}
use Rattle.std.specs.Simd.Lanes.{zip2, Each1}
use Rattle.subtree_build.proofs.BitLanes.{bits_few, sums_are}
use Rattle.subtree_build.proofs.next_bits.bits_added.Goals as goal

pub returns : goal.returns
returns c =
    let bits = c.bits_of.result in
    let few = subst (Each1 (λ b. b ≤ 1)) (sym c.bits_of.ensures) (bits_few c.args.symbols.now c.args.places.now) in
    sums_are c.args.counts bits c.requires.room few
    ∙ ap (λ bs. zip2 (λ n b. n + b) c.args.counts bs) c.bits_of.ensures
