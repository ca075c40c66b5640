-- The header of the bytes keeps its limits.
use Rattle.std.proofs.Common.{arith, refl, sym, subst}
use Rattle.saved_index.specs.Saved.{IsHeader}
use Rattle.saved_index.proofs.SoundWhole.{header_sound}
use Rattle.saved_index.proofs.framing.layout_at.Goals as goal

pub settings-requires : goal.settings-requires
settings-requires g c =
    subst IsHeader (sym c.in_ok-fields.ensures.says)
    (header_sound c.args.bytes.now (λ k. omega (arith, c.type_inv.bytes k)) (c.in_ok-fields.ensures.some.0 refl)).kept
