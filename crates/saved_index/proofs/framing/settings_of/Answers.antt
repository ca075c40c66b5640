-- What was read keeps the limits of a header.
use Rattle.saved_index.proofs.Loaded.{limits}
use Rattle.saved_index.proofs.framing.settings_of.Goals as goal

pub settings-requires : goal.settings-requires
settings-requires g c =
    limits (g.R.Rows.collection c.args.rows.now) c.args.bytes.now c.args.read.now c.type_inv.bytes c.requires
