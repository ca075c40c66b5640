-- With the means of its members, what was tested is an index for the rows, whose text is the bytes.
use Rattle.std.proofs.Common.{arith}
use Rattle.saved_index.proofs.Tested.{points_of, saves_for, series_of, index_for, text_for}
use Rattle.saved_index.proofs.loading.load_alone.Goals as goal

pub with_means_alone-requires-clause-length : goal.with_means_alone-requires-clause-length
with_means_alone-requires-clause-length g c = points_of _ _ c.type_inv.bytes _ c.in-Ok-tested.ensures.tested

pub with_means_alone-requires-clause-series : goal.with_means_alone-requires-clause-series
with_means_alone-requires-clause-series g c = series_of _ _ c.type_inv.bytes _ c.in-Ok-tested.ensures.tested

pub returns-clause-fits : goal.returns-clause-fits
returns-clause-fits g c = index_for _ _ c.type_inv.bytes _ c.in-Ok-tested.ensures.tested _ c.in_ok-index.ensures

pub returns-clause-text : goal.returns-clause-text
returns-clause-text g c = text_for _ _ c.type_inv.bytes _ c.in-Ok-tested.ensures.tested _ c.in_ok-index.ensures (omega (arith, c.if-bytes-gt-MOST_TEXT_BYTES.false))

pub returns-clause-saves : goal.returns-clause-saves
returns-clause-saves g c = saves_for _ _ c.type_inv.bytes _ c.in-Ok-tested.ensures.tested _ c.in_ok-index.ensures
