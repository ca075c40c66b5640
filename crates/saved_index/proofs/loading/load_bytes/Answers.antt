-- As it is, or with the means of its members, what was tested is an index for the rows, whose text is the bytes.
use Rattle.std.proofs.Common.{Bool, subst, sym}
use Rattle.saved_index.specs.Loading.{IsLoadedFor}
use Rattle.saved_index.proofs.Tested.{alone_for, alone_text_for, index_for, points_of, series_of, text_for}
use Rattle.saved_index.proofs.loading.load_bytes.Goals as goal

pub with_means-requires-clause-length : goal.with_means-requires-clause-length
with_means-requires-clause-length g c κs within = points_of _ _ c.type_inv.bytes _ c.in-Ok-tested.ensures.tested

pub with_means-requires-clause-series : goal.with_means-requires-clause-series
with_means-requires-clause-series g c κs within = series_of _ _ c.type_inv.bytes _ c.in-Ok-tested.ensures.tested

pub returns-then-tables-clause-fits : goal.returns-then-tables-clause-fits
returns-then-tables-clause-fits g c =
    subst (λ (b : Bool). IsLoadedFor b (g.R.Rows.collection c.args.rows.now)
    (record { settings = c.in-Ok-tested.loaded.settings; index = c.in_ok-index.index })) (sym c.if-tables.true)
    (index_for _ _ c.type_inv.bytes _ c.in-Ok-tested.ensures.tested _ c.in_ok-index.ensures)

pub returns-then-tables-clause-text : goal.returns-then-tables-clause-text
returns-then-tables-clause-text g c =
    text_for _ _ c.type_inv.bytes _ c.in-Ok-tested.ensures.tested _ c.in_ok-index.ensures c.requires.short

pub returns-clause-fits : goal.returns-clause-fits
returns-clause-fits g c =
    subst (λ (b : Bool). IsLoadedFor b (g.R.Rows.collection c.args.rows.now) c.in-Ok-tested.loaded) (sym c.if-tables.false)
    (alone_for _ _ c.type_inv.bytes _ c.in-Ok-tested.ensures.tested)

pub returns-clause-text : goal.returns-clause-text
returns-clause-text g c = alone_text_for _ _ c.type_inv.bytes _ c.in-Ok-tested.ensures.tested c.requires.short
