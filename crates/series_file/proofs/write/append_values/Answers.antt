use Rattle.std.proofs.Common.{◌++◌, ◌∙◌, ap}
use Rattle.std.specs.List.{flat_map}
use Rattle.series_file.specs.Format.{value_bytes}
use Rattle.series_file.proofs.Writing.{values_next}
use Rattle.series_file.proofs.write.append_values.Goals as goal

pub loop-i-preserved : goal.loop-i-preserved
loop-i-preserved g c =
    c.in_ok-append_row.ensures
    ∙ ap (λ xs. xs ++ flat_map value_bytes c.row.result.now) c.loop-i.invariant
    ∙ values_next c.loop-i.i
    (g.R.Rows.collection c.args.rows.now).series c.row.result.now c.args.bytes.now.items c.row.ensures
