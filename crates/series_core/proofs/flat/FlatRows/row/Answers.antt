use Rattle.std.proofs.Common.{◌<◌, ◌≡◌, ◌*◌, ◌+◌, ◌-◌, ◌≤◌, arith, ap, ◌∙◌, length}
use Rattle.series_core.proofs.RowsOf.{slice_get-rows_of, row_end, row_below}
use Rattle.series_core.proofs.flat.FlatRows.row.Goals as goal

pub slice_bounds-result-end : goal.slice_bounds-result-end
slice_bounds-result-end c =
    let below : c.args.i < c.self.inside.count = row_below _ _ _ _ _ c.self.view_is c.requires in
    let whole = row_end c.self.inside.length c.self.inside.count c.args.i below in
    let size : length c.as_slice-values.result.now ≡ c.self.inside.count * c.self.inside.length =
    ap length c.as_slice-values.ensures.value ∙ c.self.invariant.size in
    let end : c.args.i * c.self.inside.length + c.self.inside.length ≤ length c.as_slice-values.result.now =
    omega arith in
    end

pub returns : goal.returns
returns c =
    let below : c.args.i < c.self.inside.count = row_below _ _ _ _ _ c.self.view_is c.requires in
    let n = c.self.inside.length in
    let i = c.args.i in
    let some : i * n + n - i * n ≡ n = omega arith in
    rw (← c.self.view_is, some, c.as_slice-values.ensures.value)
    (slice_get-rows_of n c.self.inside.count i c.self.inside.values.items below)
