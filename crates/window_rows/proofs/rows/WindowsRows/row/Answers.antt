use Rattle.std.proofs.Common.{◌≡◌, ◌*◌, ◌+◌, ◌-◌, arith, length}
use Rattle.window_rows.proofs.Places.{entry_fits, place_counted, place_grows, window_at}
use Rattle.window_rows.proofs.rows.WindowsRows.row.Goals as goal

pub offset_bounds-self-inside-start : goal.offset_bounds-self-inside-start
offset_bounds-self-inside-start c =
    let fits = entry_fits _ _ c.self.inside.step c.args.i _ c.self.view_is
    c.self.invariant.some_step c.requires in
    omega (arith, fits, c.self.invariant.values_limit)

pub slice_bounds-result-end : goal.slice_bounds-result-end
slice_bounds-result-end c =
    let fits = entry_fits _ _ c.self.inside.step c.args.i _ c.self.view_is c.self.invariant.some_step c.requires in
    omega (arith, fits, place_grows c.args.i c.self.inside.step c.self.invariant.some_step)

pub returns : goal.returns
returns c =
    let n = c.self.inside.length in
    let step = c.self.inside.step in
    let fits = entry_fits _ _ step c.args.i _ c.self.view_is c.self.invariant.some_step c.requires
    in
    let some : c.args.i * step + n - c.args.i * step ≡ n = omega arith in
    rw (← c.self.view_is, some)
    (window_at c.self.inside.values.now n step c.args.i
    (place_counted (length c.self.inside.values.now) n step c.args.i c.self.invariant.some_step
    fits))
