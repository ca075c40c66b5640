-- As many items as the bytes hold whole stand in front of the cells.
use Rattle.std.proofs.Common.{◌++◌, ◌/◌, ◌*◌, ◌<◌, ◌≤◌, ◌∙◌, length, drop, ap, subst, sym, arith}
use Rattle.std.proofs.Math.Nat.{mul_comm}
use Rattle.series_file.proofs.ItemLemmas.{are_bytes, cells_front, cells_kept, decoded_front, whole_front}
use Rattle.series_file.proofs.items.append.Goals as goal

pub returns-clause-ok : goal.returns-clause-ok
returns-clause-ok g c =
    let size = c.SIZE-size.ensures in
    let stored = rw size at c.in_ok-extend_from_slice.ensures.items in
    let decoded = rw size at c.decode.ensures in
    let kept = rw size at c.decode.auto.into in
    stored ∙ ap (λ more. c.args.items.now.items ++ more)
    (decoded_front g.T.Item.at g.T.Item.SIZE g.met.T.Item.reads_front g.met.T.Item.sized.0
    c.args.bytes.now c.args.cells.now c.decode.new.into _ c.requires decoded kept)

pub nonzero_div-whole : goal.nonzero_div-whole
nonzero_div-whole g c = subst (λ n. 0 < n) (sym c.SIZE-size.ensures) g.met.T.Item.sized.0

pub slice_bounds-decode-end : goal.slice_bounds-decode-end
slice_bounds-decode-end g c = whole_front c.SIZE-size.result c.args.bytes.now

pub slice_bounds-decode-end-2 : goal.slice_bounds-decode-end-2
slice_bounds-decode-end-2 g c = subst (λ n. length c.args.bytes.now / n ≤ length c.args.cells.now) (sym c.SIZE-size.ensures) c.requires

pub slice_bounds-decode-end-3 : goal.slice_bounds-decode-end-3
slice_bounds-decode-end-3 g c =
    cells_front (length c.args.bytes.now / c.SIZE-size.result) c.args.cells.now
    (subst (λ n. length c.args.bytes.now / n ≤ length c.args.cells.now) (sym c.SIZE-size.ensures) c.requires)

pub decode-requires : goal.decode-requires
decode-requires g c =
    let whole = length c.args.bytes.now / c.SIZE-size.result in
    let room = subst (λ n. length c.args.bytes.now / n ≤ length c.args.cells.now) (sym c.SIZE-size.ensures) c.requires in
    sym (whole_front c.SIZE-size.result c.args.bytes.now)
    ∙ (mul_comm whole c.SIZE-size.result
    ∙ (ap (λ n. n * whole) c.SIZE-size.ensures ∙ ap (λ n. g.T.Item.SIZE * n) (cells_front whole c.args.cells.now room)))

pub slice_bounds-extend_from_slice-end : goal.slice_bounds-extend_from_slice-end
slice_bounds-extend_from_slice-end g c =
    let room = subst (λ n. length c.args.bytes.now / n ≤ length c.args.cells.now) (sym c.SIZE-size.ensures) c.requires in
    omega (arith, cells_kept (length c.args.bytes.now / c.SIZE-size.result) c.args.cells.now c.decode.new.into room c.decode.auto.into, room)

pub slice_bounds-extend_from_slice-end-2 : goal.slice_bounds-extend_from_slice-end-2
slice_bounds-extend_from_slice-end-2 g c =
    let whole = length c.args.bytes.now / c.SIZE-size.result in
    let room = subst (λ n. length c.args.bytes.now / n ≤ length c.args.cells.now) (sym c.SIZE-size.ensures) c.requires in
    cells_front whole (c.decode.new.into ++ drop whole c.args.cells.now)
    (omega (arith, cells_kept whole c.args.cells.now c.decode.new.into room c.decode.auto.into, room))

pub returns-in_err-extend_from_slice-clause-cells : goal.returns-in_err-extend_from_slice-clause-cells
returns-in_err-extend_from_slice-clause-cells g c =
    cells_kept (length c.args.bytes.now / c.SIZE-size.result) c.args.cells.now c.decode.new.into
    (subst (λ n. length c.args.bytes.now / n ≤ length c.args.cells.now) (sym c.SIZE-size.ensures) c.requires)
    c.decode.auto.into

pub returns-in_err-extend_from_slice-clause-each : goal.returns-in_err-extend_from_slice-clause-each
returns-in_err-extend_from_slice-clause-each g c = are_bytes c.args.bytes.now c.type_inv.bytes

pub returns-clause-cells : goal.returns-clause-cells
returns-clause-cells g c =
    cells_kept (length c.args.bytes.now / c.SIZE-size.result) c.args.cells.now c.decode.new.into
    (subst (λ n. length c.args.bytes.now / n ≤ length c.args.cells.now) (sym c.SIZE-size.ensures) c.requires)
    c.decode.auto.into

pub returns-clause-each : goal.returns-clause-each
returns-clause-each g c = are_bytes c.args.bytes.now c.type_inv.bytes
