use Rattle.std.proofs.Common.{◌≡◌, ◌++◌, ◌/◌, ◌%◌, ◌+◌, ◌-◌, ◌≤◌, ◌<◌, ◌∙◌, ap, sym, length, length-take, length-drop, length-append, take, drop, arith, ℕ, min}
use Rattle.std.proofs.Math.Nat.{zero-mod}
use Rattle.series_file.proofs.Arriving.{Comes-piece, Comes-nothing, whole_sum, whole_less, whole_min}
use Rattle.std.proofs.lemmas.Result.{err_from_is_err_and}
use Rattle.outside.specs.Taken.{taken_then}
use Rattle.series_file.proofs.Leaving.{ok-not-err, Leaves-memory}
use Rattle.series_file.proofs.Stays.{stays, stays_then}
use Rattle.series_file.proofs.items.read_pieces.Goals as goal

pub returns-then-count-piece-clause-came : goal.returns-then-count-piece-clause-came
returns-then-count-piece-clause-came g c =
    let before = c.loop-bytes.invariant in
    let filled = c.in-Ok.ensures in
    let added = c.in_ok-append.ensures in
    let fits : c.in-Ok.count ≤ length c.fill.new.buffer =
    omega (arith, filled.amount.0, c.fill.auto.buffer) in
    let less : c.in-Ok.count < length (take c.piece_of-piece.result c.loop-bytes.buffer) =
    omega (arith, length-take {A = ℕ}, c.piece_of-piece.ensures, c.if-count-piece.true) in
    let limit : c.loop-bytes.bytes + c.in-Ok.count ≤ c.args.want =
    omega (arith, c.piece_of-piece.ensures, c.if-count-piece.true, before.limit) in
    Comes-piece g.T.Item.at g.T.Item.SIZE c.loop-bytes.bytes c.in-Ok.count c.args.want _ _ _
    c.loop-bytes.items.items _ c.fill.new.buffer _ g.met.T.Item.reads_front g.met.T.Item.sized.0
    before.came before.whole filled.taken added.each fits added.ok limit
    (λ _. filled.amount.1 less)

pub loop-bytes-preserved : goal.loop-bytes-preserved
loop-bytes-preserved g c =
    let before = c.loop-bytes.invariant in
    let filled = c.in-Ok.ensures in
    let added = c.in_ok-append.ensures in
    let still = filled.files.stays_open (ok-not-err _ _) in
    let fits : c.in-Ok.count ≤ length c.fill.new.buffer =
    omega (arith, filled.amount.0, c.fill.auto.buffer) in
    let count : c.in-Ok.count ≡ min (c.args.want - c.loop-bytes.bytes)
    (length c.loop-bytes.buffer) =
    omega (
      arith,
      length-take {A =
          ℕ},
      c.piece_of-piece.ensures,
      c.if-count-piece.false,
      filled.amount.0,
    ) in
    let limit : c.loop-bytes.bytes + c.in-Ok.count ≤ c.args.want =
    omega (arith, count, before.limit) in
    let whole_room : length c.loop-bytes.buffer % g.T.Item.SIZE ≡ 0 =
    ap (λ m. m % g.T.Item.SIZE) c.loop-bytes.auto.buffer ∙ c.requires.whole_room in
    let size : length (c.fill.new.buffer ++ drop c.piece_of-piece.result c.loop-bytes.buffer)
    ≡ length c.loop-bytes.buffer =
    omega (
      arith,
      length-append c.fill.new.buffer (drop c.piece_of-piece.result c.loop-bytes.buffer),
      c.fill.auto.buffer,
      length-take {A = ℕ},
      length-drop {A = ℕ},
    ) in
    record {
      came = Comes-piece g.T.Item.at g.T.Item.SIZE c.loop-bytes.bytes c.in-Ok.count
          (c.loop-bytes.bytes + c.in-Ok.count) _ _ _
          c.loop-bytes.items.items _ c.fill.new.buffer _ g.met.T.Item.reads_front g.met.T.Item.sized.0
          before.came before.whole filled.taken added.each fits added.ok (omega arith)
          (λ h. absurd (omega arith));
      limit = limit;
      whole = whole_sum g.T.Item.SIZE c.loop-bytes.bytes c.in-Ok.count before.whole
          (rw count (whole_min g.T.Item.SIZE (c.args.want - c.loop-bytes.bytes)
          (length c.loop-bytes.buffer)
          (whole_less g.T.Item.SIZE c.loop-bytes.bytes c.args.want before.limit before.whole c.requires.whole_want) whole_room));
      room = added.cells ∙ before.room ∙ ap (λ m. m / g.T.Item.SIZE) (sym size);
      stays = stays_then _ _ _ before.stays (record {
        stays_open = still;
        kept = filled.files.kept;
        counts = filled.files.counts;
        sure = λ h. let r = filled.files.sure h in (r.1, r.2);
      });
    }

pub loop-bytes-init : goal.loop-bytes-init
loop-bytes-init g c = record {
  came = Comes-nothing g.T.Item.at g.T.Item.SIZE _ _ c.new-items.ensures.items;
  limit = omega arith;
  whole = zero-mod g.T.Item.SIZE;
  room = c.requires.as_many;
  stays = stays _;
}

-- Memory ran out after at most all that was wanted.
pub returns-in_err-append-clause-left : goal.returns-in_err-append-clause-left
returns-in_err-append-clause-left g c =
    let before = c.loop-bytes.invariant in
    let filled = c.in-Ok.ensures in
    let failed = err_from_is_err_and c.from_residual.result c.from_residual.ensures.1 in
    let fits : c.in-Ok.count ≤ length c.fill.new.buffer =
    omega (arith, filled.amount.0, c.fill.auto.buffer) in
    let limit : c.loop-bytes.bytes + c.in-Ok.count ≤ c.args.want =
    omega (arith, c.piece_of-piece.ensures, length-take {A = ℕ}, filled.amount.0, before.limit) in
    rw (failed.1, failed.2)
    (Leaves-memory c.args.want (before.came.0 ++ take c.in-Ok.count c.fill.new.buffer) _ _
    (taken_then before.came.0 (take c.in-Ok.count c.fill.new.buffer) _ _ _ before.came.1.taken filled.taken)
    (omega (
      arith,
      length-append before.came.0 (take c.in-Ok.count c.fill.new.buffer),
      length-take c.in-Ok.count c.fill.new.buffer,
      before.came.1.amount,
      limit,
    )))
