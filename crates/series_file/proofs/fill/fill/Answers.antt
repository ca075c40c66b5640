use Rattle.std.proofs.Common.{◌≤◌, ◌-◌, length, arith, ℕ, length-take, length-drop}
use borrow.Rule.Slice.PartMut.{same_len_mid}
use Rattle.outside.specs.Taken.{taken_then}
use Rattle.series_file.proofs.Pieces.{take-put_mid_front}
use Rattle.series_file.proofs.Stays.{stays_then}
use Rattle.series_file.proofs.fill.fill.Goals as goal

pub loop-done-preserved : goal.loop-done-preserved
loop-done-preserved g c =
    let before = c.loop-done.invariant in
    let read = c.in-Ok.ensures in
    let fits : c.in-Ok.count ≤ length c.read.new.buf =
    omega (arith, read.amount.0, c.read.auto.buf) in
    let size = same_len_mid c.loop-done.done
    (length c.loop-done.buffer - c.loop-done.done)
    c.loop-done.buffer c.read.new.buf c.read.auto.buf in
    let front =
    take-put_mid_front c.loop-done.done c.in-Ok.count c.loop-done.buffer c.read.new.buf before.within fits in
    record {
      within = omega (arith, read.amount.0, length-take {A = ℕ}, length-drop {A = ℕ}, size);
      taken = rw front (taken_then _ _ _ _ _ before.taken read.taken);
      stays = stays_then _ _ _ before.stays (record {
        stays_open = read.stays_open;
        kept = read.kept;
        counts = read.counts;
        sure = λ h. let r = read.reliable h in (r.1, r.2);
      });
    }
