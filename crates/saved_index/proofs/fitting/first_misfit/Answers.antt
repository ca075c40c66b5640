-- The marks before are of series that fit, and this one is not.
use Rattle.std.proofs.Common.{sym, arith}
use Rattle.std.specs.Prelude.{◌==◌, not, slice_index}
use Rattle.std.proofs.lemmas.Bool.{eq-eqb, ne_eqb, not_from_false, not_from_true}
use Rattle.subtree_build.proofs.Ranges.{find_in_range}
use Rattle.saved_index.proofs.NoFault.{find_none}
use Rattle.saved_index.proofs.fitting.first_misfit.Goals as goal

pub returns-then-marks-number-ne-FITS : goal.returns-then-marks-number-ne-FITS
returns-then-marks-number-ne-FITS c =
    let marks = c.args.marks.now in
    let n = c.loop-number.number in
    sym (find_in_range (λ i. not (slice_index marks i == 1)) 0 c.args.count n (omega arith) (omega arith)
    (not_from_false (slice_index marks n == 1) (ne_eqb (slice_index marks n) 1 c.if-marks-number-ne-FITS.true))
    (λ k from to. not_from_true (slice_index marks k == 1) (eq-eqb (slice_index marks k) 1 (c.loop-number.invariant k to))))

pub returns : goal.returns
returns c =
    let marks = c.args.marks.now in
    sym (find_none (λ i. not (slice_index marks i == 1)) 0 c.args.count
    (λ k from to. not_from_true (slice_index marks k == 1)
    (eq-eqb (slice_index marks k) 1 (c.loop-number.invariant k (omega arith)))))
