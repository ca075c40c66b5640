use Rattle.std.proofs.Common.{arith, refl, sym, ◌∙◌}
use Rattle.std.proofs.lemmas.Option.{slice_get_read}
use Rattle.query_core.proofs.TeamEnds.{first_scanner, no_scanner, none_more}
use Rattle.query_core.proofs.conclusion.first_to_scan.Goals as goal

pub has_scanned-requires : goal.has_scanned-requires
has_scanned-requires g c =
    c.requires.leaf c.loop-i.i c.index-workers-i.result
    (slice_get_read c.args.workers.now _ c.loop-i.i _ refl c.loop-i-test.true c.index-workers-i.is)

pub returns-then-has_scanned : goal.returns-then-has_scanned
returns-then-has_scanned g c = λ ms shown.
    sym (first_scanner c.args.workers.now ms shown c.args.leaf c.loop-i.i c.index-workers-i.result
    c.loop-i.invariant.none
    (slice_get_read c.args.workers.now _ c.loop-i.i _ refl c.loop-i-test.true c.index-workers-i.is)
    c.has_scanned.ensures.within (sym c.has_scanned.ensures.mark ∙ c.if-has_scanned.true))

pub loop-i-preserved : goal.loop-i-preserved
loop-i-preserved g c = record {
  few = c.loop-i.invariant.few;
  none = none_more c.args.workers.now c.args.leaf c.loop-i.i c.index-workers-i.result
      c.loop-i.invariant.none
      (slice_get_read c.args.workers.now _ c.loop-i.i _ refl c.loop-i-test.true c.index-workers-i.is)
      c.has_scanned.ensures.within (sym c.has_scanned.ensures.mark ∙ c.if-has_scanned.false);
}

pub returns : goal.returns
returns g c = λ ms shown.
    sym (no_scanner c.args.workers.now ms shown c.args.leaf c.loop-i.i c.loop-i.invariant.none (omega arith))
