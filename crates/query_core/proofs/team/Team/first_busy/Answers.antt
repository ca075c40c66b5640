use Rattle.std.proofs.Common.{List, Some, ap, arith, length, refl, subst, sym, ◌∙◌, ◌≡◌}
use Rattle.std.proofs.lemmas.Bool.{false≢true}
use Rattle.std.proofs.lemmas.Option.{slice_get_read, slice_get_within}
use Rattle.std.specs.Prelude.{slice_get}
use Rattle.query_core.specs.Teams.{TeamParts, AreDone, IsFirstBusy}
use Rattle.query_core.specs.Working.{Working}
use Rattle.query_core.proofs.TeamOpening.{done_more}
use Rattle.query_core.proofs.team.Team.first_busy.Goals as goal

pub loop-i-init : goal.loop-i-init
loop-i-init g c = record {
  few = let few = c.self.invariant.few_workers in
      let e = ap (λ (ws : List Working). length ws) c.deref-worker-items.ensures.value in omega arith;
  done = λ i w low e. absurd (omega arith);
}

pub returns-then-not-is_done : goal.returns-then-not-is_done
returns-then-not-is_done g c =
    let at : slice_get c.deref-worker-items.result.now c.loop-i.i ≡ Some c.worker-item.result =
    slice_get_read c.deref-worker-items.result.now _ c.loop-i.i _ refl (omega arith) c.worker-item.is in
    subst (λ (t : TeamParts). IsFirstBusy t.workers c.loop-i.i) c.self.view_is
    (subst (λ (ws : List Working). IsFirstBusy ws c.loop-i.i) c.deref-worker-items.ensures.value (record {
      worker = c.worker-item.result;
      there = at;
      busy = λ e. absurd (false≢true (sym c.if-not-is_done.true ∙ c.is_done.ensures.1 e));
      first = c.loop-i.invariant.done;
    }))

pub loop-i-preserved : goal.loop-i-preserved
loop-i-preserved g c =
    let at : slice_get c.deref-worker-items.result.now c.loop-i.i ≡ Some c.worker-item.result =
    slice_get_read c.deref-worker-items.result.now _ c.loop-i.i _ refl (omega arith) c.worker-item.is in
    record {
      few = c.loop-i.invariant.few;
      done = done_more c.deref-worker-items.result.now c.loop-i.i c.worker-item.result c.loop-i.invariant.done at
          (c.is_done.ensures.0 c.if-not-is_done.false);
    }

pub returns : goal.returns
returns g c =
    subst (λ (t : TeamParts). AreDone t.workers) c.self.view_is
    (subst AreDone c.deref-worker-items.ensures.value
    (λ i w e. let low = slice_get_within c.deref-worker-items.result.now i w e in
    c.loop-i.invariant.done i w (omega arith) e))
