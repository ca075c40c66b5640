-- One stretch more was drawn and scanned.
use Rattle.std.proofs.Common.{[], ℕ, List, ap, sym, subst, ◌∙◌, length, arith}
use Rattle.claim_word.specs.Passes.{Pass}
use Rattle.best_word.specs.Passes.{Pass as Word}
use Rattle.series_core.specs.Best.{Best}
use Rattle.nearest_answer.specs.Team.{HasFound}
use Rattle.nearest_answer.proofs.Drawing.{found_enough, none_found}
use Rattle.search_task.specs.Questions.{last_of}
use Rattle.nearest_answer.proofs.team.draw_all.Given as given
use Rattle.nearest_answer.proofs.team.draw_all.Goals as goal
use Rattle.nearest_answer.proofs.team.draw_all.Goals.{After-scan_drawn}

pub loop-drawn-init : goal.loop-drawn-init
loop-drawn-init g c =
    let pass = c.requires.fresh.pass in
    let word = c.requires.fresh.word in
    let list = c.requires.fresh.list in
    let s = c.args.search.now in
    let count = c.args.claims.now.count in
    record {
      own = ap (λ (p : Pass). p.claims) pass;
      goes_on = ap (λ (p : Pass). p.ended) pass;
      met = omega (arith, ap (λ (p : Pass). p.met) pass);
      told = record { best = ap (λ (w : Word). w.best) word; floor_is = ap (λ (w : Word). w.floor) word };
      list = (ap (λ (b : Best). b.k) list, omega (arith, ap (λ (b : Best). length b.pairs) list));
      found = subst (λ (ns : List ℕ). HasFound s c.args.what count ns c.args.worker.now.list.pairs)
          (sym (ap (λ (p : Pass). p.draws) pass))
          (subst (HasFound s c.args.what count []) (sym (ap (λ (b : Best). b.pairs) list)) (none_found s c.args.what count));
    }

-- what is found with the stretch more
more : (g : given.Over) (c : After-scan_drawn g)
    → HasFound c.args.search.now c.args.what c.args.claims.now.count c.draw.new.pass.draws c.scan_drawn.new.list.pairs
more g c =
    let s = c.args.search.now in
    let count = c.args.claims.now.count in
    let draws = c.loop-drawn.worker.pass.draws in
    subst (λ (ns : List ℕ). HasFound s c.args.what count ns c.scan_drawn.new.list.pairs)
    (sym (ap (λ (p : Pass). p.draws) c.in-Some.ensures.drawn))
    (c.scan_drawn.ensures.found count draws c.requires.cut c.in-Some.ensures.number.0 c.in-Some.ensures.above
    c.loop-drawn.invariant.found)

pub scan_drawn-requires-clause-number : goal.scan_drawn-requires-clause-number
scan_drawn-requires-clause-number g c = (c.args.claims.now.count, c.requires.cut, c.in-Some.ensures.number.0)

pub scan_drawn-requires-clause-limit : goal.scan_drawn-requires-clause-limit
scan_drawn-requires-clause-limit g c =
    omega (arith, c.read-limit.ensures.range.0, c.loop-drawn.invariant.told.floor_is)

pub offer_last-requires-clause-last : goal.offer_last-requires-clause-last
offer_last-requires-clause-last g c =
    let enough = found_enough c.args.search.now c.k-k.ensures.searched c.args.what c.args.claims.now.count c.requires.cut
    c.draw.new.pass.draws c.scan_drawn.new.list c.scan_drawn.ensures.list.0
    (more g (goal.at.offer_last-requires-clause-last g c).After-scan_drawn) in
    let kept = ap (λ (w : Word). w.floor) c.read-limit.ensures.trace in
    omega (arith, enough, kept, c.loop-drawn.invariant.told.floor_is)

pub loop-drawn-preserved : goal.loop-drawn-preserved
loop-drawn-preserved g c =
    let was = c.loop-drawn.invariant in
    let drawn = c.in-Some.ensures.drawn in
    let met = ap (λ (p : Pass). p.met) drawn in
    record {
      own = ap (λ (p : Pass). p.claims) drawn ∙ was.own;
      goes_on = ap (λ (p : Pass). p.ended) drawn ∙ was.goes_on;
      met = omega (arith, met, c.in-Some.ensures.number.0);
      told = c.offer_last.ensures (last_of c.args.search.now.question) (record {
        best = ap (λ (w : Word). w.best) c.read-limit.ensures.trace ∙ was.told.best;
        floor_is = ap (λ (w : Word). w.floor) c.read-limit.ensures.trace ∙ was.told.floor_is;
      });
      list = c.scan_drawn.ensures.list;
      found = more g (goal.at.loop-drawn-preserved g c).After-scan_drawn;
    }
