use Rattle.std.proofs.Common.{rules, ◌≡◌, inl, refl, arith, get_or, subst, ap, ◌∙◌}
use Rattle.std.proofs.lemmas.Result.{err_from_is_err_and}
use Rattle.live_script.specs.declared.script.Asking.{Asking}
use Rattle.live_run.specs.Groups.{HoldsAsking}
use Rattle.live_run.specs.Loads.{HoldsFile, RefusesFitting}
use Rattle.std.specs.Prelude.{Some}
use Rattle.run_traffic.specs.Traffic.{read_from}
use Rattle.live_run.specs.declared.status.LiveStatus.TheVariants.{Memory}
use Rattle.live_run.proofs.Askings.{asking_at, askings_more, askings_refused, can_more}
use Rattle.live_run.proofs.Loading.{ends_later}
use Rattle.live_run.proofs.group.load_askings.Goals as goal

pub returns-in_err-queries-clause-refused : goal.returns-in_err-queries-clause-refused
returns-in_err-queries-clause-refused g c whole ends =
    let inv = c.loop-asking.invariant in
    let a = c.asking-item.result in
    let i = c.loop-asking.asking-index in
    let same : a ≡ get_or c.args.askings.now i a = search (rules, c.asking-item.is) in
    let part = read_from g.F.Files c.args.files.now c.load_fitting.new.files in
    let later = ends_later whole part (g.F.Files.held c.loop-asking.files) (g.F.Files.faults c.loop-asking.files)
    (g.F.Files.misses c.loop-asking.files) ends inv.kept inv.faults inv.misses in
    let status = c.in_err-queries.field-0.0 in
    let told = err_from_is_err_and c.from_residual.result c.from_residual.ensures.1 in
    rw (told.1, told.2) (askings_refused whole part c.args.points c.args.askings.now i a c.loop-asking.loaded.items
    status c.loop-asking-test.true ends inv.passed
    (subst (λ (x : Asking). RefusesFitting whole (Some c.args.points) x.queries status) same (c.in_err-queries.ensures.refused whole later)))

pub returns-in_err-put-clause-refused : goal.returns-in_err-put-clause-refused
returns-in_err-put-clause-refused g c whole ends =
    let inv = c.loop-asking.invariant in
    let part = read_from g.F.Files c.args.files.now c.load_fitting.new.files in
    let told = err_from_is_err_and c.from_residual-in_err-put.result c.from_residual-in_err-put.ensures.1 in
    rw (told.1, told.2) (askings_refused whole part c.args.points c.args.askings.now c.loop-asking.asking-index c.asking-item.result
    c.loop-asking.loaded.items Memory c.loop-asking-test.true ends inv.passed (inl tt))

pub loop-asking-preserved : goal.loop-asking-preserved
loop-asking-preserved g c =
    let inv = c.loop-asking.invariant in
    let a = c.asking-item.result in
    let i = c.loop-asking.asking-index in
    let askings = c.args.askings.now in
    let same : a ≡ get_or askings i a = search (rules, c.asking-item.is) in
    let had = c.in_ok-queries.ensures in
    let held = g.F.Files.held c.args.files.now in
    let right = asking_at askings i a c.requires c.loop-asking-test.true in
    let k = ap (λ (x : Asking). x.k) same in
    record {
      passed = askings_more held c.args.points askings i a c.loop-asking.loaded.items c.put.new.loaded.items _ c.loop-asking-test.true
          c.in_ok-put.ensures inv.passed
          (subst (λ (x : Asking). HoldsAsking held c.args.points x (record { queries = c.in_ok-queries.queries; k = a.k })) same
          (record {
            file = subst (λ h. HoldsFile h a.queries.name c.in_ok-queries.queries) inv.kept had.holds;
            points = had.length;
            k = refl;
          }));
      askable = can_more c.args.points c.loop-asking.loaded.items c.put.new.loaded.items _ c.in_ok-put.ensures inv.askable (record {
        points = had.length;
        least = let l = right.least in omega arith;
        most = let l = right.most in omega arith;
        few = had.sound.count_limit;
      });
      kept = had.kept ∙ inv.kept;
      faults = let f = had.counts.0 in let h = inv.faults in omega arith;
      misses = let f = had.counts.1 in let h = inv.misses in omega arith;
    }
