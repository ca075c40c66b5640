use Rattle.std.proofs.Common.{◌≡◌, ◌<◌, List, length, set, sym, ap, ◌∙◌, subst, arith}
use Rattle.std.proofs.lemmas.List.{get_or_default}
use Rattle.sealed_runs.specs.Entries.{Run, Sealed, no_run, run_at}
use Rattle.sealed_runs.specs.Visits.{Visit, no_visit, visit_at, IsPass}
use Rattle.sealed_runs.specs.Popped.{IfLeaf, IfClosed, Gives, Shuts, Pops}
use Rattle.sealed_runs.proofs.Popping.{Says, pops_say}
use Rattle.sealed_runs.proofs.Passing.{new_visit, pass_stays}
use Rattle.sealed_runs.proofs.runs.Runs.pop.Goals as goal

-- what the pop of the run says of the pass's visit
says : (c : goal.After-pass-1)
    → Says (run_at c.args.self.now.runs c.args.m) c.args.limit (visit_at c.args.pass.now c.args.m)
    c.pop.result
    c.pop.new.visit
says c =
    let m = c.args.m in
    let run = run_at c.args.self.now.runs m in
    let visit = visit_at c.args.pass.now m in
    let all_runs = ap (λ (s : Sealed). length s.runs) c.self.view_is in
    let all_visits = ap (λ (vs : List Visit). length vs) c.pass.view_is in
    let count = c.requires.own.count in
    let queue = c.requires.queue in
    let in_runs : m < length c.self.inside.runs.items = omega arith in
    let in_visits : m < length c.pass.inside.visits.items = omega arith in
    let run_is = c.index.ensures
    ∙ get_or_default c.self.inside.runs.items m _ no_run in_runs
    ∙ ap (λ (s : Sealed). run_at s.runs m) c.self.view_is in
    let visit_is = c.index_mut.ensures.value
    ∙ get_or_default c.pass.inside.visits.items m _ no_visit in_visits
    ∙ ap (λ (vs : List Visit). visit_at vs m) c.pass.view_is in
    let pops = subst (λ (r : Run). Pops r c.args.limit c.pop.result c.index_mut.result.now
    c.pop.new.visit) run_is
    c.pop.ensures.pops in
    pops_say run c.args.limit visit (c.requires.own.each m queue) c.requires.goes_on c.pop.result
    c.pop.new.visit
    (subst (λ (v : Visit). Pops run c.args.limit c.pop.result v c.pop.new.visit) visit_is pops)

-- the visit of the run after the pop is the one that the pop left
left : (c : goal.After-pass-1)
    → visit_at (set c.pass.inside.visits.items c.args.m c.pop.new.visit) c.args.m ≡ c.pop.new.visit
left c =
    let m = c.args.m in
    let w = c.pop.new.visit in
    ap (λ (vs : List Visit). visit_at (set vs m w) m) c.pass.view_is
    ∙ new_visit c.args.self.now.runs c.args.pass.now m w c.requires.own c.requires.queue

-- what is said of the visit that the pop left holds of the visit of the run after it
of_left : (c : goal.After-pass-1) (Holds : Visit → Type 0) → Holds c.pop.new.visit
    → Holds (visit_at (set c.pass.inside.visits.items c.args.m c.pop.new.visit) c.args.m)
of_left c Holds = subst Holds (sym (left c))

pub returns-clause-leaf : goal.returns-clause-leaf
returns-clause-leaf c = of_left c (λ w. IfLeaf c.pop.result (Gives
    (run_at c.args.self.now.runs c.args.m) c.args.limit (visit_at c.args.pass.now c.args.m) w))
    (says c).leaf

pub returns-clause-closed : goal.returns-clause-closed
returns-clause-closed c = of_left c (λ w. IfClosed c.pop.result (Shuts
    (run_at c.args.self.now.runs c.args.m) c.args.limit (visit_at c.args.pass.now c.args.m) w))
    (says c).closed

pub returns-clause-own : goal.returns-clause-own
returns-clause-own c =
    let m = c.args.m in
    let runs = c.args.self.now.runs in
    let w = c.pop.new.visit in
    let stays = pass_stays runs c.args.pass.now m w c.requires.own c.requires.queue (says c).own in
    subst (λ (vs : List Visit). IsPass runs (set vs m w)) (sym c.pass.view_is) stays
