use Rattle.std.proofs.Common.{◌≡◌, ℕ, ◌+◌, List, ◌∷◌, length, take, map, All, vec_len, sym, ap, ◌∙◌, subst, arith}
use Rattle.std.proofs.lemmas.List.{length-map}
use Rattle.std.proofs.Math.Seq.{take-length}
use Rattle.sealed_runs.specs.Entries.{Run, Sealed, no_run, run_at}
use Rattle.sealed_runs.specs.Visits.{Visit, IsVisit, visit_at, column}
use Rattle.sealed_runs.specs.Closed.{Line, IsLine}
use Rattle.sealed_runs.specs.Sealing.{IsReady}
use Rattle.sealed_runs.proofs.Closing.{Next, next, left_count, left_own, left_column, left_rest, all_left, LinesFrom, line_more, all_lines}
use Rattle.sealed_runs.proofs.runs.Runs.close.Goals as goal

pub loop-run-init : goal.loop-run-init
loop-run-init c =
    let runs = c.args.self.runs in
    let runs_are = ap (λ (s : Sealed). s.runs) c.self.view_is in
    let all : vec_len c.self.inside.runs ≡ length runs =
    omega (arith, c.self.inside.runs.ok.0, ap (λ (rs : List Run). length rs) runs_are) in
    let lines = ap (λ (ls : List Line). length ls) c.self.invariant.1 in
    record {
      runs = runs_are ∙ sym (take-length runs) ∙ ap (λ k. take k runs) (sym all);
      count = omega arith;
      passes = all_left runs c.args.passes.items (vec_len c.self.inside.runs) all c.requires.own;
      room = omega (arith, c.self.invariant.2, ap (λ (rs : List Run). length rs) runs_are);
      lines = λ j in_list. absurd (omega arith);
    }

-- without the run that this turn closes, one run less is left
one_less : (c : goal.After-passes-1) → c.len.result + 1 ≡ vec_len c.loop-run.runs
one_less c = omega (arith, c.len.ensures, c.in-Some.ensures.cases)

-- the run that this turn closes is the last of those that are left
last : (c : goal.After-passes-1)
    → Next c.args.self.runs c.args.passes.items c.loop-run.passes.items c.pop.new.self.items
    c.in-Some.run' c.len.result
last c =
    let inv = c.loop-run.invariant in
    let rest_count : length c.pop.new.self.items ≡ c.len.result =
    omega (arith, c.len.ensures, c.pop.new.self.ok.0) in
    next c.args.self.runs c.args.passes.items c.loop-run.passes.items c.loop-run.runs.items
    c.pop.new.self.items c.in-Some.run'
    (vec_len c.loop-run.runs) c.len.result (length c.loop-run.lines.items) inv.runs
    c.in-Some.ensures.items (one_less c) inv.count rest_count inv.passes

pub close_run-line-requires-clause-ready : goal.close_run-line-requires-clause-ready
close_run-line-requires-clause-ready c =
    let inv = c.loop-run.invariant in
    let passes = c.args.passes.items in
    let last = last c in
    let all_ready = c.self.invariant.3 in
    let runs_are = ap (λ (s : Sealed). s.runs) c.self.view_is in
    let callers = ap (λ (s : Sealed). s.callers) c.self.view_is in
    let same = ap (λ (ps : List (List Visit)). length ps) inv.passes
    ∙ length-map passes (take (vec_len c.loop-run.runs)) in
    let many : c.self.inside.callers ≡ vec_len c.loop-run.passes =
    omega (arith, callers, c.requires.all, c.loop-run.passes.ok.0, c.args.passes.ok.0, same) in
    let ready = subst (λ (rs : List Run). All (IsReady c.self.inside.callers) rs) runs_are
    all_ready c.len.result no_run last.low in
    subst (λ (k : ℕ). IsReady k c.in-Some.run') many
    (subst (IsReady c.self.inside.callers) (sym last.run_is) ready)

pub close_run-line-requires-clause-each : goal.close_run-line-requires-clause-each
close_run-line-requires-clause-each c =
    let n = c.len.result in
    let each = left_count c.args.self.runs c.args.passes.items c.requires.own n (last c).low in
    subst (λ (ps : List (List Visit)). All (λ vs. length vs ≡ n + 1) ps) (sym (last c).passes_are)
    each

pub close_run-line-requires-clause-own : goal.close_run-line-requires-clause-own
close_run-line-requires-clause-own c =
    let runs = c.args.self.runs in
    let n = c.len.result in
    let last = last c in
    let own = left_own runs c.args.passes.items c.requires.own n last.low in
    let now = subst (λ (ps : List (List Visit)). All
    (λ vs. IsVisit (run_at runs n) (visit_at vs n)) ps)
    (sym last.passes_are) own in
    subst (λ (run : Run). All (λ vs. IsVisit run (visit_at vs n)) c.loop-run.passes.items)
    (sym last.run_is) now

pub loop-run-preserved : goal.loop-run-preserved
loop-run-preserved c =
    let runs = c.args.self.runs in
    let passes = c.args.passes.items in
    let inv = c.loop-run.invariant in
    let n = c.len.result in
    let one_less = one_less c.before.before.before in
    let last = last c.before.before.before in
    let m : vec_len c.pop.new.self ≡ n = sym c.len.ensures in
    let line = c.close_run-line.ensures.line in
    let columns = ap (λ (ps : List (List Visit)). column ps n) last.passes_are
    ∙ left_column runs passes c.requires.own n last.low in
    let of_run = subst (λ (run : Run). IsLine run (column c.loop-run.passes.items n)
    c.close_run-line.result) last.run_is line in
    let of_column = subst (λ (vs : List Visit). IsLine (run_at runs n) vs c.close_run-line.result)
    columns of_run in
    let old = subst (λ (k : ℕ). LinesFrom runs passes k c.loop-run.lines.items) (sym one_less)
    inv.lines in
    let more = line_more runs passes n c.close_run-line.result c.loop-run.lines.items of_column old
    in
    let all_lines_are = subst
    (λ (k : ℕ). LinesFrom runs passes k (c.close_run-line.result ∷ c.loop-run.lines.items))
    (sym m) more in
    let pushed = c.push_front_reserved.ensures.items in
    let longer = ap (λ (ls : List Line). length ls) pushed in
    record {
      runs = last.rest_is ∙ ap (λ k. take k runs) (sym m);
      count = omega arith;
      passes = c.close_run-line.ensures.rest
          ∙ ap (map (take n)) last.passes_are
          ∙ left_rest runs passes c.requires.own n last.low
          ∙ ap (λ k. map (take k) passes) (sym m);
      room = let room = inv.room in omega (arith, c.push_front_reserved.ensures.capacity);
      lines = subst (LinesFrom runs passes (vec_len c.pop.new.self)) (sym pushed) all_lines_are;
    }

pub returns : goal.returns
returns c =
    let inv = c.loop-run.invariant in
    let none = c.in_default.ensures.cases.0 in
    let count = inv.count in
    all_lines c.args.self.runs c.args.passes.items (vec_len c.loop-run.runs) c.loop-run.lines.items
    none count inv.lines
