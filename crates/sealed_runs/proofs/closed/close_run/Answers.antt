use Rattle.std.proofs.Common.{◌≡◌, ℕ, ◌<◌, List, length, All, sym, ap, ◌∙◌, subst, arith}
use Rattle.std.proofs.lemmas.List.Elements.{All-map}
use Rattle.std.proofs.lemmas.List.{length-map}
use Rattle.claim_word.specs.Passes.{Claim}
use Rattle.sealed_runs.specs.Entries.{Run}
use Rattle.sealed_runs.specs.Visits.{Visit, IsVisit, visit_at, column}
use Rattle.sealed_runs.specs.Tallied.{Takes}
use Rattle.sealed_runs.proofs.Lines.{own_claims, reach_fits, tally_line}
use Rattle.sealed_runs.proofs.closed.close_run.Goals as goal

pub close-requires-clause-own : goal.close-requires-clause-own
close-requires-clause-own c =
    let run = c.args.run in
    let passes = c.args.passes.now.items in
    let vs = column passes c.args.m in
    let own = All-map (IsVisit run) (λ (p : List Visit). visit_at p c.args.m) passes c.requires.own
    in
    let claims = own_claims run vs c.gather-drawn.result.claims.items
    c.gather-drawn.ensures.tally.claims own in
    subst (λ (k : Claim). All (λ p. p.claims ≡ k) c.gather-drawn.result.claims.items)
    (sym (ap (λ (r : Run). r.claims) c.run.view_is)) claims

pub take_entries-taken-requires-clause-reach : goal.take_entries-taken-requires-clause-reach
take_entries-taken-requires-clause-reach c =
    let run = c.args.run in
    let vs = column c.args.passes.now.items c.args.m in
    let tally = c.gather-drawn.result in
    let count = ap (λ (r : Run). r.claims.count) c.run.view_is ∙ c.requires.ready.count in
    let fits = reach_fits run vs tally.claims.items _ tally.reach tally.refused.items tally.kept
    count
    c.gather-drawn.ensures.tally c.close.ensures in
    let entries = ap (λ (r : Run). length r.entries) c.run.view_is in
    let slice = ap length c.deref.ensures.value in
    omega arith

pub returns-clause-line : goal.returns-clause-line
returns-clause-line c =
    let run = c.args.run in
    let passes = c.args.passes.now.items in
    let vs = column passes c.args.m in
    let tally = c.gather-drawn.result in
    let count = ap (λ (r : Run). r.claims.count) c.run.view_is ∙ c.requires.ready.count in
    let own = All-map (IsVisit run) (λ (p : List Visit). visit_at p c.args.m) passes c.requires.own
    in
    let es = c.deref.ensures.value ∙ ap (λ (r : Run). r.entries) c.run.view_is in
    let columns = length-map passes (λ (p : List Visit). visit_at p c.args.m) in
    let some : 0 < length vs = omega (arith, c.requires.some, c.args.passes.now.ok.0, columns) in
    let takes = subst
    (λ (xs : List ℕ). Takes c.deref.result.now xs tally.reach c.take_entries-taken.result.items)
    c.deref-2.ensures.value c.take_entries-taken.ensures in
    tally_line run vs tally.claims.items _ tally.reach tally.refused.items tally.kept count
    c.gather-drawn.ensures.tally c.close.ensures c.deref.result.now
    c.take_entries-taken.result.items es
    takes c.requires.ready.ascending own some
