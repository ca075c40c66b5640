use Rattle.std.proofs.Common.{◌≡◌, ◌<◌, ◌≤◌, ◌∷◌, [], ◌++◌, List, length, get_or, Some, ap, ◌∙◌, arith}
use Rattle.std.proofs.lemmas.List.{get_or_default}
use Rattle.std.proofs.lemmas.List.Elements.{All-pop}
use Rattle.claim_word.specs.Passes.{Pass, fresh_pass}
use Rattle.sealed_runs.specs.Visits.{Visit, fresh_visit}
use Rattle.sealed_runs.proofs.Columns.{next_pass, changed_more, left_more, all_changed}
use Rattle.sealed_runs.proofs.sealing.deal.Goals as goal

pub loop-pass-preserved : goal.loop-pass-preserved
loop-pass-preserved c =
    let inv = c.loop-pass.invariant in
    let all = c.args.passes.now in
    let now = c.loop-pass.pass-items in
    let i = c.loop-pass.pass-index in
    let run = c.args.run.now in
    let more = λ (vs : List Visit). vs ++ fresh_visit run.claims ∷ [] in
    let slice = c.deref_mut-pass-items.ensures.len in
    let in_now : i < length now =
    omega (arith, c.loop-pass.auto.pass-items, c.loop-pass-test.true) in
    let in_all : i < length all.items = omega (arith, c.loop-pass-test.true, slice, all.ok.0) in
    let last = Some c.in-Some.claim in
    let fresh = All-pop (λ (p : Pass). p ≡ fresh_pass run.claims) c.loop-pass.claims.items
    c.pop.new.self.items last
    c.in-Some.ensures.items inv.claims in
    let came = get_or_default now i _ [] in_now ∙ next_pass more all.items now i inv.left in
    let claim = ap (λ (p : Pass). p.claims) fresh.1 in
    let visit = c.fresh.ensures ∙ ap fresh_visit claim in
    let new = c.in_ok-push.ensures
    ∙ ap (λ (vs : List Visit). vs ++ c.fresh.result ∷ []) came
    ∙ ap (λ (v : Visit). get_or all.items i [] ++ v ∷ []) visit in
    record {
      claims = fresh.0;
      count = let count = inv.count in omega (arith, c.in-Some.ensures.cases);
      dealt = changed_more more all.items now i c.push.new.self in_now in_all inv.dealt new;
      left = left_more more all.items now i c.push.new.self inv.left;
    }

pub returns : goal.returns
returns c =
    let inv = c.loop-pass.invariant in
    let all = c.args.passes.now in
    let now = c.loop-pass.pass-items in
    let slice = c.deref_mut-pass-items.ensures.len in
    let same : length now ≡ length all.items =
    omega (arith, c.loop-pass.auto.pass-items, slice, all.ok.0) in
    let far : length now ≤ c.loop-pass.pass-index =
    omega (arith, c.loop-pass.auto.pass-items, c.loop-pass-test.false) in
    all_changed (λ vs. vs ++ fresh_visit c.args.run.now.claims ∷ []) all.items now
    c.loop-pass.pass-index all.len same far
    all.ok.0 inv.dealt
