use Rattle.std.proofs.Common.{◌≡◌, ◌∷◌, [], ◌++◌, List, All, map, length, replicate, sym, ap, ◌∙◌, subst, arith, append_assoc, length-append}
use Rattle.std.proofs.lemmas.List.{map-append}
use Rattle.std.proofs.lemmas.List.Elements.{All-push}
use Rattle.std.proofs.Math.Seq.{get_or-append_seam}
use Rattle.series_core.specs.declared.queue_words.Entry.{Entry}
use Rattle.series_core.specs.EntryOrder.{IsAscending}
use Rattle.sealed_runs.specs.Entries.{Run}
use Rattle.sealed_runs.specs.Visits.{Visit, fresh_visit}
use Rattle.sealed_runs.specs.Sealing.{IsReady, fresh_visits}
use Rattle.sealed_runs.proofs.Columns.{map_replicate}
use Rattle.sealed_runs.proofs.sealing.seal_rows.Goals as goal

-- what holds of each item of a list holds of one behind others
at_seam : (P : List Entry → Type 0) (rows before after : List (List Entry)) (row : List Entry)
    → before ++ row ∷ after ≡ rows → All P rows → P row
at_seam P rows before after row is all =
    let longer = length-append before (row ∷ after) in
    subst P (get_or-append_seam before row after [])
    (subst (All P) (sym is) all (length before) [] (omega arith))

pub loop-row-preserved : goal.loop-row-preserved
loop-row-preserved c =
    let inv = c.loop-row.invariant in
    let row = c.in-Some.row in
    let yielded = c.loop-row.yielded in
    let rest = c.next.new.self.rest.items in
    let run = c.in_ok-run.run' in
    let made = c.in_ok-run.ensures in
    let items = c.push_reserved.ensures.items in
    let rows = ap (λ (r : List (List Entry)). yielded ++ r) (sym c.in-Some.ensures.steps.0)
    ∙ inv.3 in
    let entries = made.entries ∙ c.row.view_is in
    let ascending = at_seam IsAscending c.args.rows.items yielded rest row rows
    c.requires.ascending in
    let ready : IsReady c.args.callers run = record {
      ascending = subst IsAscending (sym entries) ascending;
      callers = made.callers;
      count = made.count ∙ ap (λ (es : List Entry). length es) (sym made.entries);
    } in
    let visits = sym (map-append (λ (r : Run). fresh_visit r.claims) c.loop-row.runs.items
    (run ∷ [])) in
    let dealt = c.in_ok-deal.ensures
    ∙ ap (map (λ (vs : List Visit). vs ++ fresh_visit run.claims ∷ [])) inv.6
    ∙ map_replicate (λ (vs : List Visit). vs ++ fresh_visit run.claims ∷ []) c.args.callers
    (fresh_visits c.loop-row.runs.items)
    ∙ ap (replicate c.args.callers) visits
    ∙ ap (λ (rs : List Run). replicate c.args.callers (fresh_visits rs)) (sym items) in
    let mapped = ap (map (λ (r : Run). r.entries)) items
    ∙ map-append (λ (r : Run). r.entries) c.loop-row.runs.items (run ∷ [])
    ∙ ap (λ (es : List (List Entry)). es ++ run.entries ∷ []) inv.4
    ∙ ap (λ (es : List Entry). yielded ++ es ∷ []) entries in
    let all_ready = subst (All (IsReady c.args.callers)) (sym items)
    (All-push (IsReady c.args.callers) c.loop-row.runs.items run inv.5 ready) in
    let longer = length-append yielded (row ∷ []) in (
      tt,
      tt,
      omega (arith, c.push_reserved.ensures.len, inv.2),
      append_assoc yielded (row ∷ []) rest ∙ rows,
      mapped,
      all_ready,
      dealt,
      omega (arith, c.push_reserved.ensures.capacity, inv.7),
    )
