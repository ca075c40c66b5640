use Rattle.std.proofs.Common.{◌^◌, ◌<◌, List, [], length, get_or, All, sym, ap, ◌∙◌, subst, arith}
use Rattle.std.proofs.lemmas.List.{get_or_default, get_or-map, length-map}
use Rattle.std.proofs.lemmas.List.Elements.{All-replicate}
use Rattle.std.proofs.lemmas.List.Sums.{length-filter, count_by-le-length}
use Rattle.series_core.specs.declared.queue_words.Entry.{Entry}
use Rattle.list_totals.proofs.Pigeons.{at_most_holes}
use Rattle.series_core.specs.EntryOrder.{IsAscending}
use Rattle.sealed_runs.specs.Entries.{Run, LeavesDiffer, IsRun, no_run}
use Rattle.sealed_runs.specs.Visits.{IsPass}
use Rattle.sealed_runs.specs.Sealing.{fresh_visits, is_of, row_of}
use Rattle.sealed_runs.proofs.Ordering.{sorted_ascend, differ_sorted, row_is_run}
use Rattle.sealed_runs.proofs.Passing.{fresh_is_pass}
use Rattle.sealed_runs.proofs.runs.Runs.seal.Goals as goal

pub seal_rows-requires-clause-ascending : goal.seal_rows-requires-clause-ascending
seal_rows-requires-clause-ascending c k d in_list =
    let es = c.args.entries.items in
    let sorted = c.sort_unstable.new.self.items in
    let moved = c.sort_unstable.ensures.permutation in
    let ascends = sorted_ascend sorted c.sort_unstable.ensures.sorted
    (differ_sorted es sorted moved c.requires.leaves) in
    let rows = c.in_ok-rows.rows in
    let low : k < c.args.queues = omega (arith, c.in_ok-rows.ensures.count, rows.ok.0) in
    let run = row_is_run es sorted c.args.queues k moved ascends in
    let row = get_or_default rows.items k d [] in_list
    ∙ c.in_ok-rows.ensures.rows k low
    ∙ ap (λ (xs : List Entry). row_of c.args.queues xs k) c.deref.ensures.value in
    subst IsAscending (sym row) run.ascending

pub seal_rows-requires-clause-count : goal.seal_rows-requires-clause-count
seal_rows-requires-clause-count c k d in_list =
    let es = c.args.entries.items in
    let sorted = c.deref.result.now in
    let rows = c.in_ok-rows.rows in
    let low : k < c.args.queues = omega (arith, c.in_ok-rows.ensures.count, rows.ok.0) in
    let row = ap (λ (xs : List Entry). length xs)
    (get_or_default rows.items k d [] in_list ∙ c.in_ok-rows.ensures.rows k low) in
    let differ = subst LeavesDiffer (sym c.deref.ensures.value)
    (differ_sorted es c.sort_unstable.new.self.items c.sort_unstable.ensures.permutation
    c.requires.leaves) in
    let most = at_most_holes (λ (e : Entry). e.leaf) (2 ^ 32) sorted c.in_ok-rows.ensures.leaves
    differ in
    let part = length-filter (is_of c.args.queues k) sorted in
    let less = count_by-le-length (is_of c.args.queues k) sorted in
    omega arith

pub returns-clause-runs : goal.returns-clause-runs
returns-clause-runs c m low =
    let es = c.args.entries.items in
    let sorted = c.sort_unstable.new.self.items in
    let moved = c.sort_unstable.ensures.permutation in
    let ascends = sorted_ascend sorted c.sort_unstable.ensures.sorted
    (differ_sorted es sorted moved c.requires.leaves) in
    let runs = c.in_ok-runs.runs.items in
    let rows = c.in_ok-rows.rows in
    let same = ap (λ (rs : List (List Entry)). length rs) c.in_ok-runs.ensures.entries in
    let mapped = length-map runs (λ (run : Run). run.entries) in
    let in_runs : m < length runs =
    omega (arith, c.in_ok-rows.ensures.count, rows.ok.0, same, mapped) in
    let row = sym (get_or-map (λ (run : Run). run.entries) runs m no_run [] in_runs)
    ∙ ap (λ (rs : List (List Entry)). get_or rs m []) c.in_ok-runs.ensures.entries
    ∙ c.in_ok-rows.ensures.rows m low
    ∙ ap (λ (xs : List Entry). row_of c.args.queues xs m) c.deref.ensures.value in
    subst (IsRun es c.args.queues m) (sym row) (row_is_run es sorted c.args.queues m moved ascends)

pub returns-clause-own : goal.returns-clause-own
returns-clause-own c =
    let runs = c.in_ok-runs.runs.items in
    subst (All (IsPass runs)) (sym c.in_ok-runs.ensures.passes)
    (All-replicate (IsPass runs) c.args.callers (fresh_visits runs) (fresh_is_pass runs))
