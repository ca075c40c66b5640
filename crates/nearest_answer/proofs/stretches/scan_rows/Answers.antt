-- One row more is scanned.
use Rattle.std.proofs.Common.{◌≡◌, ◌-◌, ◌*◌, ◌∷◌, [], ℕ, List, ap, length, refl, subst, sym, arith}
use Rattle.std.specs.List.{flat_map, range_with_len}
use Rattle.search_task.specs.Questions.{Question}
use Rattle.search_task.specs.Scanning.{AreScanned, IsScannedOne, MayAdd}
use Rattle.nearest_answer.proofs.ItemsScanned.{all_items, none_yet, row_scanned}
use Rattle.nearest_answer.proofs.stretches.scan_rows.Goals as goal

pub loop-row-init : goal.loop-row-init
loop-row-init g c =
    let a = c.args.search.now.question in
    let first = c.args.number * 64 in
    let none : 0 ≡ first - first = omega arith in
    record {
      list = record { wanted = c.requires.k; is_best = c.most_to_add-most.ensures.sound; most_is = c.most_to_add-most.ensures.most };
      pairs = subst (λ (n : ℕ). AreScanned a c.args.limit (flat_map (λ (m : ℕ). m ∷ []) (range_with_len first n))
          c.args.list.now.pairs c.args.list.now.pairs) none
          (none_yet a c.args.limit c.args.list.now c.most_to_add-most.ensures.sound c.requires.k);
    }

pub loop-row-preserved : goal.loop-row-preserved
loop-row-preserved g c =
    let a = c.args.search.now.question in
    let limit = c.args.limit in
    let row = c.loop-row.row in
    let same = c.task-task.ensures.task in
    row_scanned a limit (c.args.number * 64) row c.loop-row.most c.measure-most.result c.args.list.now.pairs c.loop-row.list
    c.measure-most.new.list (omega arith) c.loop-row.invariant
    (subst (λ (b : Question). MayAdd b limit c.measure-most.new.list c.measure-most.result) same c.measure-most.ensures.list)
    (subst (λ (b : Question). IsScannedOne b limit row c.loop-row.list.pairs c.measure-most.new.list.pairs) same
    c.measure-most.ensures.pairs)

pub measure-most-requires-clause-list : goal.measure-most-requires-clause-list
measure-most-requires-clause-list g c =
    subst (λ (b : Question). MayAdd b c.args.limit c.loop-row.list c.loop-row.most) (sym c.task-task.ensures.task)
    c.loop-row.invariant.list

pub returns-clause-pairs : goal.returns-clause-pairs
returns-clause-pairs g c =
    let a = c.args.search.now.question in
    let first = c.args.number * 64 in
    let count = ap (λ (b : Question). length b.collection.series) c.task-task.ensures.task in
    subst (λ (is : List ℕ). AreScanned a c.args.limit (flat_map (λ (m : ℕ). m ∷ []) is) c.args.list.now.pairs
    c.loop-row.list.pairs)
    (all_items 64 (length a.collection.series) c.args.number first c.loop-row.row refl (omega (arith, count)))
    c.loop-row.invariant.pairs
