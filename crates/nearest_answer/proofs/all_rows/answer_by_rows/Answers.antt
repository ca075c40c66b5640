-- One row more was scanned; all rows scanned are the answer.
use Rattle.std.proofs.Common.{◌≡◌, ◌≤◌, ◌+◌, [], ℕ, List, ap, subst, sym, ◌∙◌, length, arith}
use Rattle.std.specs.List.{range_with_len}
use Rattle.list_totals.specs.Totals.{once_below, times}
use Rattle.series_core.specs.Answer.{answer}
use Rattle.search_machine.specs.Ground.{last, scan}
use Rattle.search_task.specs.Questions.{CanBeSearched, Question, last_of, search_over}
use Rattle.search_task.proofs.BelowRoots.{times_range}
use Rattle.search_task.proofs.Meeting.{IsScanning, one_scanned}
use Rattle.search_task.proofs.OfIndex.{answer_is, last_is, search_fits}
use Rattle.nearest_answer.proofs.Nearest.{answer_scanned}
use Rattle.nearest_answer.proofs.Ranges.{below_next}
use Rattle.nearest_answer.proofs.all_rows.answer_by_rows.Goals as goal

pub loop-number-preserved : goal.loop-number-preserved
loop-number-preserved g c =
    subst (λ (ss : List ℕ). IsScanning c.task-task.result.now c.args.limit ss [] c.measure-most.new.list c.measure-most.result)
    (sym (below_next c.loop-number.number))
    (one_scanned c.loop-number.number c.loop-number.invariant c.measure-most.ensures.list c.measure-most.ensures.pairs)

pub returns : goal.returns
returns g c =
    let a = c.task-task.result.now in
    let ix = c.args.search.now.index in
    let same : a ≡ c.args.search.now.question = c.task-task.ensures.task in
    let searched : CanBeSearched a ix
    = subst (λ (b : Question). CanBeSearched b ix) (sym same) c.task-task.ensures.searched in
    let ground = search_over a ix 1 1 in
    let fits = search_fits a ix 1 1 searched (omega arith) (omega arith) in
    let limit = c.args.limit in
    let count = length a.collection.series in
    let all : c.loop-number.number ≡ count = omega arith in
    let low : last_of a ≤ limit = subst (λ (b : Question). last_of b ≤ limit) (sym same) c.requires.limit in
    let enough : last ground ≤ limit = omega (arith, last_is a ix 1 1 searched.question, low) in
    let end : 0 + count ≡ count = omega arith in
    let each : (s : ℕ) → times s (range_with_len 0 count) ≡ once_below s count
    = λ s. times_range s 0 count (omega arith) ∙ ap (once_below s) end in
    subst (λ (b : Question). c.loop-number.list.pairs ≡ answer b.collection b.query b.k) same
    (c.loop-number.invariant.pairs ix 1 1
    ∙ ap (λ n. scan ground limit (range_with_len 0 n) []) all
    ∙ answer_scanned ground fits limit (range_with_len 0 count) enough each
    ∙ answer_is a ix 1 1)
