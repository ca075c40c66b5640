-- The answer to one query more stands behind the others.
use Rattle.std.proofs.Common.{◌≡◌, ◌∙◌, ◌+◌, ◌-◌, ◌∷◌, ◌++◌, [], List, ap, map, sym, arith}
use Rattle.std.specs.List.{range_with_len}
use Rattle.std.proofs.lemmas.List.FromFn.{map-range_with_len_more}
use Rattle.series_core.specs.declared.pair.Pair.{Pair}
use Rattle.group_answer.specs.Asking.{answer_to}
use Rattle.group_answer.proofs.in_order.answers.Goals as goal

pub loop-i-preserved : goal.loop-i-preserved
loop-i-preserved g c =
    let answer = answer_to g.R.Rows.collection c.args.asked.now in
    let first = c.args.first in
    let i = c.loop-i.i in
    let was = c.loop-i.invariant in
    let one : i + 1 - first ≡ i - first + 1 = omega arith in
    let place : first + (i - first) ≡ i = omega arith in
    record {
      all = c.in_ok-push.ensures.items
          ∙ ap (λ (ls : List (List Pair)). ls ++ c.in_ok-next_answer.field-0 ∷ []) was.all
          ∙ ap (λ (ps : List Pair). map answer (range_with_len first (i - first)) ++ ps ∷ []) c.in_ok-next_answer.ensures.right
          ∙ sym (map-range_with_len_more answer first (i - first) i place)
          ∙ ap (λ n. map answer (range_with_len first n)) (sym one);
      ahead = c.in_ok-next_answer.ensures.ahead;
    }
