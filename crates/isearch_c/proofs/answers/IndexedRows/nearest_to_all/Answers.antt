-- No answer has more pairs than are wanted.
use Rattle.std.proofs.Common.{◌∙◌, ◌≤◌, [], List, get_or, length, subst, sym}
use Rattle.std.specs.Prelude.{None}
use Rattle.series_core.specs.declared.pair.Pair.{Pair}
use Rattle.isearch_c.specs.declared.answers.Asked.{Asked}
use Rattle.isearch_c.proofs.Filling.{few_wanted}
use Rattle.isearch_c.proofs.answers.IndexedRows.nearest_to_all.Goals as goal

pub put-requires : goal.put-requires
put-requires g c =
    let all = g.R.Rows.collection c.args.self.now.rows.now in
    let asked : Asked = record { k = c.args.k; apart = None } in
    let P : List Pair → Type 0 = λ ps. length ps ≤ c.args.k in
    subst P (sym (c.deref.ensures.value ∙ c.pairs.view_is ∙ c.in_ok-pairs.ensures.right))
    (few_wanted asked all (get_or c.from_values-flat.result.series c.loop-i.i []))
