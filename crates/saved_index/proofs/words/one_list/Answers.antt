-- The word of one series more stands behind the others.
use Rattle.std.proofs.Common.{◌≡◌, ◌∙◌, ◌+◌, ◌-◌, ◌<◌, arith, sym, ap, length, map, take, drop, get_or}
use Rattle.std.proofs.lemmas.List.{get_or-drop, length-drop}
use Rattle.std.proofs.lemmas.Option.{get_or_from_slice_get}
use Rattle.isax_word.specs.FullWord.{full_word}
use Rattle.subtree_build.proofs.Meaning.{map_push}
use Rattle.saved_index.proofs.words.one_list.Goals as goal

pub loop-number-preserved : goal.loop-number-preserved
loop-number-preserved g c =
    let series = (g.R.Rows.collection c.args.rows.now).series in
    let word = full_word c.args.layout.now in
    let first = c.args.from in
    let i = c.loop-number.number in
    let row = c.row.result.now in
    let inside : i - first < length (drop first series) = omega (arith, length-drop first series) in
    let there : i ≡ first + (i - first) = omega arith in
    let next : (i - first) + 1 ≡ (i + 1) - first = omega arith in
    let item : row ≡ get_or (drop first series) (i - first) row
    = sym (get_or_from_slice_get series i row row c.row.ensures)
    ∙ ap (λ k. get_or series k row) there
    ∙ sym (get_or-drop first series (i - first) row) in
    c.in_ok-push.ensures.items
    ∙ map_push word (drop first series) (i - first) row c.loop-number.items.items c.of.result inside item
    c.loop-number.invariant c.of.ensures
    ∙ ap (λ k. map word (take k (drop first series))) next
