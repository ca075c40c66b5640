-- The word of a number stands at a place of a list.
use Rattle.std.proofs.Common.{◌≡◌, ◌∙◌, ◌<◌, ◌/◌, ◌%◌, ℕ, List, [], ap, length, arith, get_or}
use Rattle.std.proofs.lemmas.List.{get_or_default}
use Rattle.saved_index.proofs.ByNumber.{word_at}
use Rattle.saved_index.proofs.words.SeriesWords.at.Goals as goal

pub index-list-requires : goal.index-list-requires
index-list-requires g c =
    let there = word_at (g.R.Rows.collection c.args.rows.now) c.args.layout.now c.args.self.now c.args.number c.requires.words c.requires.series in
    omega (arith, there.list, c.args.self.now.lists.ok)

-- what stands in a list is what stands there whatever stands past its end
shown : (lists : List (List (List ℕ))) (i : ℕ) (list items : List (List ℕ)) → i < length lists → items ≡ list → list ≡ get_or lists i list
    → items ≡ get_or lists i []
shown lists i list items inside seen is = seen ∙ is ∙ get_or_default lists i list [] inside

pub index-requires : goal.index-requires
index-requires g c =
    let w = c.args.self.now in
    let i = c.args.number / w.each in
    let there = word_at (g.R.Rows.collection c.args.rows.now) c.args.layout.now w c.args.number c.requires.words c.requires.series in
    let here = shown w.lists.items i c.index-list.result.now c.list.inside.items.items there.list c.list.view_is c.index-list.ensures in
    omega (arith, there.place, ap (λ (ws : List (List ℕ)). length ws) here, c.list.inside.items.ok)

pub returns : goal.returns
returns g c =
    let w = c.args.self.now in
    let i = c.args.number / w.each in
    let j = c.args.number % w.each in
    let there = word_at (g.R.Rows.collection c.args.rows.now) c.args.layout.now w c.args.number c.requires.words c.requires.series in
    let here = shown w.lists.items i c.index-list.result.now c.list.inside.items.items there.list c.list.view_is c.index-list.ensures in
    let low : j < length c.list.inside.items.items = omega (arith, there.place, ap (λ (ws : List (List ℕ)). length ws) here) in
    c.index.ensures
    ∙ get_or_default c.list.inside.items.items j c.index.result.now [] low
    ∙ ap (λ (ws : List (List ℕ)). get_or ws j []) here
    ∙ there.word
