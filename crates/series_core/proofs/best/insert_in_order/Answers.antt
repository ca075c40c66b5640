use Rattle.std.proofs.Common.{rules, ◌∙◌, ◌≡◌, true}
use Rattle.std.specs.Prelude.{is_ok}
use Rattle.std.proofs.lemmas.Bool.{cond-true}
use Rattle.series_core.proofs.Room.{insert_at, ascending_insert}
use Rattle.series_core.proofs.best.insert_in_order.Goals as goal

pub returns-clause-items : goal.returns-clause-items
returns-clause-items c =
    let here = insert_at c.args.pair c.place_of-at.result c.deref.result.now c.place_of-at.ensures.bound c.place_of-at.ensures.parts in
    let done : is_ok c.insert.result ≡ true = search (rules, c.insert.ensures.succeeds c.requires.room) in
    c.insert.ensures.items ∙ cond-true (is_ok c.insert.result) _ _ done ∙ (rw c.deref.ensures.value at here)

pub returns-clause-ordered : goal.returns-clause-ordered
returns-clause-ordered c =
    let items = returns-clause-items c in
    rw items (ascending_insert c.args.pair c.args.pairs.now.items c.requires.ordered)
