use Rattle.std.proofs.Common.{◌-◌, length, refl, arith}
use Rattle.block_list.proofs.Rows.{flat-link, Tells-link}
use Rattle.block_list.proofs.row.link.Goals as goal

pub returns-clause-items : goal.returns-clause-items
returns-clause-items g c =
    let some = c.requires.some.0 in
    let blocks = c.args.row.now.nodes.items in
    rw c.join.ensures.0
    (flat-link blocks (length blocks - 1) _ c.back_mut.result.now c.args.other.now.nodes.items (omega arith)
    c.back_mut.ensures.value refl)

pub returns-clause-tells : goal.returns-clause-tells
returns-clause-tells g c =
    let some = c.requires.some.0 in
    let blocks = c.args.row.now.nodes.items in
    rw c.join.ensures.0
    (Tells-link blocks (length blocks - 1) _ c.args.other.now.nodes.items (omega arith) refl
    c.requires.some.1 c.requires.tells.0 c.requires.tells.1)
