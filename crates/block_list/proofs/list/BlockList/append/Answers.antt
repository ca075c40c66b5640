use Rattle.std.proofs.Common.{◌++◌, ◌∙◌, ap, sym}
use Rattle.block_list.proofs.Rows.{append-none, flat-none}
use Rattle.block_list.proofs.list.BlockList.append.Goals as goal

pub returns-else-some : goal.returns-else-some
returns-else-some g c =
    let none = sym c.other.invariant.0 ∙ c.if-some.false in
    let empty = sym c.other.view_is ∙ flat-none c.other.inside.row.nodes.items none in
    sym (append-none c.args.self.now) ∙ ap (λ xs. c.args.self.now ++ xs) (sym empty)
