use Rattle.std.proofs.Common.{◌≡◌, ◌+◌, ◌-◌, ◌<◌, suc, [], ◌∷◌, ◌∙◌, length, take, ap, refl, arith}
use Rattle.std.proofs.Math.ListN.{set}
use Rattle.std.proofs.Math.Seq.{take-suc-set}
use Rattle.block_list.proofs.Rows.{flat-set_last, Tells-set_last}
use Rattle.block_list.proofs.row.fill.Goals as goal

pub returns-clause-written : goal.returns-clause-written
returns-clause-written g c =
    let some = c.requires.some in
    let blocks = c.args.row.now.nodes.items in
    let last = c.back_mut-last.result.now in
    let room : last.used < length last.items = omega (arith, last.within, last.sized, c.if-last-eq16.false) in
    let next : last.used + 1 ≡ suc last.used = omega arith in
    flat-set_last blocks (length blocks - 1) _ last (c.args.value ∷ []) (omega arith) c.back_mut-last.ensures.value
    (ap (λ n. take n (set last.items last.used c.args.value)) next ∙ take-suc-set last.items last.used c.args.value room)

pub returns-clause-tells : goal.returns-clause-tells
returns-clause-tells g c =
    let some = c.requires.some in
    let blocks = c.args.row.now.nodes.items in
    Tells-set_last blocks (length blocks - 1) _ c.back_mut-last.result.now (omega arith)
    c.back_mut-last.ensures.value
    refl
    c.requires.tells
