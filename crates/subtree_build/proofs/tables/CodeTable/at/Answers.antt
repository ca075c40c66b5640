-- The codes at a place: as many times the blocks of a member as there are members.
use Rattle.std.proofs.Common.{◌≡◌, ◌∙◌, ◌-◌, ◌*◌, List, take, drop, ap, arith}
use Rattle.std.proofs.Math.Nat.{mul-sub}
use Rattle.row_codes.specs.Rows.{Block}
use Rattle.subtree_build.proofs.tables.CodeTable.at.Goals as goal

pub returns : goal.returns
returns c =
    let n = c.args.self.now.blocks in
    let p = c.args.place.now in
    let codes = c.args.self.now.codes.items in
    let same : p.end * n - p.first * n ≡ (p.end - p.first) * n = omega (arith, mul-sub n p.end p.first) in
    ap (λ (ms : List Block). take (p.end * n - p.first * n) (drop (p.first * n) ms)) c.deref.ensures.value
    ∙ ap (λ k. take k (drop (p.first * n) codes)) same
