use Rattle.std.proofs.Common.{length, drop, ap, ◌∙◌, arith, length-drop, length-append}
use Rattle.std.specs.Prelude.{decimal}
use Rattle.std.proofs.lemmas.Fmt.{length-decimal-le}
use Rattle.certificate.proofs.tail.Tail.put_number.Goals as goal

pub write_digits-self-inside-requires : goal.write_digits-self-inside-requires
write_digits-self-inside-requires c =
    let size = ap length c.self.view_is in
    let left = length-drop c.self.inside.start c.self.inside.bytes in
    let digits = length-decimal-le 20 c.args.n (omega arith) (omega arith) c.ranges.n.fits in
    (omega (arith, c.self.told, c.requires), omega (arith, c.self.told, c.self.invariant))

pub returns-clause-room : goal.returns-clause-room
returns-clause-room c =
    let size = ap length c.self.view_is in
    let digits = length-decimal-le 20 c.args.n (omega arith) (omega arith) c.ranges.n.fits in
    let whole = ap length c.write_digits-self-inside.ensures.written
    ∙ length-append (decimal c.args.n) (drop c.self.inside.start c.self.inside.bytes) in
    omega arith
