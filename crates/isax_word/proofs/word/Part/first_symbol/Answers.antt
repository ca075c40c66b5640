-- A symbol is below 256.
use Rattle.std.proofs.Common.{◌≡◌, ◌-◌, ◌*◌, ◌^◌, arith, ap}
use Rattle.isax_word.proofs.Words.{part_symbols}
use Rattle.isax_word.proofs.word.Part.first_symbol.Goals as goal

pub overflow_cast-result-2 : goal.overflow_cast-result-2
overflow_cast-result-2 c =
    let symbols = part_symbols c.args.self c.requires in
    let same : c.from.result * 2 ^ (8 - c.args.self.bits) ≡ c.args.self.prefix * 2 ^ (8 - c.args.self.bits)
    = ap (λ n. n * 2 ^ (8 - c.args.self.bits)) c.from.ensures in
    omega (arith, same, symbols.0, symbols.1)
