use Rattle.std.proofs.Common.{rules}
use Rattle.series_file.proofs.Numbered.{numbers_next}
use Rattle.series_file.proofs.write.append_numbers.Goals as goal

pub loop-number-preserved : goal.loop-number-preserved
loop-number-preserved c =
    numbers_next c.loop-number.number c.args.bytes.now.items c.loop-number.bytes.items
    c.extend_from_slice.new.self.items _ c.loop-number.invariant (search rules)
    c.in_ok-extend_from_slice.ensures.items
