use Rattle.std.proofs.Common.{◌≡◌, ◌++◌}
use Rattle.std.specs.List.{range_with_len}
use Rattle.series_file.specs.Format.{labels_text}
use Rattle.series_file.proofs.write.append_numbers.Given as goal

abbrev pub invariant-loop-number : goal.invariant-loop-number
invariant-loop-number l =
    l.bytes.items ≡ l.initial.bytes.items ++ labels_text (range_with_len 0 l.number)
