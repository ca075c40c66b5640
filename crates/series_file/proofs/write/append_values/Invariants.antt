use Rattle.std.proofs.Common.{◌≡◌, ◌++◌, take}
use Rattle.std.specs.List.{flat_map}
use Rattle.series_core.specs.Flat.{joined}
use Rattle.series_file.specs.Format.{value_bytes}
use Rattle.series_file.proofs.write.append_values.Given as goal

abbrev pub invariant-loop-i : goal.invariant-loop-i
invariant-loop-i g l =
    l.bytes.items
    ≡ l.initial.bytes.items ++ flat_map value_bytes
    (joined (take l.i (g.R.Rows.collection l.rows).series))
