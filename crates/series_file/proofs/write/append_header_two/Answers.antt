use Rattle.std.proofs.Common.{◌++◌, ◌∙◌, ap}
use Rattle.byteorder.specs.Endian.{little_bytes}
use Rattle.series_file.proofs.Writing.{header_two_written}
use Rattle.series_file.proofs.write.append_header_two.Goals as goal

pub returns : goal.returns
returns g c =
    header_two_written
    c.args.bytes.now.items
    c.extend_from_slice.new.self.items
    c.extend_from_slice-2.new.self.items
    c.extend_from_slice-3.new.self.items
    c.extend_from_slice-4.new.self.items
    (g.R.Rows.collection c.args.rows.now)
    c.in_ok-extend_from_slice.ensures.items
    c.in_ok-extend_from_slice-2.ensures.items
    (c.in_ok-extend_from_slice-3.ensures.items
    ∙ ap (λ xs. c.extend_from_slice-2.new.self.items ++ xs)
    (c.to_le_bytes.ensures ∙ ap (little_bytes 4) c.length-length.ensures.length))
    (c.in_ok-extend_from_slice-4.ensures.items
    ∙ ap (λ xs. c.extend_from_slice-3.new.self.items ++ xs)
    (c.to_le_bytes-2.ensures ∙ ap (little_bytes 4) c.count-count.ensures.count))
