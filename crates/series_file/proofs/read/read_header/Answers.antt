use Rattle.std.proofs.Common.{arith}
use Rattle.series_file.proofs.Reaching.{short_left, parsed_left}
use Rattle.series_file.proofs.Outcomes.{parsed_came, parsed_explains}
use Rattle.series_file.proofs.read.read_header.Goals as goal

pub returns-clause-came : goal.returns-clause-came
returns-clause-came g c =
    parsed_came c.parse.result c.fill.new.buffer c.in-Ok.count _ _ c.parse.ensures.exact c.in-Ok.ensures.taken
    c.fill.auto.buffer c.if-count-lt-HEADER_BYTES.false c.parse.ensures.each

pub returns-clause-refused : goal.returns-clause-refused
returns-clause-refused g c =
    parsed_explains c.parse.result c.fill.new.buffer c.in-Ok.count _ _ c.parse.ensures.exact c.in-Ok.ensures.taken
    c.fill.auto.buffer c.if-count-lt-HEADER_BYTES.false

pub returns-then-count-lt-HEADER_BYTES-clause-left :
    goal.returns-then-count-lt-HEADER_BYTES-clause-left
returns-then-count-lt-HEADER_BYTES-clause-left g c =
    short_left c.fill.new.buffer c.in-Ok.count _ _ c.in-Ok.ensures.taken
    (c.in-Ok.ensures.amount.1 (omega (arith, c.if-count-lt-HEADER_BYTES.true))) c.if-count-lt-HEADER_BYTES.true

pub returns-clause-left : goal.returns-clause-left
returns-clause-left g c =
    parsed_left c.parse.result c.fill.new.buffer c.in-Ok.count _ _ c.parse.ensures.exact c.in-Ok.ensures.taken
    c.fill.auto.buffer c.if-count-lt-HEADER_BYTES.false
