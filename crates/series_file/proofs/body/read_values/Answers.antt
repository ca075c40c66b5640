use Rattle.std.proofs.Common.{◌*◌, ◌∙◌, ap, sym, subst, Bool}
use Rattle.series_file.specs.Stages.{Ends}
use Rattle.series_file.proofs.Values.{value_size, value_rows, ValuesCame-all}
use Rattle.series_file.proofs.Reaching.{trailing_left}
use Rattle.series_file.proofs.body.read_values.Goals as goal

-- There are as many values as the header says.
pub from_values-rows-requires-clause-whole : goal.from_values-rows-requires-clause-whole
from_values-rows-requires-clause-whole g c =
    let want = c.value_bytes-want.ensures.exact in
    let size = value_size c.args.header _ _ _ _ _ (rw want at c.in-Ok.ensures.came)
    (rw want at c.if-arrived-want.false) c.in-Ok.arrived.items.ok.0 in
    ap (λ m. m * c.args.header.length) (value_rows c.args.header c.requires _ size) ∙ sym size

pub from_values-rows-requires-clause-count_limit : goal.from_values-rows-requires-clause-count_limit
from_values-rows-requires-clause-count_limit g c =
    let want = c.value_bytes-want.ensures.exact in
    let size = value_size c.args.header _ _ _ _ _ (rw want at c.in-Ok.ensures.came)
    (rw want at c.if-arrived-want.false) c.in-Ok.arrived.items.ok.0 in
    rw (value_rows c.args.header c.requires _ size) c.requires.count_limit

pub from_values-rows-requires-clause-values_limit : goal.from_values-rows-requires-clause-values_limit
from_values-rows-requires-clause-values_limit g c =
    let want = c.value_bytes-want.ensures.exact in
    let size = value_size c.args.header _ _ _ _ _ (rw want at c.in-Ok.ensures.came)
    (rw want at c.if-arrived-want.false) c.in-Ok.arrived.items.ok.0 in
    rw size c.requires.values_limit

pub returns-clause-came : goal.returns-clause-came
returns-clause-came g c =
    let want = c.value_bytes-want.ensures.exact in
    let came = rw want at c.in-Ok.ensures.came in
    let all = rw want at c.if-arrived-want.false in
    let size = value_size c.args.header _ _ _ _ _ came all c.in-Ok.arrived.items.ok.0 in
    let ends = subst (λ (b : Bool). Ends b (g.F.Files.left c.read_items.new.files)
    (g.F.Files.left c.is_at_end.new.files))
    c.in-Ok-true.field-0-test c.in-Ok-true.ensures.ends in
    let rows = c.from_values-rows.ensures in
    ValuesCame-all c.args.header c.requires _ _ _ c.args.labels _ _ _ c.from_values-rows.result came all size ends rows.sound rows.points rows.series

-- One byte behind the values was read.
pub returns-in-Ok-false-clause-left : goal.returns-in-Ok-false-clause-left
returns-in-Ok-false-clause-left g c =
    let want = c.value_bytes-want.ensures.exact in
    let more = subst (λ (b : Bool). Ends b (g.F.Files.left c.read_items.new.files)
    (g.F.Files.left c.is_at_end.new.files))
    c.in-Ok-false.field-0-test c.in-Ok-false.ensures.ends in
    trailing_left _ _ _ _ _ _ _ _ (rw want at c.in-Ok.ensures.came) (rw want at c.if-arrived-want.false) more
