use Rattle.std.proofs.Common.{◌*◌, ◌∙◌, ap, sym, subst, Bool}
use Rattle.series_file.specs.Stages.{Ends}
use Rattle.series_file.proofs.RawValues.{raw_size, raw_count, raw_rows, raw_found, raw_fits, raw_left}
use Rattle.series_file.proofs.read.read_raw.Goals as goal

-- There are whole series alone, and no more values than allowed.
pub from_values-rows-requires-clause-whole : goal.from_values-rows-requires-clause-whole
from_values-rows-requires-clause-whole g c =
    let whole = rw c.from.ensures at c.if-arrived-from-ne0.false in
    let size =
    raw_size c.args.length _ _ _ _ _ _ c.in-Ok.ensures.came whole c.in-Ok.arrived.items.ok.0 in
    ap (λ m. m * c.args.length) (raw_count c.args.length _ _ c.requires.some_point size) ∙ sym size

pub from_values-rows-requires-clause-count_limit : goal.from_values-rows-requires-clause-count_limit
from_values-rows-requires-clause-count_limit g c =
    let whole = rw c.from.ensures at c.if-arrived-from-ne0.false in
    (raw_rows c.args.length _ _ _ _ _ _ c.requires.some_point c.raw_limit-limit.ensures c.in-Ok.ensures.came whole
    c.in-Ok.arrived.items.ok.0).0

pub from_values-rows-requires-clause-values_limit : goal.from_values-rows-requires-clause-values_limit
from_values-rows-requires-clause-values_limit g c =
    let whole = rw c.from.ensures at c.if-arrived-from-ne0.false in
    (raw_rows c.args.length _ _ _ _ _ _ c.requires.some_point c.raw_limit-limit.ensures c.in-Ok.ensures.came whole
    c.in-Ok.arrived.items.ok.0).1

pub returns-clause-found : goal.returns-clause-found
returns-clause-found g c =
    let whole = rw c.from.ensures at c.if-arrived-from-ne0.false in
    let ends = subst (λ (b : Bool). Ends b (g.F.Files.left c.read_items.new.files)
    (g.F.Files.left c.is_at_end.new.files))
    c.in-Ok-true.field-0-test c.in-Ok-true.ensures.ends in
    let rows = c.from_values-rows.ensures in
    raw_found c.args.length _ _ _ _ _ _ _ c.from_values-rows.result c.requires.some_point c.raw_limit-limit.ensures
    c.in-Ok.ensures.came whole c.in-Ok.arrived.items.ok.0 ends rows.sound rows.points rows.series

pub returns-clause-fits : goal.returns-clause-fits
returns-clause-fits g c =
    let whole = rw c.from.ensures at c.if-arrived-from-ne0.false in
    let rows = c.from_values-rows.ensures in
    raw_fits c.args.length _ _ _ _ _ _ c.from_values-rows.result c.requires.some_point c.raw_limit-limit.ensures
    c.in-Ok.ensures.came whole c.in-Ok.arrived.items.ok.0 rows.sound rows.points rows.series

-- One byte behind the limit was read.
pub returns-in-Ok-false-clause-left : goal.returns-in-Ok-false-clause-left
returns-in-Ok-false-clause-left g c =
    let more = subst (λ (b : Bool). Ends b (g.F.Files.left c.read_items.new.files)
    (g.F.Files.left c.is_at_end.new.files))
    c.in-Ok-false.field-0-test c.in-Ok-false.ensures.ends in
    raw_left c.args.length _ _ _ _ _ _ c.raw_limit-limit.ensures c.in-Ok.ensures.came more
