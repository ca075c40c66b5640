use Rattle.std.proofs.Common.{◌∙◌, ap}
use Rattle.series_file.specs.Items.{items_from, value_at}
use Rattle.series_file.proofs.ItemLemmas.{items_by_place}
use Rattle.series_file.proofs.item.I16Item.decode.Goals as goal

pub returns : goal.returns
returns c =
    items_by_place value_at 2 c.read_i16_into.new.dst c.args.bytes.now c.read_i16_into.ensures
    ∙ ap (λ n. items_from value_at 2 n c.args.bytes.now) (cc)
