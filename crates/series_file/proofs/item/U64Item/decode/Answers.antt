use Rattle.std.proofs.Common.{◌∙◌, ap}
use Rattle.series_file.specs.Items.{items_from, label_at}
use Rattle.series_file.proofs.ItemLemmas.{numbers_by_place}
use Rattle.series_file.proofs.item.U64Item.decode.Goals as goal

pub returns : goal.returns
returns c =
    numbers_by_place label_at 8 c.read_u64_into.new.dst c.args.bytes.now c.read_u64_into.ensures
    ∙ ap (λ n. items_from label_at 8 n c.args.bytes.now) (cc)
