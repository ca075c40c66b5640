-- The fields of the header stand one behind another.
use Rattle.std.proofs.Common.{[], ◌∷◌, ◌++◌, List, ℕ, ap, ◌∙◌}
use Rattle.byteorder.specs.Endian.{little_bytes}
use Rattle.saved_index.proofs.Saves.{seven_pieces}
use Rattle.saved_index.proofs.saving.put_header.Goals as goal

pub returns : goal.returns
returns c =
    let cuts = c.args.settings.now.layout.cuts in
    let b1 = c.extend_from_slice.new.self.items in
    let b2 = c.push.new.self.items in
    let b3 = c.push-2.new.self.items in
    let b4 = c.extend_from_slice-2.new.self.items in
    let b5 = c.extend_from_slice-3.new.self.items in
    let b6 = c.extend_from_slice-4.new.self.items in
    seven_pieces c.args.bytes.now.items (73 ∷ 83 ∷ 69 ∷ 88 ∷ 1 ∷ 0 ∷ []) (cuts.segments ∷ []) _
    (little_bytes 4 cuts.row_length) (little_bytes 4 c.args.count) (little_bytes 4 c.args.settings.now.leaf_size)
    (little_bytes 4 c.args.roots) b1 b2 b3 b4 b5 b6 c.extend_from_slice-5.new.self.items
    c.in_ok-extend_from_slice.ensures.items
    (c.in_ok-push.ensures.items ∙ ap (λ n. b1 ++ n ∷ []) c.segments.ensures.value)
    (c.in_ok-push-2.ensures.items ∙ ap (λ n. b2 ++ n ∷ []) c.table_byte-table.ensures)
    (c.in_ok-extend_from_slice-2.ensures.items ∙ ap (λ (bs : List ℕ). b3 ++ bs) c.to_le_bytes.ensures
    ∙ ap (λ n. b3 ++ little_bytes 4 n) c.length.ensures.value)
    (c.in_ok-extend_from_slice-3.ensures.items ∙ ap (λ (bs : List ℕ). b4 ++ bs) c.to_le_bytes-2.ensures)
    (c.in_ok-extend_from_slice-4.ensures.items ∙ ap (λ (bs : List ℕ). b5 ++ bs) c.to_le_bytes-3.ensures)
    (c.in_ok-extend_from_slice-5.ensures.items ∙ ap (λ (bs : List ℕ). b6 ++ bs) c.to_le_bytes-4.ensures)
