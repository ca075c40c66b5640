-- A tree fits its rows, and can be saved.
use Rattle.saved_index.proofs.TreeSaves.{tree_can_save}
use Rattle.isearch_c.proofs.held.Searchable.of_rows.Goals as goal

pub invariant_of-result : goal.invariant_of-result
invariant_of-result c =
    let rows = c.args.rows in
    let settings = c.args.settings.now in
    let index = c.in_ok-index.index in
    let made = c.in_ok-index.ensures in
    record {
      points = c.requires.length;
      fits = ∣ made.fits ∣₁;
      saves = ∣ tree_can_save rows settings index c.count-count.ensures.sound made.tree c.requires.leaf.0 c.requires.leaf.1 ∣₁;
    }
