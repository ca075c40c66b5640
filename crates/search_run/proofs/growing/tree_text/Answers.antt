use Rattle.std.proofs.Common.{◌≡◌, ℕ, sym, ap, subst, arith, length}
use Rattle.std.specs.Prelude.{Result, Ok, Err, IfOk}
use Rattle.std.specs.Global.{Vec}
use Rattle.outside.specs.declared.faults.NoMemory.{NoMemory}
use Rattle.series_core.specs.Collection.{Collection}
use Rattle.subtree_build.specs.Fits.{IsTreeOf}
use Rattle.subtree_build.specs.Index.{IndexParts}
use Rattle.subtree_build.specs.declared.settings.Settings.{Settings}
use Rattle.saved_index.specs.IndexText.{CanSave, IndexText}
use Rattle.saved_index.proofs.TreeSaves.{tree_can_save}
use Rattle.search_run.specs.Indexes.{IsTreeText}
use Rattle.search_run.proofs.growing.tree_text.Goals as goal

-- the text of the tree by its own settings is that by equal ones
tree_text : (c : Collection) (s t : Settings) (n : ℕ) (ix : IndexParts) (r : Result (Vec ℕ) NoMemory) → s ≡ t
    → n ≡ length c.series → IsTreeOf c s.layout s.leaf_size ix → IfOk r (λ text. IndexText text.items s n ix)
    → IfOk r (λ text. IsTreeText c t text.items)
tree_text c s t n ix (Ok text) same count tree is = (
  ix,
  subst (λ (u : Settings). IsTreeOf c u.layout u.leaf_size ix) same tree,
  subst (λ (u : Settings). IndexText text.items u (length c.series) ix) same
      (subst (λ (m : ℕ). IndexText text.items s m ix) count is),
)
tree_text c s t n ix (Err e) same count tree is = tt

pub save-requires : goal.save-requires
save-requires g c =
    let rows = c.args.rows.now in
    let tree = c.in_ok-tree.tree in
    let made = c.in_ok-tree.ensures in
    let leaf = ap (λ (s : Settings). s.leaf_size) made.settings in
    subst (λ (n : ℕ). CanSave tree.settings n tree.index) (sym c.count.ensures.count)
    (tree_can_save rows tree.settings tree.index c.count.ensures.sound made.built
    (omega (arith, leaf, c.requires.options.leaf.0)) (omega (arith, leaf, c.requires.options.leaf.1)))

pub returns : goal.returns
returns g c =
    let tree = c.in_ok-tree.tree in
    let made = c.in_ok-tree.ensures in
    tree_text c.args.rows.now tree.settings _ c.count.result tree.index c.save.result made.settings c.count.ensures.count
    made.built c.save.ensures
