-- What is kept can be saved.
use Rattle.std.proofs.Common.{ℕ, length, subst, sym}
use Rattle.saved_index.specs.IndexText.{CanSave}
use Rattle.isearch_c.proofs.Fitting.{CanSave-had}
use Rattle.isearch_c.proofs.texts.text_in.Goals as goal

pub save-requires : goal.save-requires
save-requires c =
    let kept = c.args.searchable.now in
    subst (λ (n : ℕ). CanSave kept.settings n kept.index) (sym c.count-count.ensures.count)
    (CanSave-had kept.settings (length kept.rows.series) kept.index kept.saves)
