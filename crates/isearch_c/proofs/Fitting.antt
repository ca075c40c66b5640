-- That an index has a text can be shown in one way alone, so what is kept of it is had in full (`CanSave-had`).
use Rattle.std.proofs.Props.{props}
use Rattle.std.proofs.Common.{ℕ}
use mathlib.Core.Logic.{∥∥₁_elim}
use Rattle.subtree_build.specs.Index.{IndexParts}
use Rattle.subtree_build.specs.declared.settings.Settings.{Settings}
use Rattle.saved_index.specs.IndexText.{CanSave}

pub CanSave-had : (settings : Settings) (count : ℕ) (ix : IndexParts) → ∥ CanSave settings count ix ∥₁ → CanSave settings count ix
CanSave-had settings count ix saves = record {
  segments = ∥∥₁_elim saves (search props) (λ s. s.segments);
  count_limit = ∥∥₁_elim saves (search props) (λ s. s.count_limit);
  some_leaf_size = ∥∥₁_elim saves (search props) (λ s. s.some_leaf_size);
  leaf_size_limit = ∥∥₁_elim saves (search props) (λ s. s.leaf_size_limit);
  leaves = λ k d h. record {
    some = ∥∥₁_elim saves (search props) (λ s. (s.leaves k d h).some);
    ascend = λ j e. ∥∥₁_elim saves (search props) (λ s. (s.leaves k d h).ascend j e);
    below = λ j e f. ∥∥₁_elim saves (search props) (λ s. (s.leaves k d h).below j e f);
  };
}
