-- That an index fits its series can be shown in one way alone, so what is kept of it is had in full (`Fits-had`).
use Rattle.std.proofs.Props.{props}
use mathlib.Core.Logic.{∥∥₁_elim}
use Rattle.std.specs.Option.{MatchOption-prop}
use Rattle.series_core.specs.Collection.{Collection}
use Rattle.row_codes.specs.Rows.{Block}
use Rattle.isax_word.specs.declared.layout.Layout.{Layout}
use Rattle.subtree_build.specs.Fits.{Fits}
use Rattle.subtree_build.specs.Index.{IndexParts}

-- blocks of codes are numbers
blocks_set : IsSet Block
blocks_set = hlevel props

pub Fits-had : (c : Collection) (layout : Layout) (ix : IndexParts) → ∥ Fits c layout ix ∥₁ → Fits c layout ix
Fits-had c layout ix fits = record {
  tree = record {
    segments = ∥∥₁_elim fits (search props) (λ f. f.tree.segments);
    each_once = λ i. ∥∥₁_elim fits (search props) (λ f. f.tree.each_once i);
    own_words = λ k d h j e g. ∥∥₁_elim fits (search props) (λ f. f.tree.own_words k d h j e g);
    contained = λ k d h j e g. ∥∥₁_elim fits (search props) (λ f. f.tree.contained k d h j e g);
  };
  own_means = ∥∥₁_elim fits (MatchOption-prop ix.means _ _ (search props) (λ means. search props)) (λ f. f.own_means);
  own_codes = ∥∥₁_elim fits (MatchOption-prop ix.codes _ _ (search props) (λ codes. search (props, blocks_set))) (λ f. f.own_codes);
}
