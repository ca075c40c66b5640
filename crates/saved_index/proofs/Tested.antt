-- What was tested over a collection has its length (`points_of`) and its series (`series_of`). As it is (`alone_for`), or with their means
-- (`index_for`), it is an index for it, whose text is the bytes (`alone_text_for`, `text_for`), and which can be saved again (`saves_for`).
use Rattle.std.proofs.Common.{◌≡◌, ℕ, ◌<◌, ◌≤◌, All, true, false, List, length, refl, sym, ap, subst, ◌∙◌, Fits as FitsIn, w8}
use Rattle.std.specs.Prelude.{IsSome, slice_index}
use Rattle.isax_word.specs.declared.layout.Layout.{Layout}
use Rattle.series_core.specs.Collection.{Collection}
use Rattle.subtree_build.specs.declared.leaf.TreeLeaf.{TreeLeaf}
use Rattle.subtree_build.specs.Assembly.{HasMeansOf}
use Rattle.subtree_build.specs.Fits.{Fits}
use Rattle.subtree_build.specs.Index.{IndexParts}
use Rattle.saved_index.specs.declared.loading.LoadedIndex.{LoadedIndex}
use Rattle.saved_index.specs.IndexText.{CanSave}
use Rattle.saved_index.specs.Loading.{IsLoadedFor, IsTested, IsTextFor}
use Rattle.saved_index.proofs.Loaded.{HasTreeOf, is_for, is_text_for, saves, series, tree_is_fit, with_means_fits}

module _ (c : Collection) (bytes : List ℕ) (each : (i : ℕ) → FitsIn w8 (slice_index bytes i)) (loaded : LoadedIndex)
    (t : IsTested c bytes loaded) where
  -- the layout is for series of the collection's length
  pub points_of : loaded.settings.layout.cuts.row_length ≡ c.points
  points_of = ap (λ (l : Layout). l.cuts.row_length) t.together.layout ∙ t.together.saved.points

  -- the members are its series
  pub series_of : All (λ (x : TreeLeaf). All (λ m. m.number < length c.series) x.members) loaded.index.leaves
  series_of =
      series c bytes t.together.spelled each t.together.saved loaded.settings t.together.layout t.together.leaf_size loaded.index t.together.is_index t.together.parts

  same_tree : HasTreeOf loaded.index loaded.index
  same_tree = record { segments = refl; roots = refl; nodes = refl; leaves = refl }

  fit : Fits c loaded.settings.layout loaded.index
  fit =
      tree_is_fit c bytes t.together.spelled each t.together.saved loaded.settings t.together.layout t.together.leaf_size loaded.index t.together.is_index t.together.parts
      (length c.series) refl t.none_unfit

  -- with nothing beside its tree it is an index for the collection
  pub alone_for : IsLoadedFor false c loaded
  alone_for =
      is_for c bytes t.together.spelled each t.together.saved loaded.settings t.together.layout t.together.leaf_size loaded.index t.together.is_index t.together.parts loaded.index
      same_tree fit false (record { no_means = t.together.parts.no_means; no_codes = t.together.parts.no_codes })

  -- and the bytes are its text
  pub alone_text_for : length bytes ≤ 1073741824 → IsTextFor c loaded bytes
  alone_text_for short =
      is_text_for c bytes t.together.spelled each t.together.saved loaded.settings t.together.layout t.together.leaf_size loaded.index t.together.is_index t.together.parts
      loaded.index same_tree fit short

  module _ (ix : IndexParts) (means : HasMeansOf c loaded.settings.layout loaded.index ix) where
    tree : HasTreeOf loaded.index ix
    tree = record { segments = means.segments; roots = means.roots; nodes = means.nodes; leaves = means.leaves }

    fits : Fits c loaded.settings.layout ix
    fits =
        with_means_fits c bytes t.together.spelled each t.together.saved loaded.settings t.together.layout t.together.leaf_size loaded.index t.together.is_index t.together.parts
        (length c.series) refl t.none_unfit ix means

    -- with their means it is an index for the collection
    pub index_for : IsLoadedFor true c (record { settings = loaded.settings; index = ix })
    index_for =
        is_for c bytes t.together.spelled each t.together.saved loaded.settings t.together.layout t.together.leaf_size loaded.index t.together.is_index t.together.parts ix tree fits
        true (record { means = subst IsSome (sym means.own_means) refl; codes = subst IsSome (sym means.own_codes) refl })

    -- and the bytes are its text
    pub text_for : length bytes ≤ 1073741824 → IsTextFor c (record { settings = loaded.settings; index = ix }) bytes
    text_for short =
        is_text_for c bytes t.together.spelled each t.together.saved loaded.settings t.together.layout t.together.leaf_size loaded.index t.together.is_index t.together.parts ix tree
        fits short

    -- it can be saved again
    pub saves_for : CanSave loaded.settings (length c.series) ix
    saves_for =
        saves c bytes t.together.spelled each t.together.saved loaded.settings t.together.layout t.together.leaf_size loaded.index t.together.is_index t.together.parts ix tree fits
