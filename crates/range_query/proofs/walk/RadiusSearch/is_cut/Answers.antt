-- Where the bound of the box of a leaf's means, or that of its word, is above the radius, the leaf has nothing near.
use Rattle.std.proofs.Common.{All, Bor, List, ap, length, subst, sym, ◌∙◌, arith}
use Rattle.std.specs.Prelude.{Option, option_copied}
use Rattle.std.proofs.lemmas.Bool.{ltb-true}
use Rattle.isax_word.specs.declared.word.Part.{Part}
use Rattle.isax_word.specs.Word.{IsPart}
use Rattle.lower_bound.specs.Bound.{word_bound}
use Rattle.mean_bound.specs.Boxes.{Box, box_bound}
use Rattle.subtree_build.proofs.LeafWords.{leaf_has_segments}
use Rattle.range_query.proofs.Cutting.{far_leaf, far_word}
use Rattle.range_query.proofs.walk.RadiusSearch.is_cut.Goals as goal

pub returns-in-Some : goal.returns-in-Some
returns-in-Some g c above =
    let told = ap (λ (o : Option (Bor Box)). option_copied o) (sym c.in-Some.is) ∙ c.leaf_box.ensures in
    let bound = c.bound_box.ensures.value ∙ ap (λ v. box_bound v c.in-Some.own.now) c.requires.ready.1 in
    far_leaf _ _ _ c.requires.ready.0 c.args.leaf c.in-Some.own.now told c.requires.leaf
    (omega (arith, ltb-true _ _ above, bound))

pub bound_word-requires : goal.bound_word-requires
bound_word-requires g c =
    let ready = c.requires.ready.0 in
    ap (λ (word : List Part). length word) c.leaf_word-word.ensures
    ∙ leaf_has_segments c.args.self.now.index.now ready.index c.args.leaf c.requires.leaf
    ∙ ready.fits.tree.segments

pub returns-in-None : goal.returns-in-None
returns-in-None g c above =
    let P : List Part → Type 0 = λ word. All IsPart word in
    let bound = c.bound_word.ensures.value ∙ ap (word_bound c.args.self.now.view.now) c.leaf_word-word.ensures in
    far_word _ _ _ c.requires.ready.0 c.args.leaf c.requires.leaf
    (subst P c.leaf_word-word.ensures c.segments-segments.ensures.is_word.parts) (omega (arith, ltb-true _ _ above, bound))
