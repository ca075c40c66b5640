-- The word of a leaf has as many segments as the query's view.
use Rattle.std.proofs.Common.{List, ap, length, sym, subst, ◌≡◌, ◌∙◌}
use Rattle.isax_word.specs.declared.word.Part.{Part}
use Rattle.lower_bound.specs.Bound.{View, word_bound}
use Rattle.subtree_build.proofs.LeafWords.{leaf_has_segments}
use Rattle.search_task.specs.Questions.{Searched, leaf_bound, view_in}
use Rattle.search_task.proofs.Searching.{leaf_is_there}
use Rattle.search_task.proofs.search.Search.word_bound.Goals as goal

pub bound_word-requires : goal.bound_word-requires
bound_word-requires g c =
    let real = leaf_is_there _ c.args.self.now c.args.leaf c.self.view_is c.requires.leaf in
    ap (λ (word : List Part). length word) c.leaf_word.ensures
    ∙ leaf_has_segments c.self.inside.index.now c.self.invariant.index c.args.leaf real
    ∙ c.self.invariant.fits.tree.segments
    ∙ ap (λ (view : View). view.layout.cuts.segments) (sym c.view.ensures.view)

pub returns : goal.returns
returns g c =
    c.bound_word.ensures.value
    ∙ ap (λ (view : View). word_bound view c.leaf_word.result.now) c.view.ensures.view
    ∙ ap (word_bound (view_in c.self.inside.task.now)) c.leaf_word.ensures
    ∙ ap (λ (s : Searched). leaf_bound (view_in s.question) s.index c.args.leaf) c.self.view_is
