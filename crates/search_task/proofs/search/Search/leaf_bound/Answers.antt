-- The bound of the box of a leaf's means is at most that of each member's means, and that of its word is at most the distance of each.
use Rattle.std.proofs.Common.{Bor, ap, subst, sym, ◌∙◌, arith}
use Rattle.std.specs.Prelude.{Option, option_copied}
use Rattle.mean_bound.specs.Boxes.{Box, box_bound}
use Rattle.mean_bound.specs.MeanBound.{View, mean_view_of}
use Rattle.search_task.specs.LeafBounds.{IsBelowLeaf}
use Rattle.search_task.specs.Questions.{Searched, ground_of, leaf_bound, view_in}
use Rattle.search_task.proofs.BelowMeans.{box_is_below}
use Rattle.search_task.proofs.OfIndex.{bound_is_low}
use Rattle.search_task.proofs.Searching.{leaf_is_there}
use Rattle.search_task.proofs.search.Search.leaf_bound.Goals as goal

pub returns-in-Some : goal.returns-in-Some
returns-in-Some g c =
    subst (λ (s : Searched). IsBelowLeaf (ground_of s) c.args.leaf c.bound_box.result) c.self.view_is
    (λ s member.
    let a = c.self.inside.task.now in
    let ix = c.self.inside.index.now in
    let real = leaf_is_there _ c.args.self.now c.args.leaf c.self.view_is c.requires.leaf in
    let told = ap (λ (o : Option (Bor Box)). option_copied o) (sym c.in-Some.is) ∙ c.leaf_box.ensures in
    let below = box_is_below a ix c.args.leaf s c.in-Some.own.now c.self.invariant told real member in
    let is = c.bound_box.ensures.value
    ∙ ap (λ (v : View). box_bound v c.in-Some.own.now) c.means.ensures.means in
    omega (arith, is, below))

pub returns-in-None : goal.returns-in-None
returns-in-None g c =
    subst (λ (s : Searched). IsBelowLeaf (ground_of s) c.args.leaf c.word_bound.result) c.self.view_is
    (λ s member.
    let a = c.self.inside.task.now in
    let ix = c.self.inside.index.now in
    let real = leaf_is_there _ c.args.self.now c.args.leaf c.self.view_is c.requires.leaf in
    let below = bound_is_low a ix c.args.leaf s c.self.invariant real member in
    let is = c.word_bound.ensures ∙ ap (λ (t : Searched). leaf_bound (view_in t.question) t.index c.args.leaf) (sym c.self.view_is) in
    omega (arith, is, below))
