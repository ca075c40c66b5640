-- One more bound is reckoned.
use Rattle.std.proofs.Common.{◌≡◌, ◌+◌, ◌++◌, ◌∷◌, [], ℕ, List, length, sym, ap, ◌∙◌, subst, arith}
use Rattle.isax_word.specs.declared.word.Part.{Part}
use Rattle.lower_bound.specs.Bound.{word_bound}
use Rattle.subtree_build.proofs.LeafWords.{leaf_has_segments}
use Rattle.query_core.specs.BoundShares.{AreBounds, Share}
use Rattle.query_core.proofs.BoundShares.{more_bounds}
use Rattle.query_core.proofs.bound_share.BoundShare.reckon.Goals as goal

pub bound_word-requires : goal.bound_word-requires
bound_word-requires c =
    ap (λ (word : List Part). length word) c.leaf_word.ensures
    ∙ leaf_has_segments c.args.index.now c.segments-segments.ensures.is_index c.loop-leaf.leaf
    (omega (arith, c.loop-leaf-test.true, c.requires.bounds.inside, ap (λ (s : Share). s.end) c.self.view_is))
    ∙ sym c.requires.segments

pub loop-leaf-preserved : goal.loop-leaf-preserved
loop-leaf-preserved c =
    let was = c.loop-leaf.invariant in
    let bounds = c.loop-leaf.self-inside.bounds in
    record {
      first = was.first;
      end = was.end;
      place = omega (arith, was.place, c.push_reserved.ensures.len);
      room = omega (arith, was.room, c.push_reserved.ensures.capacity);
      bounds = subst (λ (bs : List ℕ). AreBounds c.args.view.now c.args.index.now (record c.args.self.now { bounds = bs }))
          (sym c.push_reserved.ensures.items)
          (more_bounds c.args.view.now c.args.index.now c.args.self.now bounds.items c.loop-leaf.leaf c.bound_word.result was.bounds
          (omega (arith, was.place, was.first, bounds.ok.0))
          (c.bound_word.ensures.value ∙ ap (word_bound c.args.view.now) c.leaf_word.ensures));
    }
