-- The first descent at a split with both children: to the one of lesser bound (`to_high`, `to_low`).
use Rattle.std.proofs.Common.{◌≡◌, ℕ, Bool, true, false, List, refl, ◌∙◌}
use Rattle.std.specs.Prelude.{◌&&◌, ◌||◌, not}
use Rattle.std.proofs.lemmas.Bool.{cond-true, cond-false}
use Rattle.isax_word.specs.declared.word.Part.{Part}
use Rattle.isax_word.specs.Word.{child_word}
use Rattle.lower_bound.specs.Bound.{View}
use Rattle.subtree_build.specs.declared.node.Node.{Node}
use Rattle.subtree_build.specs.Tree.{split, is_absent}
use Rattle.subtree_build.specs.Outline.{outline}
use Rattle.subtree_build.specs.Start.{is_high_nearer, takes_high, first_descent}
use Rattle.subtree_build.proofs.Outlines.{present}

-- with both children the bounds alone decide
by_bounds : (a b t : Bool) → a ≡ false → b ≡ false → (a || (not b && t)) ≡ t
by_bounds false false t e f = refl
by_bounds true b t e f = cc
by_bounds false true t e f = cc

-- with both children the bounds decide
takes_by_bounds : (view : View) (word : List Part) (j : ℕ) (a b : Node)
    → takes_high view word j (outline a) (outline b) ≡ is_high_nearer view word j
takes_by_bounds view word j a b =
    by_bounds (is_absent (outline a)) (is_absent (outline b)) (is_high_nearer view word j)
    (present a) (present b)

module _ (view : View) (word : List Part) (j : ℕ) (a b : Node) where
  -- how it goes on below a split with both children
  abbrev GoesOn : Bool → Node → Type 0
  GoesOn high node =
      first_descent view word (split j (outline a) (outline b)) ≡ first_descent view (child_word word j high) (outline node)

  -- to the high child, where it is nearer
  pub to_high : is_high_nearer view word j ≡ true → GoesOn true b
  to_high nearer = cond-true (takes_high view word j (outline a) (outline b)) _ _ (takes_by_bounds view word j a b ∙ nearer)

  -- to the low child, where the high one is no nearer
  pub to_low : is_high_nearer view word j ≡ false → GoesOn false a
  to_low far = cond-false (takes_high view word j (outline a) (outline b)) _ _ (takes_by_bounds view word j a b ∙ far)
