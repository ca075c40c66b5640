-- What is written and the text of the root children that are left is the whole text.
use Rattle.std.proofs.Common.{◌≡◌, ◌++◌, drop, map}
use Rattle.subtree_build.specs.Outline.{outline}
use Rattle.saved_index.specs.IndexText.{filled, saved_of}
use Rattle.saved_index.specs.Saved.{roots_text, text}
use Rattle.saved_index.proofs.saving.save.Given as goal

abbrev pub invariant-loop-i : goal.invariant-loop-i
invariant-loop-i l =
    l.bytes.items ++ roots_text (drop l.i l.index.roots) (map (λ node. filled l.index.leaves (outline node)) (drop l.i l.index.nodes))
    ≡ text (saved_of l.settings l.count l.index)
