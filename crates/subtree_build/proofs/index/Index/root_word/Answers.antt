-- A one-bit word has as many parts as it is asked for.
use Rattle.std.proofs.Common.{length, ap, ◌∙◌}
use Rattle.isax_word.proofs.Roots.{length-one_bit_word}
use Rattle.subtree_build.proofs.index.Index.root_word.Goals as goal

pub returns-clause-segments : goal.returns-clause-segments
returns-clause-segments c =
    ap length c.of_root.ensures ∙ length-one_bit_word c.index.result.now c.self.inside.tree.segments
    ∙ ap (λ ix. ix.segments) c.self.view_is
