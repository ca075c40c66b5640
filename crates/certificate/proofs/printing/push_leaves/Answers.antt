use Rattle.std.proofs.Common.{List, ℕ, ap, ◌++◌, ◌∙◌, arith}
use Rattle.search_machine.specs.declared.outcome.Fate.TheVariants.{Start}
use Rattle.subtree_build.specs.Index.{no_leaf}
use Rattle.certificate.proofs.PrintedText.{leaves_step}
use Rattle.certificate.proofs.printing.push_leaves.Goals as goal

pub loop-l-preserved : goal.loop-l-preserved
loop-l-preserved c =
    leaves_step c.args.text.now.items c.loop-l.text.items c.extend_from_slice.new.self.items c.put_leaf.new.tail
    c.args.index.now.leaves c.args.fates.now c.loop-l.l no_leaf Start (omega arith) c.requires c.loop-l.invariant
    c.put_leaf.ensures
    (c.in_ok-extend_from_slice.ensures.items ∙ ap (λ (t : List ℕ). c.loop-l.text.items ++ t) c.bytes.ensures)
