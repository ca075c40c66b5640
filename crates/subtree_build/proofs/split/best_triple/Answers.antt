-- The next segment cannot be split, or its triple is compared with the least so far.
use Rattle.std.proofs.Common.{◌<◌, ◌≤◌, ◌+◌, sym, subst, arith}
use Rattle.std.specs.Prelude.{Option}
use Rattle.isax_word.specs.Word.{part_at}
use Rattle.subtree_build.specs.declared.split.Triple.{Triple}
use Rattle.subtree_build.specs.Splitting.{IsBestOf, lesser_of}
use Rattle.subtree_build.proofs.Splits.{IsBestSoFar, best_passes, best_meets}
use Rattle.subtree_build.proofs.split.best_triple.Goals as goal
use Rattle.subtree_build.proofs.split.best_triple.Goals.{then-bits-lt8, else-bits-lt8}

pub loop-j-preserved : goal.loop-j-preserved
loop-j-preserved c =
    let word = c.args.word.now in
    let members = c.args.members.now in
    let j = c.loop-j.j in
    elim c.if-bits-lt8.branch [
      | then-bits-lt8 w ↦
          let divisible : (part_at word j).bits < 8 = omega (arith, w.if-bits-lt8.true, c.bits.ensures.value) in
          let P : Triple → Type 0 = λ t. IsBestOf word members (j + 1) (lesser_of c.loop-j.best t) in
          let Q : Triple → Type 0 = λ t. IsBestOf word members (j + 1) t in
          let R : Option Triple → Type 0 = λ o. IsBestSoFar word members (j + 1) o in
          subst R (sym w.best-is)
          (subst Q (sym w.lesser.ensures)
          (subst P (sym w.triple_of-triple.ensures)
          (best_meets word members j c.loop-j.best divisible c.loop-j.invariant)))
      | else-bits-lt8 w ↦
          let full : 8 ≤ (part_at word j).bits = omega (arith, w.if-bits-lt8.false, c.bits.ensures.value) in
          let R : Option Triple → Type 0 = λ o. IsBestSoFar word members (j + 1) o in
          subst R (sym w.best-is) (best_passes word members j c.loop-j.best full c.loop-j.invariant)
    ]
