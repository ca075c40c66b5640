-- Members are moved where there are some for both sides, and else lie as they are divided.
use Rattle.std.proofs.Common.{◌-◌, length, ap, ◌∙◌, inl, inr, arith, ◌⊎◌, ◌≡◌}
use Rattle.std.specs.Prelude.{count_by}
use Rattle.subtree_build.specs.Splitting.{goes_high}
use Rattle.subtree_build.proofs.Dividing.{low_count, one_side}
use Rattle.subtree_build.proofs.subtree.divide.Goals as goal
use Rattle.subtree_build.proofs.subtree.divide.Goals.{else-low-gt0-via-then-low-gt0+else-split-gt0, else-low-gt0-via-else-low-gt0}

pub returns-then-split-gt0-clause-low : goal.returns-then-split-gt0-clause-low
returns-then-split-gt0-clause-low c =
    ap (λ n. length c.args.members.now - n) c.requires.high ∙ low_count (goes_high c.args.word.now c.args.split.segment) c.args.members.now

pub returns-else-low-gt0-clause-divided : goal.returns-else-low-gt0-clause-divided
returns-else-low-gt0-clause-divided c =
    let members = c.args.members.now in
    let p = goes_high c.args.word.now c.args.split.segment in
    let one : (length members - count_by p members ≡ 0) ⊎ (count_by p members ≡ 0) = elim c.else-low-gt0.branch [
      | else-low-gt0-via-then-low-gt0+else-split-gt0 w ↦ inr (omega (arith, c.requires.high, w.if-split-gt0.false))
      | else-low-gt0-via-else-low-gt0 w ↦ inl (omega (arith, c.requires.high, w.if-low-gt0.false))
    ] in
    one_side p members one

pub returns-else-low-gt0-clause-low : goal.returns-else-low-gt0-clause-low
returns-else-low-gt0-clause-low c =
    ap (λ n. length c.args.members.now - n) c.requires.high ∙ low_count (goes_high c.args.word.now c.args.split.segment) c.args.members.now
