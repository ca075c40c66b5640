-- The segment is that of the least triple; without one no segment lacks a bit.
use Rattle.std.proofs.Common.{◌≡◌, sym, subst}
use Rattle.std.specs.Prelude.{Option, IfNone}
use Rattle.subtree_build.specs.Division.{bits_left}
use Rattle.subtree_build.specs.declared.split.Split.{Split}
use Rattle.subtree_build.proofs.Splits.{best_is_split_segment, no_bits_left}
use Rattle.subtree_build.proofs.split.best_split.Goals as goal

pub returns-in_err-best-clause-none : goal.returns-in_err-best-clause-none
returns-in_err-best-clause-none c =
    let P : Option Split → Type 0 = λ o. IfNone o (bits_left c.args.word.now ≡ 0) in
    subst P (sym c.from_residual.ensures) (no_bits_left c.args.word.now c.in_err-best.ensures.none)

pub returns-clause-segment : goal.returns-clause-segment
returns-clause-segment c =
    best_is_split_segment c.args.word.now c.args.members.now c.in_ok-best.best c.in_ok-best.ensures.some
