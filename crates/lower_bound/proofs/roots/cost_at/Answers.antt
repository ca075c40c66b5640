-- The length and the sum of the segment are those that the view tells.
use Rattle.std.proofs.Common.{rules, ◌≡◌, pos, ◌-◌, ap, ◌∙◌, get_or, to_z, of_z}
use Rattle.std.specs.Prelude.{FitsSigned}
use Rattle.std.specs.Int.{w32}
use Rattle.std.proofs.lemmas.Int.{to_z-of_z}
use Rattle.segment_sums.specs.Division.{cut_place}
use Rattle.lower_bound.specs.Gap.{part_cost}
use Rattle.lower_bound.specs.Bound.{sum_at, length_at}
use Rattle.lower_bound.specs.Halves.{view_with}
use Rattle.lower_bound.proofs.HalfBounds.{sum_at-view_with}
use Rattle.lower_bound.proofs.roots.cost_at.Goals as goal

pub returns : goal.returns
returns c =
    let layout = c.args.layout.now in
    let sums = c.args.sums.now in
    let j = c.args.j in
    let view = view_with layout sums in
    let fits : FitsSigned w32 (get_or sums j (pos 0)) = search rules in
    let read = to_z w32 (of_z w32 (get_or sums j (pos 0))) in
    let sum : read ≡ sum_at view j
    = to_z-of_z w32 (get_or sums j (pos 0)) fits ∙ sum_at-view_with layout sums j c.requires.used in
    let long : c.cut-from.result.1 - c.cut-from.result.0 ≡ length_at view j
    = ap (λ a. c.cut-from.result.1 - a) c.cut-from.ensures.from
    ∙ ap (λ b. b - cut_place layout.cuts j) c.cut-from.ensures.to in
    c.cost_of_bit.ensures
    ∙ ap (λ n. part_cost layout.table n read (record { prefix = c.args.bit; bits = 1 })) long
    ∙ ap (λ s. part_cost layout.table (length_at view j) s (record { prefix = c.args.bit; bits = 1 })) sum
