-- From the differences to the sum of their squares.
use Rattle.std.proofs.Common.{◌<◌, ◌∙◌, map, sym, ap, subst}
use Rattle.std.specs.Simd.Lanes.{chunk, sum_l, Each1}
use Rattle.std.proofs.lemmas.List.Elements.{All-take, All-drop}
use Rattle.std.specs.Prelude.{FitsSigned}
use mir.Syntax.{w16}
use Rattle.simd_distance.specs.Lanes.{square}
use Rattle.simd_distance.proofs.Differences.{differences_small}
use Rattle.simd_distance.proofs.Squares.{squares_sum}
use Rattle.simd_distance.proofs.far.sixteen_squares.Goals as goal

pub squares-requires : goal.squares-requires
squares-requires c =
    let fits = FitsSigned w16 in
    let at = c.args.at in
    let fx = All-take fits 16 _ (All-drop fits at c.args.x.now c.requires.x_fits) in
    let fq = All-take fits 16 _ (All-drop fits at c.args.q.now c.requires.q_fits) in
    let small = differences_small (chunk at 16 c.args.x.now) (chunk at 16 c.args.q.now) fx fq in
    subst (Each1 (λ n. n < 65536)) (sym c.sixteen_differences.ensures) small

pub returns : goal.returns
returns c =
    ap sum_l (c.squares.ensures ∙ ap (map square) c.sixteen_differences.ensures)
    ∙ squares_sum (chunk c.args.at 16 c.args.x.now) (chunk c.args.at 16 c.args.q.now)
