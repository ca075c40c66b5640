-- From the values to their differences.
use Rattle.std.proofs.Common.{◌≡◌, ℕ, ◌+◌, ◌<◌, ◌≤◌, List, length, map, sym, ◌∙◌, subst}
use Rattle.std.specs.Prelude.{ℤ, FitsSigned}
use Rattle.std.specs.List.{All}
use Rattle.std.specs.Simd.Lanes.{chunk, zip2, Each1}
use Rattle.std.proofs.lemmas.List.Elements.{All-take, All-drop}
use Rattle.std.proofs.lemmas.Simd.{length-chunk}
use Rattle.std.proofs.Math.ListN.{length-map}
use mir.Val.{to_z, of_z}
use mir.Syntax.{w16}
use Rattle.simd_distance.specs.Lanes.{bits_of, difference}
use Rattle.simd_distance.proofs.Differences.{read_back, handed, handed_differences, differences_small}
use Rattle.simd_distance.proofs.lanes.sixteen_differences.Goals as goal

-- sixteen values of a row fit
sixteen_fit : (xs : List ℤ) (at : ℕ) → All (FitsSigned w16) xs → All (FitsSigned w16) (chunk at 16 xs)
sixteen_fit xs at fits = All-take (FitsSigned w16) 16 _ (All-drop (FitsSigned w16) at xs fits)

-- they fit where a vector is handed them
handed_fit : (xs : List ℤ) (at : ℕ) → All (FitsSigned w16) xs
    → All (FitsSigned w16) (handed (chunk at 16 xs))
handed_fit xs at fits =
    let fit = sixteen_fit xs at fits in
    subst (All (FitsSigned w16)) (sym (read_back (chunk at 16 xs) fit)) fit

-- a vector is handed sixteen of them
handed_long : (xs : List ℤ) (at : ℕ) → at + 16 ≤ length xs → length (handed (chunk at 16 xs)) ≡ 16
handed_long xs at room =
    length-map (map (of_z w16) (chunk at 16 xs)) (to_z w16) ∙ length-map (chunk at 16 xs) (of_z w16)
    ∙ length-chunk at 16 xs room

pub differences-requires-clause-x_lanes : goal.differences-requires-clause-x_lanes
differences-requires-clause-x_lanes c = handed_long c.args.x.now c.args.at c.requires.x_sixteen

pub differences-requires-clause-q_lanes : goal.differences-requires-clause-q_lanes
differences-requires-clause-q_lanes c = handed_long c.args.q.now c.args.at c.requires.q_sixteen

pub differences-requires-clause-x_fits : goal.differences-requires-clause-x_fits
differences-requires-clause-x_fits c = handed_fit c.args.x.now c.args.at c.requires.x_fits

pub differences-requires-clause-q_fits : goal.differences-requires-clause-q_fits
differences-requires-clause-q_fits c = handed_fit c.args.q.now c.args.at c.requires.q_fits

-- the bits that are handed on are the differences of sixteen values of two rows
sixteen_bits : (xs ys bits : List ℤ) (at : ℕ) → All (FitsSigned w16) xs → All (FitsSigned w16) ys
    → bits_of bits ≡ zip2 difference (handed (chunk at 16 xs)) (handed (chunk at 16 ys))
    → bits_of (handed bits) ≡ zip2 difference (chunk at 16 xs) (chunk at 16 ys)
sixteen_bits xs ys bits at fx fy =
    handed_differences (chunk at 16 xs) (chunk at 16 ys) bits (sixteen_fit xs at fx)
    (sixteen_fit ys at fy)

pub widened-requires-clause-small : goal.widened-requires-clause-small
widened-requires-clause-small c =
    let x = c.args.x.now in
    let q = c.args.q.now in
    let at = c.args.at in
    let fx = c.requires.x_fits in
    let fq = c.requires.q_fits in
    let is = sixteen_bits x q c.differences.result at fx fq c.differences.ensures in
    let small = differences_small _ _ (sixteen_fit x at fx) (sixteen_fit q at fq) in
    subst (Each1 (λ n. n < 65536)) (sym is) small

pub returns : goal.returns
returns c =
    let x = c.args.x.now in
    let q = c.args.q.now in
    let at = c.args.at in
    c.widened.ensures
    ∙ sixteen_bits x q c.differences.result at c.requires.x_fits c.requires.q_fits
    c.differences.ensures
