-- The stored places are the cut points, and cut points rise and stay within the row.
use Rattle.std.proofs.Common.{◌+◌, ◌∙◌, arith, get_or, ap, subst}
use Rattle.segment_sums.specs.Division.{Division, IsDivision, division_of, cut_place}
use Rattle.segment_sums.proofs.Places.{cut_places_at, cut_place_rises, cut_place_inside}
use Rattle.segment_sums.proofs.cuts.Cuts.cut.Goals as goal

pub returns-clause-from : goal.returns-clause-from
returns-clause-from c =
    let is : IsDivision c.args.self.now = subst IsDivision c.self.view_is c.self.invariant.0 in
    ap (λ xs. get_or xs c.args.j 0) c.self.invariant.1
    ∙ cut_places_at (division_of c.self.inside.row_length c.self.inside.count) c.args.j
    (omega (arith, is.few_segments))
    ∙ ap (λ (d : Division). cut_place d c.args.j) c.self.view_is

pub returns-clause-to : goal.returns-clause-to
returns-clause-to c =
    let is : IsDivision c.args.self.now = subst IsDivision c.self.view_is c.self.invariant.0 in
    ap (λ xs. get_or xs (c.args.j + 1) 0) c.self.invariant.1
    ∙ cut_places_at (division_of c.self.inside.row_length c.self.inside.count) (c.args.j + 1)
    (omega (arith, is.few_segments))
    ∙ ap (λ (d : Division). cut_place d (c.args.j + 1)) c.self.view_is

pub returns-clause-not_empty : goal.returns-clause-not_empty
returns-clause-not_empty c =
    let rises = cut_place_rises c.args.self.now c.args.j (subst IsDivision c.self.view_is c.self.invariant.0) in
    omega (arith, returns-clause-from c, returns-clause-to c, rises)

pub returns-clause-inside : goal.returns-clause-inside
returns-clause-inside c =
    let is : IsDivision c.args.self.now = subst IsDivision c.self.view_is c.self.invariant.0 in
    omega (arith, returns-clause-to c, cut_place_inside c.args.self.now (c.args.j + 1) is (omega (arith, c.requires)))
