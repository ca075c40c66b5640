-- A member whose codes are above the limit is farther.
use Rattle.std.proofs.Common.{◌≡◌, List, ℤ, ap, ◌∙◌, sym, subst, length, arith}
use Rattle.std.proofs.lemmas.Bool.{leb-false}
use Rattle.row_codes.specs.Bound.{AreCodesFor, code_bound}
use Rattle.row_codes.specs.Rows.{Block}
use Rattle.subtree_build.specs.Means.{codes_of_member}
use Rattle.search_task.specs.Questions.{coded_query}
use Rattle.search_task.proofs.CodeRows.{codes_are_below, codes_fit}
use Rattle.search_task.proofs.task.Task.codes_may_be_within.Goals as goal

pub is_within-requires : goal.is_within-requires
is_within-requires g c =
    let a = c.args.self.now in
    let m = c.args.member.now in
    subst (λ (q : List ℤ). AreCodesFor (length q) c.args.codes.now) (sym c.codes.ensures.codes)
    (subst (AreCodesFor (length (coded_query a.collection a.query))) (sym c.requires.codes)
    (codes_fit a m c.codes.ensures.question c.requires.member.series))

pub returns : goal.returns
returns g c above =
    let a = c.args.self.now in
    let m = c.args.member.now in
    let seen = c.codes.result.now in
    let codes = c.args.codes.now in
    let query = coded_query a.collection a.query in
    let same : code_bound seen codes ≡ code_bound query (codes_of_member a.collection m) =
    ap (λ (q : List ℤ). code_bound q codes) c.codes.ensures.codes
    ∙ ap (λ (cs : List Block). code_bound query cs) c.requires.codes in
    let below = codes_are_below a m c.codes.ensures.question c.requires.member.series in
    let passed = leb-false (code_bound seen codes) c.args.limit.now (sym c.is_within.ensures ∙ above) in
    omega (arith, same, below, passed)
