-- How far a series can be: below NONE, so a limit of NONE leaves no series out.
use Rattle.std.proofs.Common.{◌≡◌, ℕ, ◌<◌, ◌≤◌, List, length, Option, Some, None, false, arith}
use Rattle.std.specs.Prelude.{ℤ, FitsSigned}
use Rattle.std.specs.List.{All}
use mir.Syntax.{w16}
use Rattle.std.proofs.lemmas.Bool.Decides.{nat_tests}
use Rattle.series_core.specs.Distance.{squared_distance}
use Rattle.series_core.specs.Answer.{distance_or_none}
use Rattle.series_core.specs.declared.pair.Pair.{Pair}
use Rattle.series_core.proofs.Limits.{distance_each}
use Rattle.certificate.specs.Verdict.{is_missed}

-- a series that is farther than the last answer is not missed
pub far_not_missed : (q : List ℤ) (last : Option Pair) (ps : List Pair) (number : ℕ) (xs : List ℤ)
    → All (FitsSigned w16) xs → All (FitsSigned w16) q → length xs ≤ 65536
    → distance_or_none last < squared_distance xs q → false ≡ is_missed q last ps number xs
far_not_missed q None ps number xs fx fq short far =
    let near = distance_each xs q fx fq in
    absurd (omega arith)
far_not_missed q (Some last) ps number xs fx fq short far = grind (arith, nat_tests)
