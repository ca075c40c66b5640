-- An answer has no more pairs than were asked for (`answer_short`).
use Rattle.std.proofs.Common.{ℕ, ◌≤◌, List, length, ap, arith}
use Rattle.std.specs.Prelude.{ℤ}
use Rattle.std.proofs.lemmas.List.{length-take}
use Rattle.series_core.specs.Answer.{answer, pairs_of}
use Rattle.series_core.specs.Collection.{Collection}
use Rattle.series_core.specs.Pairs.{ascending}
use Rattle.series_core.specs.declared.pair.Pair.{Pair}
use Rattle.series_core.proofs.Plain.{answer-smallest}

-- an answer has no more pairs than were asked for
pub answer_short : (c : Collection) (q : List ℤ) (k : ℕ) → length (answer c q k) ≤ k
answer_short c q k =
    let some : List Pair = ascending (pairs_of c q) in
    let same = ap (λ (ps : List Pair). length ps) (answer-smallest c q k) in
    omega (arith, same, length-take k some)
