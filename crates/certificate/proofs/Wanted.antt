-- The answers of a block: when one is refused, and when one is missing.
use Rattle.std.proofs.Common.{◌≡◌, ℕ, ◌+◌, ◌<◌, ◌≤◌, ◌⊎◌, List, Option, Some, None, Bool, true, false, sym, ap, ◌∙◌, arith}
use Rattle.std.specs.Prelude.{ℤ, nat_lt, nat_le, ◌&&◌}
use Rattle.std.proofs.lemmas.Bool.Decides.{nat_tests}
use Rattle.series_core.specs.Collection.{Collection}
use Rattle.series_core.specs.declared.pair.Pair.{Pair}
use Rattle.certificate.specs.declared.block.Block.{Block}
use Rattle.certificate.specs.declared.error.Reject.{Reject}
use Rattle.certificate.specs.declared.error.Reject.TheVariants as reject
use Rattle.certificate.specs.Refusals.{first_of, unless}
use Rattle.certificate.specs.Verdict.{wanted, is_right, answer_refusal}

-- a test of two parts of which the first fails, or the second, refuses
both_or : (i w : ℕ) (right : Bool) (r : Reject) → ((w ≤ i) ⊎ (right ≡ false)) → unless (nat_lt i w && right) r ≡ Some r
both_or i w right r fails = grind (arith, nat_tests)

-- an answer that is past the wanted ones, or not right, is refused
pub answer_refused : (rows : Collection) (labels : Option (List ℕ)) (k b : ℕ) (q : List ℤ) (block : Block) (i w : ℕ) (p : Pair)
    → w ≡ wanted rows k → ((w ≤ i) ⊎ (is_right rows labels q block i p ≡ false))
    → answer_refusal rows labels k b q block i p ≡ Some (reject.Answers b (i + 1))
answer_refused rows labels k b q block i w p same fails =
    ap (λ n. unless (nat_lt i n && is_right rows labels q block i p) (reject.Answers b (i + 1))) (sym same)
    ∙ both_or i w (is_right rows labels q block i p) (reject.Answers b (i + 1)) fails

-- one that is wanted and right is not
pub answer_passed : (rows : Collection) (labels : Option (List ℕ)) (k b : ℕ) (q : List ℤ) (block : Block) (i w : ℕ) (p : Pair)
    → w ≡ wanted rows k → i < w → is_right rows labels q block i p ≡ true
    → answer_refusal rows labels k b q block i p ≡ None
answer_passed rows labels k b q block i w p same below right = grind (arith, nat_tests)

-- behind answers that are all right, none may be missing
pub none_missing : (first : Option Reject) (w n : ℕ) (r : Reject) → None ≡ first → w ≤ n
    → None ≡ first_of first (unless (nat_le w n) r)
none_missing first w n r right enough =
    sym (ap (λ o. first_of o (unless (nat_le w n) r)) (sym right) ∙ holds)
  where
    holds : unless (nat_le w n) r ≡ None
    holds = grind (arith, nat_tests)
