-- A limit is told only where the index has codes.
use Rattle.std.proofs.Common.{ℕ, ap, sym, subst, ◌∙◌}
use Rattle.std.specs.Prelude.{Err, IfOk, IfSome, IsSome, None, Ok, Option, Result, Some}
use Rattle.subtree_build.specs.Index.{IndexParts}
use Rattle.group_answer.proofs.choice.limit_to_sweep.Goals as goal

-- what holds anyway holds whatever is told
anyway : {X E : Type 0} (P : Type 0) (r : Result (Option X) E) → P → IfOk r (λ o. IfSome o (λ _. P))
anyway P (Err e) holds = tt
anyway P (Ok None) holds = tt
anyway P (Ok (Some x)) holds = holds

pub returns-then-has_codes-clause-coded : goal.returns-then-has_codes-clause-coded
returns-then-has_codes-clause-coded g c =
    anyway (IsSome c.args.search.now.index.codes) c.limit_by_codes.result
    (subst (λ (ix : IndexParts). IsSome ix.codes) c.index.ensures.index (sym c.has_codes.ensures ∙ c.if-has_codes.true))
