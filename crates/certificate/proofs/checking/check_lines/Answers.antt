use Rattle.std.proofs.Common.{◌≡◌, ℕ, List, Option, Some, None, true, refl}
use Rattle.std.specs.Prelude.{IfSome, is_some}
use Rattle.std.specs.Option.{option_copied}
use Rattle.certificate.proofs.checking.check_lines.Goals as goal

-- what holds where there are labels
with_labels : (labels : Option (List ℕ)) (X : Type 0) → (is_some labels ≡ true → X) → IfSome labels (λ _. X)
with_labels None X holds = tt
with_labels (Some ls) X holds = holds refl

pub check_answers-requires-clause-labelled : goal.check_answers-requires-clause-labelled
check_answers-requires-clause-labelled g c = with_labels (option_copied c.args.labels) _ c.requires.block.labels
