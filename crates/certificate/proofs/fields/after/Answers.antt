use Rattle.std.proofs.Common.{◌≡◌, ◌++◌, List, ℕ, Option, Some, None, ap, ◌∙◌}
use Rattle.std.proofs.Common.{Bor}
use Rattle.std.specs.Prelude.{MatchOption, ◌≢◌}
use Rattle.std.proofs.lemmas.Bool.Decides.{Decides-eqb}
use Rattle.std.proofs.lemmas.Slice.Eq.{strip_prefix_is}
use Rattle.certificate.specs.Fields.{Sees, after}
use Rattle.certificate.proofs.Fronts.{after_again, after_none}
use Rattle.certificate.proofs.fields.after.Goals as goal

-- what stripping a prefix says is what stands behind it
seen : (front text : List ℕ) (r : Option (Bor (List ℕ)))
    → MatchOption r ((rest : List ℕ) → text ≢ front ++ rest) (λ x. text ≡ front ++ x.now)
    → Sees (λ rest. rest.now) r (after front text)
seen front text None told = after_none front text told
seen front text (Some rest) told = ap (after front) told ∙ after_again front rest.now

pub returns : goal.returns
returns c =
    seen c.args.front.now c.args.text.now c.strip_prefix.result
    (strip_prefix_is Decides-eqb c.args.text.now c.args.front.now c.strip_prefix.result c.strip_prefix.ensures.cases)
