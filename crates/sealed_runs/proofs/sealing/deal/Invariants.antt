use Rattle.std.proofs.Common.{◌≡◌, ◌+◌, ◌∷◌, [], ◌++◌, All, map, take, drop, vec_len}
use Rattle.claim_word.specs.Passes.{fresh_pass}
use Rattle.sealed_runs.specs.Visits.{fresh_visit}
use Rattle.sealed_runs.proofs.sealing.deal.Given as goal

abbrev pub invariant-loop-pass : goal.invariant-loop-pass
invariant-loop-pass l = record {
  claims : All (λ p. p ≡ fresh_pass l.run.claims) l.claims.items;
  count : vec_len l.claims + l.pass-index ≡ l.count;
  dealt : take l.pass-index l.pass-items ≡ map (λ vs. vs ++ fresh_visit l.run.claims ∷ [])
      (take l.pass-index l.fn.passes.items);
  left : drop l.pass-index l.pass-items ≡ drop l.pass-index l.fn.passes.items;
}
