-- The lines so far.
use Rattle.std.proofs.Common.{◌≡◌, ℕ, List, [], ◌∷◌, ◌+◌, ◌++◌, take}
use Rattle.run_traffic.specs.Lines.{line_of, ranked}
use Rattle.examples.proofs.certified.push_answers.Given as goal

abbrev pub invariant-loop-pair : goal.invariant-loop-pair
invariant-loop-pair l = record {
  rank : l.rank ≡ l.pair-index + 1;
  text : l.text.items ≡ l.fn.text.items ++ ranked (λ r p. line_of r (p.number ∷ p.distance ∷ [])) 1 (take l.pair-index l.pairs);
}
