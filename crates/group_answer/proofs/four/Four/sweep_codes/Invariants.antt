-- All four have met the members before this place, and their limits are those of their lists.
use Rattle.std.proofs.Common.{◌≡◌, ◌∷◌, []}
use Rattle.group_answer.specs.Sweeping.{AreSwept}
use Rattle.group_answer.proofs.four.Four.sweep_codes.Given as goal

abbrev pub invariant-loop-i : goal.invariant-loop-i
invariant-loop-i g l = record {
  swept : AreSwept g.R.Rows.collection l.asked l.i l.self;
  a : l.self.a.chosen ≡ l.fn.self.a.chosen;
  b : l.self.b.chosen ≡ l.fn.self.b.chosen;
  c : l.self.c.chosen ≡ l.fn.self.c.chosen;
  d : l.self.d.chosen ≡ l.fn.self.d.chosen;
  limits : l.limits ≡ l.self.a.most ∷ l.self.b.most ∷ l.self.c.most ∷ l.self.d.most ∷ [];
}
