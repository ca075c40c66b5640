-- The passes of the first portions have read their words, and the others are as they were; what was read so far is no less than the
-- limits of the first portions.
use Rattle.std.proofs.Common.{◌≡◌, ◌≤◌, ◌<◌, ℕ}
use Rattle.search_machine.specs.Ground.{Ground}
use Rattle.std.specs.Prelude.{slice_get}
use Rattle.query_core.specs.Portions.{AreLimits, ReadAt, portion_last}
use Rattle.query_core.proofs.limits.Limits.most.Given as goal

abbrev pub invariant-loop-portion : goal.invariant-loop-portion
invariant-loop-portion l = record {
  words : l.self-inside.words.now ≡ l.fn.self.words;
  home : (l.self-inside.home ≡ l.fn.self.home) × (l.self-inside.at_home ≡ l.fn.self.at_home);
  offered : l.self-inside.offered ≡ l.fn.self.offered;
  limits : (g : Ground) → AreLimits g l.fn.self → AreLimits g (record l.fn.self { passes = l.self-inside.passes.items });
  read : (c : ℕ) → c < l.portion → ReadAt l.fn.self.passes l.self-inside.passes.items l.most c;
  left : (c : ℕ) → l.portion ≤ c → slice_get l.self-inside.passes.items c ≡ slice_get l.fn.self.passes c;
  most : (g : Ground) → AreLimits g l.fn.self → (c : ℕ) → c < l.portion → portion_last g c ≤ l.most;
}
