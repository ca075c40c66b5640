-- The workers so far are fresh, and so are the passes that are left.
use Rattle.std.proofs.Common.{◌≡◌, ◌≤◌, ◌+◌, ◌++◌, ℕ, All, length, vec_capacity, vec_len}
use Rattle.std.specs.Vec.Iter.{into_iter_items}
use Rattle.best_word.specs.Passes.{fresh_pass as fresh_word}
use Rattle.list_team.specs.Searchers.{IsFresh}
use Rattle.list_team.proofs.team.hire.Given as goal

abbrev pub invariant-loop-pass : goal.invariant-loop-pass
invariant-loop-pass l = record {
  whole : l.yielded ++ into_iter_items l.pass-iterator ≡ l.fn.passes.items;
  len : vec_len l.team ≡ length l.yielded;
  left : vec_len l.words + length l.yielded ≡ length l.fn.passes.items;
  room : length l.fn.passes.items ≤ vec_capacity l.team;
  words : (floor : ℕ) → All (λ w. w ≡ fresh_word l.best floor) l.fn.words.items → All (λ w. w ≡ fresh_word l.best floor) l.words.items;
  fresh : (floor : ℕ) → All (λ w. w ≡ fresh_word l.best floor) l.fn.words.items
      → All (IsFresh l.claims l.best floor l.k) l.team.items;
}
