-- The shares so far are fresh where the passes are.
use Rattle.std.proofs.Common.{◌≡◌, ◌≤◌, ◌++◌, All, length, vec_capacity, vec_len}
use Rattle.std.specs.Vec.Iter.{into_iter_items}
use Rattle.claim_word.specs.Passes.{Claim, fresh_pass}
use Rattle.search_run.specs.Batches.{IsFresh}
use Rattle.search_run.proofs.dealing.shares.Given as goal

abbrev pub invariant-loop-pass : goal.invariant-loop-pass
invariant-loop-pass l = record {
  whole : l.yielded ++ into_iter_items l.pass-iterator ≡ l.fn.passes.items;
  len : vec_len l.shares ≡ length l.yielded;
  room : length l.fn.passes.items ≤ vec_capacity l.shares;
  fresh : (claims : Claim) → All (λ p. p ≡ fresh_pass claims) l.fn.passes.items → All (IsFresh claims) l.shares.items;
}
