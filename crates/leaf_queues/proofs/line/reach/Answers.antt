use Rattle.std.proofs.Common.{sym, subst}
use Rattle.std.proofs.lemmas.List.Sorted.{IsPermutation-trans}
use Rattle.std.specs.List.Sorted.{IsPermutation}
use Rattle.leaf_queues.proofs.line.reach.Goals as goal
use Rattle.leaf_queues.proofs.line.reach.Goals.{in-Some, in-None}

pub returns-clause-permutation : goal.returns-clause-permutation
returns-clause-permutation c = elim c.match-buckets.branch [
  | in-Some w ↦ subst (λ l. IsPermutation l c.sort_first_bucket.new.entries) w.entries-is
      c.sort_first_bucket.ensures.permutation
  | in-None w ↦ IsPermutation-trans c.args.entries.now c.match-buckets.entries
      c.sort_first_bucket.new.entries (subst (λ l. IsPermutation c.args.entries.now l) (sym w.entries-is)
      w.deal-dealt.ensures.permutation)
      c.sort_first_bucket.ensures.permutation
]
