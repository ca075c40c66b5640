use Rattle.std.proofs.Common.{◌≡◌, ◌-◌, ◌<◌, ◌≤◌, ℕ, length, get_or}
use Rattle.series_core.specs.declared.queue_words.Entry.{Entry}
use Rattle.leaf_queues.specs.Lines.{bucket_of}
use Rattle.leaf_queues.proofs.line.first_end.Given as goal

abbrev pub invariant-loop-end : goal.invariant-loop-end
invariant-loop-end l = record {
  some : 1 ≤ l.end;
  inside : l.end ≤ length l.entries;
  same : (i : ℕ) (d : Entry) → i < l.end → bucket_of l.buckets (get_or l.entries i d).bound ≡ l.bucket;
}

abbrev pub decreases-loop-end : goal.decreases-loop-end
decreases-loop-end l = length l.entries - l.end
