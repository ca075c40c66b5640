-- The closest are leaves, and where they were scanned the others are left.
use Rattle.nearest_answer.proofs.LeavesLeft.{closest_leaves, others_left}
use Rattle.nearest_answer.proofs.by_leaves.begin_by_leaves.Goals as goal

pub scan_entries-requires-clause-leaves : goal.scan_entries-requires-clause-leaves
scan_entries-requires-clause-leaves g c =
    closest_leaves c.in_ok-listed.ensures c.in_ok-closest.others.now c.as_mut_slice.ensures.value c.in_ok-closest.ensures
    c.deref.ensures.value

pub narrowed-requires : goal.narrowed-requires
narrowed-requires g c = record {
  left = others_left c.in_ok-listed.ensures c.in_ok-closest.others.now c.as_mut_slice.ensures.value c.in_ok-closest.ensures
      c.deref.ensures.value c.scan_entries.new.list c.scan_entries.ensures.list c.scan_entries.ensures.met;
}
