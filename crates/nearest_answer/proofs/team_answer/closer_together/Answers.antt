-- The closest are leaves, each listed once, and where they were scanned the others are left.
use Rattle.nearest_answer.proofs.LeavesLeft.{closest_leaves, closest_once, others_left}
use Rattle.nearest_answer.proofs.team_answer.closer_together.Goals as goal

pub scan_together-requires-clause-leaves : goal.scan_together-requires-clause-leaves
scan_together-requires-clause-leaves g c κs within =
    closest_leaves c.requires.begun c.in_ok-closest.others.now c.as_mut_slice.ensures.value c.in_ok-closest.ensures
    c.deref.ensures.value

pub scan_together-requires-clause-once : goal.scan_together-requires-clause-once
scan_together-requires-clause-once g c κs within =
    closest_once c.requires.begun c.in_ok-closest.others.now c.as_mut_slice.ensures.value c.in_ok-closest.ensures
    c.deref.ensures.value

pub narrowed-requires : goal.narrowed-requires
narrowed-requires g c = record {
  left = others_left c.requires.begun c.in_ok-closest.others.now c.as_mut_slice.ensures.value c.in_ok-closest.ensures
      c.deref.ensures.value c.scan_together.new.list c.in_ok-scan_together.ensures.list c.in_ok-scan_together.ensures.met;
}
