-- All that was left was scanned, so the list is the answer.
use Rattle.nearest_answer.proofs.LeavesLeft.{left_answered}
use Rattle.nearest_answer.proofs.by_leaves.finish.Goals as goal

pub returns : goal.returns
returns g c =
    left_answered c.requires.begun c.k-k.ensures.searched c.deref.ensures.value c.scan_entries.new.list
    c.scan_entries.ensures.list.1 c.scan_entries.ensures.met
