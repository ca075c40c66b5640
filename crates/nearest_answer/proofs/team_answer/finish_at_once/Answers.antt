-- What is left is listed once; and all of it was scanned, so the list is the answer.
use Rattle.std.proofs.Common.{◌≤◌, ℕ, List, sym, subst, arith}
use Rattle.list_totals.specs.Totals.{times}
use Rattle.list_totals.proofs.Totals.{times_append}
use Rattle.series_core.specs.declared.queue_words.Entry.{Entry}
use Rattle.nearest_answer.specs.NearLeaves.{leaves_in}
use Rattle.nearest_answer.proofs.LeavesLeft.{left_answered}
use Rattle.nearest_answer.proofs.team_answer.finish_at_once.Goals as goal

pub scan_together-requires-clause-once : goal.scan_together-requires-clause-once
scan_together-requires-clause-once g c κs within =
    let was = c.requires.begun.left in
    subst (λ (es : List Entry). (l : ℕ) → times l (leaves_in es) ≤ 1) (sym c.deref.ensures.value)
    (λ l.
    let most = was.1.once l in
    let both = times_append l was.0 (leaves_in c.args.begun.left.items) in
    omega (arith, most, both))

pub returns : goal.returns
returns g c =
    left_answered c.requires.begun c.k-k.ensures.searched c.deref.ensures.value c.scan_together.new.list
    c.in_ok-scan_together.ensures.list.1 c.in_ok-scan_together.ensures.met
