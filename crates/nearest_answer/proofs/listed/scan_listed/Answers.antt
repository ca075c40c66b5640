-- The entries that are scanned are those of the stretch.
use Rattle.std.proofs.Common.{List, subst}
use Rattle.series_core.specs.declared.queue_words.Entry.{Entry}
use Rattle.search_task.specs.Questions.{ground_of}
use Rattle.nearest_answer.specs.NearLeaves.{leaves_in}
use Rattle.nearest_answer.proofs.LeavesLeft.{Scans}
use Rattle.nearest_answer.proofs.ListedLeaves.{cut_out}
use Rattle.nearest_answer.proofs.listed.scan_listed.Goals as goal

pub returns-clause-met : goal.returns-clause-met
returns-clause-met g c =
    let n = c.args.number in
    let es = c.args.entries.now in
    subst (λ (ds : List Entry). Scans (ground_of c.args.search.now) (leaves_in ds) c.args.list.now.pairs c.scan_entries.new.list.pairs)
    (cut_out es n c.min.result c.requires.number c.min.ensures) c.scan_entries.ensures.met
