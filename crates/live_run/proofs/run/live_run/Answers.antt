use Rattle.std.proofs.Common.{sym, subst}
use Rattle.std.specs.Prelude.{map, string_bytes}
use Rattle.live_run.specs.Ends.{IsAnswered, ended}
use Rattle.run_traffic.specs.Traffic.{read_from, wrote_to}
use Rattle.live_run.proofs.Completing.{run_answered}
use Rattle.live_run.proofs.run.live_run.Goals as goal

pub returns-clause-complete : goal.returns-clause-complete
returns-clause-complete g c can =
    let reading = read_from g.F.Files c.args.files.now c.run.new.files in
    let writing = wrote_to g.S.Sink c.args.out.now c.run.new.out in
    subst (λ s. IsAnswered reading.faults reading.later writing.faults writing.later s) (sym c.ended-status.ensures)
    (run_answered (map string_bytes c.args.words.now) reading writing (ended c.run.result) c.run.ensures.ends can)
