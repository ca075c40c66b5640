use Rattle.std.proofs.Common.{◌≡◌, ◌≤◌, length, sym, subst}
use Rattle.live_script.specs.Answers.{IsRightError}
use Rattle.live_run.specs.Loads.{most_bytes}
use Rattle.run_traffic.specs.Named.{HoldsBytes}
use Rattle.live_run.proofs.Loading.{line_fault}
use Rattle.live_run.proofs.script_file.load_script.Goals as goal

pub returns-in-Err-Line-clause-refused : goal.returns-in-Err-Line-clause-refused
returns-in-Err-Line-clause-refused g c =
    let held = g.F.Files.held c.args.files.now in
    let same = c.deref.ensures.value in
    line_fault held c.args.name.now c.deref.result.now c.in-Err-Line.at
    (subst (λ b. length b ≤ most_bytes) (sym same) c.in_ok-bytes.ensures.short)
    (subst (λ b. HoldsBytes held c.args.name.now (λ x. x ≡ b)) (sym same) c.in_ok-bytes.ensures.holds)
    (subst (IsRightError c.deref.result.now) c.in-Err-Line.field-0-is c.in-Err-Line.ensures.error)
