use Rattle.std.proofs.Common.{◌≡◌, ◌≤◌, sym, subst, length, List, ◌∙◌}
use Rattle.std.specs.Prelude.{map, string_bytes}
use Rattle.live_script.specs.Grammar.{script_lines}
use Rattle.live_script.specs.declared.script.Group.{Group}
use Rattle.live_run.specs.Ends.{ended}
use Rattle.live_run.specs.Loads.{HoldsScript, most_bytes}
use Rattle.run_traffic.specs.Traffic.{read_from, wrote_to}
use Rattle.live_run.proofs.Loading.{ends_all, ends_later}
use Rattle.live_run.proofs.Running.{groups_end, script_few}
use Rattle.live_run.proofs.run.run.Goals as goal

pub run_groups-requires-clause-few : goal.run_groups-requires-clause-few
run_groups-requires-clause-few g c κs within =
    let holds = c.in_ok-script.ensures.holds in
    let same : c.deref.result.now ≡ c.in_ok-script.script = c.deref.ensures.value ∙ c.script.view_is in
    subst (λ (gs : List Group). length (script_lines gs) ≤ most_bytes) (sym same)
    (script_few c.in_ok-script.script holds.0 holds.1)

pub returns-clause-ends : goal.returns-clause-ends
returns-clause-ends g c =
    let whole = read_from g.F.Files c.args.files.now c.run_groups.new.files in
    let writing = wrote_to g.S.Sink c.args.out.now c.run_groups.new.out in
    let loaded = c.in_ok-script.ensures in
    let same : c.deref.result.now ≡ c.in_ok-script.script = c.deref.ensures.value ∙ c.script.view_is in
    let later = ends_later whole whole (g.F.Files.held c.load_script.new.files) (g.F.Files.faults c.load_script.new.files)
    (g.F.Files.misses c.load_script.new.files) (ends_all whole) loaded.kept loaded.counts.0 loaded.counts.1 in
    groups_end (map string_bytes c.args.words.now) whole writing c.in_ok-name.name.now c.deref.result.now (ended c.run_groups.result)
    c.in_ok-name.ensures.named
    (subst (λ (gs : List Group). HoldsScript whole.held c.in_ok-name.name.now gs) (sym same) loaded.holds)
    (c.run_groups.ensures.ends whole later)
