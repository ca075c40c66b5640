use Rattle.std.proofs.Common.{rules, ◌≡◌, refl, get_or, sym, subst, ◌∙◌, arith}
use Rattle.outside.specs.Count.{Rose-wider}
use Rattle.live_script.specs.declared.script.Group.{Group}
use Rattle.live_run.specs.Ends.{GroupsEnd}
use Rattle.live_run.specs.Groups.{HoldsGroup, RefusesGroup, want_of}
use Rattle.live_run.specs.Dialogues.{IsTextOfGroup}
use Rattle.run_traffic.specs.Traffic.{read_from, wrote_to}
use Rattle.live_run.specs.declared.status.LiveStatus.TheVariants.{Memory, WriteFault}
use Rattle.live_run.proofs.Loading.{ends_later}
use Rattle.live_run.proofs.State.{asked_few, behind_fault, behind_more, behind_stops, by_status, next_at}
use Rattle.live_run.proofs.Stopping.{refused_stops, refuses_stops, wanted}
use Rattle.live_run.proofs.groups.run_groups.Goals as goal

pub returns-in_err-contents-clause-ends : goal.returns-in_err-contents-clause-ends
returns-in_err-contents-clause-ends g c whole ends =
    let inv = c.loop-at.invariant in
    let cs = inv.behind.contents in
    let at = c.loop-at.at in
    let group = c.index-groups-at.result in
    let same : group ≡ get_or c.args.groups.now at group = search (rules, c.index-groups-at.is) in
    let part = read_from g.F.Files c.args.files.now c.load_group.new.files in
    let later = ends_later whole part (g.F.Files.held c.loop-at.files) (g.F.Files.faults c.loop-at.files)
    (g.F.Files.misses c.loop-at.files) ends inv.kept inv.faults inv.misses in
    let writing = wrote_to g.S.Sink c.args.out.now c.loop-at.out in
    let want = c.length_of.ensures ∙ wanted cs c.loop-at.dialogue inv.behind.stands in
    let status = c.in_err-contents.field-0.0 in
    let refused = subst (λ (x : Group). RefusesGroup whole (want_of cs) x status) same
    (subst (λ w. RefusesGroup whole w group status) want (c.in_err-contents.ensures.refused whole later)) in
    by_status (GroupsEnd whole writing c.args.groups.now) c.from_residual.result status c.from_residual.ensures.1
    (behind_stops whole writing (g.F.Files.held c.args.files.now) ends.held c.args.groups.now at group
    c.loop-at.dialogue (g.S.Sink.written c.loop-at.out) status c.loop-at-test.true inv.behind
    (λ rest. refuses_stops whole cs (get_or c.args.groups.now at group) rest status refused) refl)

pub returns-in_err-current-clause-ends : goal.returns-in_err-current-clause-ends
returns-in_err-current-clause-ends g c whole ends =
    let writing = wrote_to g.S.Sink c.args.out.now c.loop-at.out in
    by_status (GroupsEnd whole writing c.args.groups.now) c.from_residual-in_err-current.result Memory
    c.from_residual-in_err-current.ensures.1
    (behind_stops whole writing (g.F.Files.held c.args.files.now) ends.held c.args.groups.now c.loop-at.at
    c.index-groups-at.result c.loop-at.dialogue (g.S.Sink.written c.loop-at.out) Memory c.loop-at-test.true
    c.loop-at.invariant.behind (λ rest. tt) refl)

pub take-requires-clause-numbers : goal.take-requires-clause-numbers
take-requires-clause-numbers g c κs within =
    let next = next_at c.loop-at.invariant.behind.contents c.loop-at.dialogue c.args.groups.now c.loop-at.at
    c.index-groups-at.result (search (rules, c.index-groups-at.is)) c.loop-at.invariant.kept c.length_of.ensures
    c.length-points.ensures.length c.loop-at.invariant.behind.stands c.in_ok-contents.ensures.holds c.in_ok-current.ensures in
    let behind = c.loop-at.invariant.behind in
    let few = asked_few c.args.groups.now c.loop-at.at c.index-groups-at.result behind.contents c.in_ok-contents.contents
    (g.F.Files.held c.args.files.now) (want_of behind.contents) c.in_ok-contents.contents.batch.points c.loop-at-test.true
    c.requires.few behind.few next.holds c.in_ok-contents.ensures.askable in
    let asked = next.has.asked in
    omega arith

pub returns-in_err-next-clause-ends : goal.returns-in_err-next-clause-ends
returns-in_err-next-clause-ends g c whole ends =
    let next = next_at c.loop-at.invariant.behind.contents c.loop-at.dialogue c.args.groups.now c.loop-at.at
    c.index-groups-at.result (search (rules, c.index-groups-at.is)) c.loop-at.invariant.kept c.length_of.ensures
    c.length-points.ensures.length c.loop-at.invariant.behind.stands c.in_ok-contents.ensures.holds c.in_ok-current.ensures in
    let writing = wrote_to g.S.Sink c.args.out.now c.loop-at.out in
    let status = c.in_err-next.field-0.0 in
    let at = get_or c.args.groups.now c.loop-at.at c.index-groups-at.result in
    let cs = c.loop-at.invariant.behind.contents in
    let contents = c.in_ok-contents.contents in
    let holds = subst (λ h. HoldsGroup h (want_of cs) at contents) ends.held next.holds in
    by_status (GroupsEnd whole writing c.args.groups.now) c.from_residual-in_err-next.result status
    c.from_residual-in_err-next.ensures.1
    (behind_stops whole writing (g.F.Files.held c.args.files.now) ends.held c.args.groups.now c.loop-at.at
    c.index-groups-at.result c.loop-at.dialogue (g.S.Sink.written c.loop-at.out) status c.loop-at-test.true
    c.loop-at.invariant.behind
    (λ rest. refused_stops whole cs at rest contents c.in_ok-current.current status next.has holds
    c.in_err-next.ensures.refused) refl)

pub returns-in_err-write_whole-clause-ends : goal.returns-in_err-write_whole-clause-ends
returns-in_err-write_whole-clause-ends g c whole ends =
    let next = next_at c.loop-at.invariant.behind.contents c.loop-at.dialogue c.args.groups.now c.loop-at.at
    c.index-groups-at.result (search (rules, c.index-groups-at.is)) c.loop-at.invariant.kept c.length_of.ensures
    c.length-points.ensures.length c.loop-at.invariant.behind.stands c.in_ok-contents.ensures.holds c.in_ok-current.ensures in
    let took = c.in_ok-next.ensures in
    let failed = c.in_err-write_whole.ensures in
    let writing = wrote_to g.S.Sink c.args.out.now c.write_whole.new.sink in
    by_status (GroupsEnd whole writing c.args.groups.now) c.from_residual-in_err-write_whole.result WriteFault
    c.from_residual-in_err-write_whole.ensures.1
    (behind_fault whole writing (g.F.Files.held c.args.files.now) ends.held c.args.groups.now c.loop-at.at
    c.index-groups-at.result c.loop-at.dialogue c.in_ok-current.current c.in_ok-next.next c.in_ok-contents.contents
    c.deref.result.now (g.S.Sink.written c.loop-at.out) c.loop-at-test.true c.loop-at.invariant.behind next.has next.points
    next.holds took.takes (subst (IsTextOfGroup c.in_ok-current.current c.in_ok-contents.contents) (sym c.deref.ensures.value) took.text)
    failed.prefix (Rose-wider c.loop-at.invariant.lost failed.failed (omega arith)))

pub loop-at-preserved : goal.loop-at-preserved
loop-at-preserved g c =
    let next = next_at c.loop-at.invariant.behind.contents c.loop-at.dialogue c.args.groups.now c.loop-at.at
    c.index-groups-at.result (search (rules, c.index-groups-at.is)) c.loop-at.invariant.kept c.length_of.ensures
    c.length-points.ensures.length c.loop-at.invariant.behind.stands c.in_ok-contents.ensures.holds c.in_ok-current.ensures in
    let inv = c.loop-at.invariant in
    let had = c.in_ok-contents.ensures in
    let wrote = c.in_ok-write_whole.ensures in
    let took = c.in_ok-next.ensures in
    let current = c.in_ok-current.current in
    let contents = c.in_ok-contents.contents in
    record {
      kept = had.kept ∙ inv.kept;
      faults = let f = had.counts.0 in let h = inv.faults in omega arith;
      misses = let f = had.counts.1 in let h = inv.misses in omega arith;
      lost = let f = wrote.counts in let h = inv.lost in omega arith;
      behind = behind_more (g.F.Files.held c.args.files.now) c.args.groups.now c.loop-at.at c.index-groups-at.result
          c.loop-at.dialogue current c.in_ok-next.next contents _ c.deref.result.now (g.S.Sink.written c.args.out.now)
          (g.S.Sink.written c.loop-at.out) (g.S.Sink.written c.write_whole.new.sink) c.loop-at-test.true inv.behind next.has
          next.points next.holds had.askable took.takes
          (subst (IsTextOfGroup current contents) (sym c.deref.ensures.value) took.text) wrote.ok;
    }
