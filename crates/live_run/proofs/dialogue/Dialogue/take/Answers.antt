use Rattle.std.proofs.Common.{refl, ap, ◌∙◌, subst}
use Rattle.std.specs.List.{flat_map}
use Rattle.std.proofs.Crossing.{crosses}
use Rattle.std.proofs.lemmas.Result.{err_from_is_err_and}
use denote.Exit.{no}
use denote.Param.Send.{IsSync, arg_send, param_send, sendable}
use Rattle.live_collection.specs.Histories.{appended}
use Rattle.live_collection.specs.Steps.{Appends}
use Rattle.live_collection.proofs.Sends.{writer_sends}
use Rattle.live_run.specs.Dialogues.{AsksAll, batches_seen}
use Rattle.live_run.specs.Texts.{file_queries}
use Rattle.live_run.proofs.Sends.{side_sends}
use Rattle.live_run.proofs.Taking.{all_seen, group_told, refuses_append, stands_limits, stands_more}
use Rattle.live_run.proofs.dialogue.Dialogue.take.Goals as goal

pub join-writer-requires-send-F : goal.join-writer-requires-send-F
join-writer-requires-send-F g c κs within =
    let runs : IsSync g.row.H = record { shared = c.type_bounds.sync-H.shared } in
    let gates : IsSync g.row.G = record { shared = c.type_bounds.sync-G.shared } in
    param_send 1 _ (arg_send _ no _ (side_sends _ g.row.H g.row.G runs gates _ _ _ _ _))

pub join-writer-requires-send-A : goal.join-writer-requires-send-A
join-writer-requires-send-A g c κs within = search (writer_sends, crosses, sendable) depth 60 fits 20000

pub returns-in_err-appended-clause-refused : goal.returns-in_err-appended-clause-refused
returns-in_err-appended-clause-refused g c =
    let s = c.args.self in
    let told = err_from_is_err_and c.from_residual.result c.from_residual.ensures.1 in
    let appends = subst (Appends s.live c.args.contents.batch s.writer c.join-writer.result.0.0) c.in_err-appended.was c.join-writer.ensures.first.1 in
    rw (told.1, told.2) (refuses_append s c.args.contents.batch c.join-writer.result.0.0 c.in_err-appended.field-0.0 c.requires.dialogue.writer appends)

pub returns-clause-takes : goal.returns-clause-takes
returns-clause-takes g c =
    let s = c.args.self in
    let k = s.live in
    let batch = c.args.contents.batch in
    let mid = c.join-writer.result.0.0 in
    let new = c.tell.new.writer in
    let later = c.tell.new.reader in
    let stands = subst (Appends k batch s.writer mid) c.in_ok-appended.was c.join-writer.ensures.first.1 in
    let told = c.tell.ensures in
    let writer = c.requires.dialogue.writer in
    let limits = stands_limits k batch s.writer mid new c.in_ok-appended.field-0 writer stands told.same.0 in
    let answered = subst (AsksAll k s.reader c.join-writer.result.1.0 c.args.contents.askings.items s.asked) c.in_ok-text.was
    c.join-writer.ensures.second in
    record {
      dialogue = record {
        writer = told.sides.0;
        reader = told.sides.1;
        readers = c.requires.dialogue.readers;
        number = told.same.2 ∙ c.join-writer.ensures.second.number ∙ c.requires.dialogue.number;
        empty = c.requires.dialogue.empty;
        room = c.requires.dialogue.room;
        points = c.requires.dialogue.points;
        seen = all_seen k batch s.writer mid new later c.in_ok-appended.field-0 writer stands told.same.0 told.reader.1;
      };
      points = refl;
      batch = stands.call.batch;
      series = stands.call.series;
      batches = ap appended told.same.0
          ∙ stands_more k batch s.writer mid c.in_ok-appended.field-0 writer stands;
      few = limits.0;
      fits = limits.1;
      asked = answered.next;
    }

pub returns-clause-text : goal.returns-clause-text
returns-clause-text g c =
    let s = c.args.self in
    let stands = subst (Appends s.live c.args.contents.batch s.writer c.join-writer.result.0.0) c.in_ok-appended.was
    c.join-writer.ensures.first.1 in
    let answered = subst (AsksAll s.live s.reader c.join-writer.result.1.0 c.args.contents.askings.items s.asked) c.in_ok-text.was
    c.join-writer.ensures.second in
    group_told s.live c.args.contents.batch s.writer c.join-writer.result.0.0 c.in_ok-appended.field-0 s.points s.asked
    (batches_seen s.reader) (batches_seen c.join-writer.result.1.0) (flat_map file_queries c.args.contents.askings.items)
    c.in_ok-text.field-0.text.items c.requires.dialogue.writer stands c.requires.dialogue.points c.requires.dialogue.seen
    c.tell.ensures.first answered.text
