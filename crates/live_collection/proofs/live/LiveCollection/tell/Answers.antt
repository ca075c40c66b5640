-- The appends that the reader had seen are among those that the writer then has seen, and these are its own.
use Rattle.std.proofs.Common.{sym, ap, ◌∙◌}
use Rattle.live_collection.specs.Histories.{appended}
use Rattle.live_collection.specs.Sides.{reader_saw}
use Rattle.turn_lock.specs.History.{calls_by}
use Rattle.live_collection.proofs.Takings.{appended_prefix, writer_appends}
use Rattle.live_collection.proofs.live.LiveCollection.tell.Goals as goal

pub returns-clause-first : goal.returns-clause-first
returns-clause-first c =
    let meet = c.meet.ensures in
    let before = appended_prefix (reader_saw c.args.reader.now) _ meet.heard in
    let own = writer_appends _ _ meet.legal in (
      before.0,
      before.1 ∙ own
          ∙ ap (λ n. appended (calls_by n c.meet.new.into.seat.me.0.seen)) (sym c.requires.writer.number)
          ∙ ap appended meet.own,
    )
