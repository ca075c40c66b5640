use Rattle.std.proofs.Common.{◌≡◌, ◌+◌, ◌++◌, ap, ◌∙◌, length, append_assoc, arith}
use Rattle.live_collection.specs.Histories.{standing}
use Rattle.live_collection.specs.Sides.{points_of, reader_saw}
use Rattle.live_run.specs.Replies.{batches_text}
use Rattle.live_run.specs.Dialogues.{batches_seen}
use Rattle.live_run.specs.Texts.{query_text}
use Rattle.live_run.proofs.Asked.{ends_prefix, query_more}
use Rattle.live_run.proofs.answering.answer_file.Goals as goal

pub loop-i-preserved : goal.loop-i-preserved
loop-i-preserved g c =
    let inv = c.loop-i.invariant in
    let n = points_of c.args.live.now in
    let file = c.args.file.now in
    let reply = c.in_ok-reply.reply in
    let next = batches_seen c.ask.new.reader in
    let seen = reader_saw c.ask.new.reader in
    let v = c.row-query.result.now in
    let pre = ends_prefix (reader_saw c.loop-i.reader) seen _ c.in_ok-reply.ensures.asks.1.seen in
    let piece = batches_text n (c.args.first + c.loop-i.i) next (record { values = v; k = file.k }) in
    let same : query_text (c.args.first + c.from.result) reply.count reply.pairs ≡ piece
    = ap (λ m. query_text (c.args.first + m) reply.count reply.pairs) c.from.ensures
    ∙ ap (λ m. query_text (c.args.first + c.loop-i.i) m reply.pairs) c.in_ok-reply.ensures.count
    ∙ ap (query_text (c.args.first + c.loop-i.i) (length (standing seen))) c.in_ok-reply.ensures.pairs in
    record {
      reader = c.in_ok-reply.ensures.reader;
      number = c.in_ok-reply.ensures.asks.1.number ∙ inv.number;
      told = (
        inv.told.0 ++ piece,
        query_more n c.args.first c.loop-i.i (batches_seen c.args.reader.now) (batches_seen c.loop-i.reader) next file v inv.told.0
            (omega (arith, c.loop-i-test.true, c.count-i-end.ensures.count)) c.row-query.ensures inv.told.1 pre,
        c.in_ok-push_query.ensures ∙ ap (λ t. c.loop-i.text.items ++ t) same
            ∙ ap (λ t. t ++ piece) inv.told.2 ∙ append_assoc c.args.text.now.items inv.told.0 piece,
      );
    }
