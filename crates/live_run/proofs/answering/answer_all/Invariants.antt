use Rattle.std.proofs.Common.{◌≡◌, ◌+◌, take, length}
use Rattle.std.specs.List.{flat_map}
use Rattle.live_collection.specs.Sides.{IsReaderOf, points_of}
use Rattle.live_run.specs.Replies.{IsAskedText}
use Rattle.live_run.specs.Dialogues.{batches_seen}
use Rattle.live_run.specs.Texts.{file_queries}
use Rattle.live_run.proofs.answering.answer_all.Given as goal

abbrev pub invariant-loop-file : goal.invariant-loop-file
invariant-loop-file g l = record {
  reader : IsReaderOf l.live l.reader;
  number : l.reader.pass.number ≡ l.fn.reader.pass.number;
  told : IsAskedText (points_of l.live) l.first (batches_seen l.fn.reader)
      (flat_map file_queries (take l.file-index l.askings)) l.text.items (batches_seen l.reader);
  next : l.next ≡ l.first + length (flat_map file_queries (take l.file-index l.askings));
}
