use Rattle.std.proofs.Common.{◌≡◌, ℕ, ◌++◌, List, take}
use Rattle.live_collection.specs.Sides.{IsReaderOf, points_of}
use Rattle.live_run.specs.Replies.{IsAskedText}
use Rattle.live_run.specs.Dialogues.{batches_seen}
use Rattle.live_run.specs.Texts.{file_queries}
use Rattle.live_run.proofs.answering.answer_file.Given as goal

abbrev pub invariant-loop-i : goal.invariant-loop-i
invariant-loop-i g l = record {
  reader : IsReaderOf l.live l.reader;
  number : l.reader.pass.number ≡ l.fn.reader.pass.number;
  told : (more : List ℕ) × IsAskedText (points_of l.live) l.first (batches_seen l.fn.reader)
      (take l.i (file_queries l.file)) more (batches_seen l.reader) × (l.text.items ≡ l.fn.text.items ++ more);
}
