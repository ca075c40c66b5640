use Rattle.std.proofs.Common.{◌≡◌, ◌+◌, ◌++◌, take}
use Rattle.live_run.specs.Texts.{answer_lines}
use Rattle.live_run.proofs.text.push_answers.Given as goal

abbrev pub invariant-loop-pair : goal.invariant-loop-pair
invariant-loop-pair l = record {
  rank : l.rank ≡ l.pair-index + 1;
  text : l.text.items ≡ l.fn.text.items ++ answer_lines 1 (take l.pair-index l.pairs);
}
