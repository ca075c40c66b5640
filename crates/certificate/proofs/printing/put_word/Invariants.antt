use Rattle.std.proofs.Common.{◌≡◌, ◌+◌, ◌-◌, ◌*◌, ◌≤◌, ◌++◌, length, drop}
use Rattle.certificate.specs.Spelling.{parts_text}
use Rattle.certificate.proofs.printing.put_word.Given as goal

abbrev pub invariant-loop-put : goal.invariant-loop-put
invariant-loop-put l = record {
  text : l.tail ≡ parts_text (drop (l.segments - l.put) l.word) ++ l.fn.tail;
  room : length l.tail ≤ length l.fn.tail + 8 * l.put;
}
