use Rattle.std.proofs.Common.{◌≡◌, ◌-◌, length}
use Rattle.certificate.specs.Fields.{all_parts_at, parts_at, with_front}
use Rattle.certificate.proofs.words.parts.Given as goal

abbrev pub invariant-loop : goal.invariant-loop
invariant-loop l = record {
  rest : all_parts_at l.fn.segments l.fn.text ≡ with_front l.parts (parts_at (l.fn.segments - l.counter) l.rest);
  size : length l.parts ≡ l.counter;
}
