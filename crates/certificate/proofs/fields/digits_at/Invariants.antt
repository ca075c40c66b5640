use Rattle.std.proofs.Common.{◌≡◌, ◌+◌, take, drop, true}
use Rattle.std.specs.List.{list_all, prefix_len}
use Rattle.std.specs.Char.{is_ascii_digit}
use Rattle.certificate.proofs.fields.digits_at.Given as goal

abbrev pub invariant-loop-i : goal.invariant-loop-i
invariant-loop-i l = record {
  size : prefix_len is_ascii_digit l.text ≡ l.i + prefix_len is_ascii_digit (drop l.i l.text);
  digits : list_all is_ascii_digit (take l.i l.text) ≡ true;
}
