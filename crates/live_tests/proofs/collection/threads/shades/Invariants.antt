-- Four values a series.
use Rattle.std.proofs.Common.{◌≡◌, ◌*◌, vec_len}
use Rattle.live_tests.proofs.collection.threads.shades.Given as goal

abbrev pub invariant-loop-place : goal.invariant-loop-place
invariant-loop-place l = vec_len l.values ≡ l.place * 4
