-- The costs added so far and those of the rest of the full word make its bound.
use Rattle.std.proofs.Common.{◌≡◌, ◌+◌, drop}
use Rattle.lower_bound.specs.Bound.{parts_bound, word_bound, eight_bit_word}
use Rattle.lower_bound.proofs.view.QueryView.bound_full.Given as goal

abbrev pub invariant-loop-j : goal.invariant-loop-j
invariant-loop-j l =
    l.bound + parts_bound l.self l.j (eight_bit_word (drop l.j l.full))
    ≡ word_bound l.self (eight_bit_word l.full)
