-- Each place written so far is the cut point of its number.
use Rattle.std.proofs.Common.{ℕ, ◌≡◌, ◌<◌, get_or, length}
use Rattle.segment_sums.specs.Division.{division_of, cut_place}
use Rattle.segment_sums.proofs.cuts.Cuts.new.Given as goal

abbrev pub invariant-loop-j : goal.invariant-loop-j
invariant-loop-j l = record {
  whole : length l.starts ≡ 17;
  written : (k : ℕ) → k < l.j → get_or l.starts k 0 ≡ cut_place (division_of l.n l.w) k;
}
