-- The loop writes each cut point at its number, so that the places are all of them.
use Rattle.std.proofs.Common.{◌≢◌, ◌<◌, ◌∙◌, arith, length, get_or-set_other, get_or-set_same, below_more}
use Rattle.std.proofs.lemmas.List.{length-set}
use Rattle.segment_sums.specs.Division.{division_of}
use Rattle.segment_sums.proofs.Places.{cut_places_from}
use Rattle.segment_sums.proofs.cuts.Cuts.new.Goals as goal

pub loop-j-preserved : goal.loop-j-preserved
loop-j-preserved c =
    let inside : c.loop-j.j < length c.loop-j.starts = omega (arith, c.loop-j.invariant.whole) in
    record {
      whole = length-set _ _ _ ∙ c.loop-j.invariant.whole;
      written = below_more _ _
          (λ k before. let other : k ≢ c.loop-j.j =
          omega arith in rw get_or-set_other (c.loop-j.invariant.written k before))
          (rw get_or-set_same);
    }

pub invariant_of-result : goal.invariant_of-result
invariant_of-result c = (
  record {
    some_segments = c.requires.some_segments;
    few_segments = c.requires.few_segments;
    no_empty_segment = c.requires.no_empty_segment;
    short_row = c.requires.short_row;
  },
  cut_places_from (division_of c.args.n c.args.w) _ c.loop-j.invariant.whole
      (λ k inside. c.loop-j.invariant.written k (omega arith)),
)
