-- Each lane is its sum up to a multiple of 2^32.
use Rattle.std.proofs.Common.{sym, ◌∙◌, ◌+◌, ◌%◌, arith}
use Rattle.std.proofs.lemmas.List.{length-map}
use Rattle.row_codes.proofs.LaneSums.{sums_added, lanes_fit, lanes_long}
use Rattle.row_codes.proofs.lanes.added.Goals as goal

pub returns : goal.returns
returns c = record {
  value = sums_added c.args.a c.args.b (c.requires.a_lanes ∙ sym c.requires.b_lanes) c.requires.a_fits c.requires.b_fits;
  fits = lanes_fit (λ a b. (a + b) % 4294967296) (λ a b. omega arith) _ _;
  lanes = lanes_long 8 _ _ _ (length-map c.args.a _ ∙ c.requires.a_lanes) (length-map c.args.b _ ∙ c.requires.b_lanes);
}
