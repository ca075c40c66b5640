-- Each lane is its product up to a multiple of 2^32.
use Rattle.std.proofs.Common.{refl, ◌∙◌, arith, ◌*◌, ◌%◌}
use Rattle.std.proofs.lemmas.List.{length-map}
use Rattle.row_codes.proofs.LaneSums.{products_added, lanes_fit, lanes_long}
use Rattle.row_codes.proofs.lanes.products.Goals as goal

pub returns : goal.returns
returns c = record {
  value = products_added _ _ (λ n. refl) (λ n. refl) c.args.codes c.args.values c.fits-codes.1 c.requires.fits;
  lanes = lanes_long 16 _ _ _ (length-map c.args.codes _ ∙ c.requires.codes)
      (length-map _ _ ∙ length-map c.args.values _ ∙ c.requires.values);
  fits = lanes_fit (λ a b. (a * b) % 4294967296) (λ a b. omega arith) _ _;
}
