-- No other number is the root.
use Rattle.std.proofs.Common.{◌+◌, sym, arith}
use Rattle.row_codes.proofs.RootLemmas.{root_is, root_less}
use Rattle.row_codes.proofs.roots.root_of.Goals as goal

pub loop-root-2-init : goal.loop-root-2-init
loop-root-2-init c = record {
  low = omega (arith, c.loop-root-test.false);
  small = root_less c.loop-root.root 2147483648 (omega (arith, c.loop-root-test.false, c.requires));
}

pub loop-root-2-preserved : goal.loop-root-2-preserved
loop-root-2-preserved c = record {
  low = omega (arith, c.loop-root-2-test.true);
  small = root_less (c.loop-root-2.root + 1) 2147483648 (omega (arith, c.loop-root-2-test.true, c.requires));
}

pub returns-clause-value : goal.returns-clause-value
returns-clause-value c =
    sym (root_is c.args.n c.loop-root-2.root c.loop-root-2.invariant.low (omega (arith, c.loop-root-2-test.false)))
