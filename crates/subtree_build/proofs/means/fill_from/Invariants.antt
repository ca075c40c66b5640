-- The members so far stand at their places.
use Rattle.std.proofs.Common.{◌≡◌, ℕ, ◌*◌, ◌<◌, [], get_or, take}
use Rattle.row_codes.specs.Rows.{block_count}
use Rattle.subtree_build.specs.Means.{all_codes, all_means}
use Rattle.subtree_build.proofs.means.fill_from.Given as goal

abbrev pub invariant-loop-i : goal.invariant-loop-i
invariant-loop-i g l = record {
  means : (k : ℕ) → k < l.i → get_or l.means k []
      ≡ get_or (all_means (g.R.Rows.collection l.fn.source.rows.now) l.fn.source.layout.now l.fn.members) k [];
  codes : take (l.i * block_count l.fn.source.coded) l.codes
      ≡ all_codes (g.R.Rows.collection l.fn.source.rows.now) (take l.i l.fn.members);
}
