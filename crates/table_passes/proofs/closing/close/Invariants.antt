-- The seat has taken in all passes but those that are left.
use Rattle.std.proofs.Common.{◌≡◌, [], All, vec_len}
use Rattle.table_passes.proofs.Gathering.{Gathered}
use Rattle.table_passes.proofs.closing.close.Given as goal

abbrev pub invariant-loop-pass : goal.invariant-loop-pass
invariant-loop-pass g l = record {
  same : l.seat.table_id ≡ l.table.shared.table_id;
  slots : l.seat.me.1 ≡ [];
  table : All (λ p. g.P.TablePass.table p ≡ l.table.shared.table_id) l.passes.items;
  gathered :
      Gathered (g.P.TablePass.seen l.table.shared.table_id) g.P.TablePass.own g.J.Join.both
      l.fn.passes.items l.passes.items l.seat.me.0;
}

abbrev pub decreases-loop-pass : goal.decreases-loop-pass
decreases-loop-pass g l = vec_len l.passes
