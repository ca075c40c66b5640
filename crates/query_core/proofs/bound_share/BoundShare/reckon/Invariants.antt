use Rattle.std.proofs.Common.{◌≡◌, ◌+◌, ◌≤◌, vec_capacity, vec_len}
use Rattle.query_core.specs.BoundShares.{AreBounds}
use Rattle.query_core.proofs.bound_share.BoundShare.reckon.Given as goal

abbrev pub invariant-loop-leaf : goal.invariant-loop-leaf
invariant-loop-leaf l = record {
  first : l.self-inside.first ≡ l.fn.self.first;
  end : l.self-inside.end ≡ l.fn.self.end;
  place : l.leaf ≡ l.self-inside.first + vec_len l.self-inside.bounds;
  room : l.self-inside.end ≤ l.self-inside.first + vec_capacity l.self-inside.bounds;
  bounds : AreBounds l.view l.index (record l.fn.self { bounds = l.self-inside.bounds.items });
}
