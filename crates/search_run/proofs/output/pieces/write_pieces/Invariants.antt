use Rattle.std.proofs.Common.{ℕ, List, take}
use Rattle.search_run.specs.Texts.{IsMade, IsTextOf}
use Rattle.search_run.proofs.Writing.{Going}
use Rattle.search_run.proofs.output.pieces.write_pieces.Given as goal

abbrev pub invariant-loop-i : goal.invariant-loop-i
invariant-loop-i g l = (done : List ℕ)
    × IsTextOf (IsMade (goal.P-post g l.piece_of) l.context) (take l.i (g.Q.Rows.collection l.queries).series) done
    × Going g.S.Sink l.fn.out l.out done
