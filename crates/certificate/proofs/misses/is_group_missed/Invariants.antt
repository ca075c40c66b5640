use Rattle.std.proofs.Common.{◌≡◌, ◌<◌, ℕ, [], Some}
use Rattle.std.specs.Prelude.{slice_get, slice_index_or}
use Rattle.certificate.specs.declared.block.Block.{Block}
use Rattle.certificate.specs.Verdict.{last_answer}
use Rattle.certificate.specs.Missing.{MissesNoneOf}
use Rattle.certificate.proofs.misses.is_group_missed.Given as goal

abbrev pub invariant-loop-b : goal.invariant-loop-b
invariant-loop-b g l = (i : ℕ) (block : Block) → i < l.b → slice_get l.blocks i ≡ Some block
    → MissesNoneOf (g.R.Rows.collection l.rows) (slice_index_or (g.Q.Rows.collection l.queries).series i [])
    (last_answer (g.R.Rows.collection l.rows) l.k block.answers) block.answers l.first l.end
