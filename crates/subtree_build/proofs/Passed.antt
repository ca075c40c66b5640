-- The passes of a team that was dismissed are of the claims that it drew from (`passes_own`), and there are some (`some_passes`).
use Rattle.std.proofs.Common.{◌≡◌, ◌<◌, List, length, map, ap, sym, subst, arith, All}
use Rattle.std.specs.Prelude.{vec_len}
use Rattle.std.specs.declared.alloc.Global.{Global}
use Rattle.std.specs.declared.vec.Vec.{Vec}
use Rattle.std.proofs.lemmas.List.{length-map}
use Rattle.std.proofs.lemmas.List.Elements.{All-map}
use Rattle.claim_word.specs.Passes.{Pass}
use Rattle.worker_team.specs.declared.worker.TeamWorker.{TeamWorker}

module _ {M : Type 0} (team : List (TeamWorker M)) (passes : List Pass) (are : passes ≡ map (λ w. w.pass) team) where
  -- what holds of each worker's pass holds of the passes
  pub passes_own : (P : Pass → Type 0) → All (λ w. P w.pass) team → All P passes
  passes_own P each =
      let Q : List Pass → Type 0 = λ ps. All P ps in
      subst Q (sym are) (All-map P (λ w. w.pass) team each)

-- a team with workers has passes when it is dismissed
pub some_passes : {M : Type 0} (team : Vec (TeamWorker M) Global) (passes : List Pass) → 0 < vec_len team
    → passes ≡ map (λ w. w.pass) team.items → 0 < length passes
some_passes team passes some of_team =
    omega (arith, some, team.ok.0, ap length of_team, length-map team.items (λ w. w.pass))
