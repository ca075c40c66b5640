-- A function of nodes stands once its code meets its clauses: the last step of each proof by hand (`stands`).
use seplogic.Ra.Ura.{Ura}
use mir.Syntax.{Dict, Fn}
use prog.Model.{Model}
use prog.Routine.{Callee}
use prog.Wp.{Closed, Tables, WpFn}
use types.Logic.{Logic}
use contract.Running.{Running, tables, tables_of}
use denote.Triple.Carry.{grown, spared}
use denote.Triple.Clauses.{Clauses, Ended, closing}
use denote.Triple.Spec.{Meets, triple_of}
use denote.Triple.Statement.{Triple}
use denote.Triple.Table.{entered, run_framed}
use denote.Param.Laws.{Laws}
use denote.RattleType.{RattleType}
use Rattle.core.specs.declared.alloc.Allocator.{Ghosts}
use Rattle.std_alloc.proofs.BoxSteps.Form.{Bx}

-- a type of elements and one of handles, as the walks take them
abbrev pub boxed : (Y Z : RattleType) → Laws Y → Laws Z → Ghosts Z.Denot → (d drops : Dict) → Bx
boxed Y Z L LZ g d dd = record { row = Y; laws = L; al = record { row = Z; laws = LZ; g = g; d = d; drops = dd } }

module _ {M : Type 1} (𝓤 : Ura M) (𝓛 : Logic 𝓤) (𝓜 : Model 𝓤 𝓛.H) (𝓡 : Running 𝓤 𝓛.H 𝓜) where
  -- the tables of a run, as each proof reads them
  abbrev pub here : Tables 𝓤 𝓛.H
  here = tables_of 𝓤 𝓛.H 𝓜 (tables 𝓤 𝓛.H 𝓜 𝓡 𝓡.env)

  -- what meets its clauses over these tables stands in a run, also for all that its type parameters live
  pub stands : (E : Bx) (N : Ended) (s : Clauses 𝓤 N) (k : Callee) (e : Fn)
      → Closed 𝓤 𝓛.H (tables 𝓤 𝓛.H 𝓜 𝓡 𝓡.env).C (tables 𝓤 𝓛.H 𝓜 𝓡 𝓡.env).Λ k e
      → Meets 𝓛 N.signature (WpFn 𝓤 𝓛.H here.C here.Λ e) (closing 𝓛 N s)
      → Triple 𝓤 (𝓡.run (𝓡.env k)) (grown 𝓛 N.signature 2 (E.row.lives, (E.al.row.lives, tt)) (closing 𝓛 N s))
  unfolding tables_of
  stands E N s k e closed met =
      let c = closing 𝓛 N s in
      spared 𝓛 N.signature (𝓡.run (𝓡.env k)) (run_framed 𝓤 𝓛.H 𝓜 𝓡 (𝓡.env k)) 2 (E.row.lives, (E.al.row.lives, tt)) c
      (entered 𝓤 𝓛.H (triple_of 𝓛 N.signature c) here.C here.Λ k e closed met)
