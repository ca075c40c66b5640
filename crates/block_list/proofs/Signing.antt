-- The signatures of the functions of nodes, which order no lifetimes: what they take and what they give (`signed`).
use Prim.Native.Nat.{ℕ}
use mathlib.Core.List.{List, [], ◌∷◌}
use contract.Lifetimes.{Within}
use denote.Builtin.{RefMutOf}
use denote.RattleType.{RattleType}
use denote.Signature.{Signature, Slot, plain}
use Rattle.std_alloc.proofs.BoxSteps.Form.{Bx, R, P}
use Rattle.std_alloc.proofs.OfVacant.{Vacant}
use Rattle.block_list.specs.contracts.nodes.Node as Block
use Rattle.block_list.proofs.Steps.{Nr}

-- a function of n lifetimes
abbrev pub signed : (n : ℕ) → List (Slot n) → Slot n → Signature
signed n takes gives = record { lifetimes = n; outlives = []; params = takes; result = gives }

module _ (E : Bx) where
  -- a `&mut` to nodes, for lifetime number j
  abbrev pub to_nodes : {n : ℕ} (j : ℕ) → Within n j → Slot n
  to_nodes j ok = RefMutOf (j ∷ []) ok (plain (λ _. Nr E)) (λ _. tt)

  -- a node, and the room for one
  abbrev pub Node : RattleType
  Node = Block.the_row (R E) (P E)

  abbrev pub Room : RattleType
  Room = Vacant E.al Node
