-- A block that was written whole is a node, and keeps the way back to a whole block.
use mathlib.Core.Path.{refl}
use Prim.Native.Nat.{ℕ, ◌+◌}
use mathlib.Core.List.{[], ◌∷◌}
use seplogic.Ra.Ura.{Ura}
use base.Fraction.{full_share}
use mir.Syntax.{Tys, Sym, ty_ptr, ty_struct, tcons, tnil}
use mir.Val.{Val, Vals, vstruct, vcons, vnil}
use mir.Raw.{raw as bare}
use base.Logic.{SProp, ent, sep, all, wand, via, mono_r, apply∗}
use base.Fml.{ftrue, fat, froom}
use prog.Model.{fields_at, rooms_at}
use types.Logic.{Logic, sem}
use contract.Monad.{conj_r}
use types.Kit.{‵, raw, ◌⊛◌, ◌$◌, ◌∵◌, !, qed, by, move, keep, use1, use2, group, split, split3, assume, fjoin3, done}
use denote.Memory.{part_at}
use denote.RawPtr.{Ptr, block_ptr, ptr_val}
use denote.Steps.{nothing}
use borrow.Table.OneValue.{part_in}
use Rattle.core.proofs.alloc.Calls.{α, token}
use Rattle.std_alloc.proofs.RawLayout.{as_written}
use Rattle.std_alloc.proofs.BoxSteps.Form.{Bx, X, τ, own, R, P}
use Rattle.std_alloc.proofs.BoxSteps.Steps.{el_in}
use Rattle.block_list.specs.Ownership.{fields_rejoin}
use Rattle.block_list.proofs.Steps.{node_val, pointer, Hd, eo, ho, block_ty, One, one_closes}

module _ (E : Bx) {M : Type 1} {𝓤 : Ura M} (𝓛 : Logic 𝓤) (ν : Sym) (b o : ℕ) where
  open 𝓛 use {H}

  -- the fields of a node
  abbrev fields : Tys
  fields = tcons ty_ptr (tcons (τ E) (tcons (α E.al) tnil))

  -- that they make the block, given back empty
  abbrev Joins : SProp 𝓤
  Joins = wand 𝓤 (rooms_at 𝓤 H fields 0 b o) (H.room (ty_struct ν fields) b o)

  -- which is the way back that a node keeps
  rejoins : ent 𝓤 Joins (sem 𝓛 (fields_rejoin (R E) (P E) (block_ptr b o)))
  rejoins =
      qed 𝓛 (raw Joins ∷ []) ∵
      assume ! (‵ (froom ty_ptr b (o + 0)) ⊛ ‵ (froom (bare (τ E)) b (o + eo E))
      ⊛ ‵ (froom (bare (α E.al)) b (o + ho E))) $ split3 ! $
      move ! (1 ∷ []) $ as_written ! (τ E) b (o + eo E) $ move ! (2 ∷ []) $ as_written ! (α E.al) b (o + ho E)
      $ nothing ! $
      -- [nothing; the handle's room; the element's; `next`'s; the way]
      move ! (3 ∷ 2 ∷ 1 ∷ 0 ∷ []) $ group ! 4 $
      use2 𝓛 (‵ (froom (ty_struct ν fields) b o)) (apply∗ 𝓤 (rooms_at 𝓤 H fields 0 b o) (H.room (ty_struct ν fields) b o)) $
      by ! (𝓛.laws.room-raw (ty_struct ν fields) b o)

  -- a block that was written whole is a node
  pub node_made : (n : Ptr) (h : Hd E) (x : X E) (v hv : Val)
      → ent 𝓤 (sep 𝓤 (H.at full_share (ty_struct ν fields) b o (node_val n v hv)) (sep 𝓤
      (sem 𝓛 (token E.al h (block_ty E) (block_ptr b o))) (sep 𝓤 (sem 𝓛 (E.al.row.own_val h (hv ∷ [])))
      (sem 𝓛 (own E x (v ∷ []))))))
      (sem 𝓛 (One E ((block_ptr b o, n), h) x))
  node_made n h x v hv =
      let vs : Vals = vcons (ptr_val n) (vcons v (vcons hv vnil)) in
      qed 𝓛 (‵ (fat full_share (ty_struct ν fields) b o (node_val n v hv))
      ∷ ‵ (token E.al h (block_ty E) (block_ptr b o)) ∷ ‵ (E.al.row.own_val h (hv ∷ []))
      ∷ ‵ (own E x (v ∷ [])) ∷ []) ∵
      use1 𝓛 ((‵ (pointer b (o + 0) n) ⊛ ‵ (fat full_share (τ E) b (o + eo E) v)
      ⊛ ‵ (fat full_share (α E.al) b (o + ho E) hv) ⊛ ‵ ftrue) ⊛ raw Joins)
      (via 𝓤 _ (𝓛.laws.at_fields_free ν fields b o vs) (mono_r 𝓤 (fields_at 𝓤 H full_share fields 0 b o vs)
      (conj_r 𝓤 (all 𝓤 (λ (ws : Vals). wand 𝓤 (fields_at 𝓤 H full_share fields 0 b o ws) (H.at full_share (ty_struct ν fields) b o (vstruct ws)))) Joins))) $
      split ! $ split3 ! $ move ! (2 ∷ []) $ split ! $
      -- [the handle's cell; nothing; `next`; the element's cell; the way; the token; the handle; the element]
      move ! (0 ∷ 6 ∷ []) $ use2 𝓛 (‵ (part_at (P E) full_share h b (o + ho E))) (part_in 𝓛
      (P E) refl full_share h b (o + ho E) hv) $ move ! (4 ∷ []) $
      use1 𝓛 (‵ (fields_rejoin (R E) (P E) (block_ptr b o))) rejoins $
      -- [the way back; the handle's part; nothing; `next`; the element's cell; the token; the element]
      move ! (1 ∷ 5 ∷ 0 ∷ []) $ fjoin3 ! $ move ! (3 ∷ 4 ∷ []) $
      use2 𝓛 (‵ (part_at (R E) full_share x b (o + eo E))) (el_in E 𝓛 x b (o + eo E) v) $ keep ! (0 ∷ 3 ∷ 1 ∷ [])
      $ one_closes E ! b o n h x $ done !
