-- A handle as a machine value: its pointer and its allocator fit its type (`handle_fits`), and what it owns is put into it (`handle_in`)
-- and taken out of it (`handle_out`).
use Rattle.std.proofs.Common.{◌≡◌, List, [], ◌∷◌, refl}
use Rattle.std.specs.Prelude.{Option}
use lib.Dec.{T}
use seplogic.Ra.Ura.{Ura}
use mir.Syntax.{impl, tnil, dnil}
use mir.Val.{Val, has_ty, WT}
use types.Logic.{Logic}
use types.Kit.{Item, Goal, Seq, Step, step, ‵, ◌$◌, move, drop, fsplit, fjoin, fpick, fpack, feq_i, feq_l}
use denote.RattleType.{RattleType, Valss}
use denote.Builtin.{RawPtr}
use denote.RawPtr.{Ptr, ptr_val}
use denote.Steps.{nothing}
use denote.Param.{layout}
use denote.Struct.Struct.{within}
use denote.Struct.Owning.{shape, to}
use Rattle.core.proofs.alloc.Calls.{Al, handle_tells}
use Rattle.core.proofs.atomic.Steps.{Ptr-Good}
use Rattle.core.proofs.cell.Inside.{Good}
use Rattle.std_heap.specs.declared.Global.{Global}
use Rattle.std_heap.specs.contracts.Global as heap
use Rattle.std_heap.specs.contracts.GlobalAllocator.TheImpl.{ghosts}
use Rattle.std_heap.proofs.Global.TheLaws as heap_laws
use Rattle.isearch_c.proofs.PieceValues.{spelled, two, two_fit}
use Rattle.isearch_c.specs.contracts.handle.Handle as handle
use Rattle.isearch_c.specs.declared.held.Held.{Held}
use Rattle.isearch_c.specs.Handles.{held_at}

-- the allocator of all handles
abbrev pub Z : RattleType
Z = heap.the_row

-- a handle
abbrev pub Handle : RattleType
Handle = handle.the_row

-- the allocator as calls take it
abbrev pub the_heap : Al
the_heap = record { row = Z; laws = heap_laws.the_row_laws; g = ghosts; d = impl [] tnil dnil; drops = impl [] tnil dnil }

-- any pointer and an allocator are of a handle's type
pub handle_fits : (p : Ptr) (h : Val) → Good (layout Z) h → T (has_ty (layout Handle) (two (ptr_val p) h)) × WT (two (ptr_val p) h)
handle_fits p h fits = let at = Ptr-Good p in (two_fit _ _ at.0 fits.0, (at.1, (fits.1, tt)))

module _ {M : Type 1} {𝓤 : Ura M} {𝓛 : Logic 𝓤} {K : Type 0} {Γ : List (Item 𝓤)} {G : Goal 𝓤 𝓛.H} where
  -- what a handle owns is put into it
  pub handle_in : K → (p : Ptr) (h : Val) (a : Global) (m : Option Held)
      → Step K 𝓛 (‵ (Handle.own_val (record { at = p; alloc = a; held = m }) (two (ptr_val p) h ∷ [])) ∷ Γ) G
      (‵ (held_at a p m) ∷ ‵ (Z.own_val a (h ∷ [])) ∷ Γ) G
  handle_in t p h a m = step (λ next.
      let both : Val = two (ptr_val p) h in
      let value = to handle.the_type (record { at = p; alloc = a; held = m }) in
      nothing t $ move t (2 ∷ 0 ∷ []) $ fjoin t
      $ feq_i t (List Val) (ptr_val p ∷ []) (ptr_val p ∷ []) refl $ fjoin t
      $ feq_i t (List Val) (both ∷ []) (both ∷ []) refl $ fjoin t
      $ fpack t (Valss (RawPtr ∷ Z ∷ [])) (within (shape handle.the_type) value (both ∷ [])) (ptr_val p ∷ [], (h ∷ [], tt))
      $ fjoin t $ next)

  -- and taken out of it
  pub handle_out : K → (d : Handle.Denot) (all : List Val)
      → ((h : Val) → all ≡ two (ptr_val d.at) h ∷ [] → Good (layout Z) h
      → Seq K 𝓛 (‵ (held_at d.alloc d.at d.held) ∷ ‵ (Z.own_val d.alloc (h ∷ [])) ∷ Γ) G)
      → Seq K 𝓛 (‵ (Handle.own_val d all) ∷ Γ) G
  handle_out t d all next =
      fsplit t $ fpick t (λ parts. fsplit t $ feq_l t (λ is. fsplit t $ feq_l t (λ first. fsplit t
      $ handle_tells the_heap t d.alloc parts.1.0 (λ h second fits. move t (1 ∷ []) $ drop t $ move t (1 ∷ [])
      $ next h (spelled all parts.0 parts.1.0 (ptr_val d.at) h is first second) fits))))
