-- The pieces of a box as machine values. What two fields are spelled as (`spelled`); what pieces own is taken out of them (`pieces_out`),
-- and put into them (`pieces_in`).
use Rattle.std.proofs.Common.{◌≡◌, ◌∙◌, ℕ, List, [], ◌∷◌, ◌++◌, ap, refl}
use mathlib.Core.Bool.{Bool, true, false, ◌&&◌}
use lib.Dec.{T}
use seplogic.Ra.Ura.{Ura}
use mir.Syntax.{impl, tnil, dnil}
use mir.Raw.{raw as bare}
use mir.Val.{Val, vptr, vstruct, vcons, vnil, of_list, has_ty, WT}
use base.Fml.{Fml}
use base.Logic.{never, fst∗}
use types.Logic.{Logic, sem}
use types.Kit.{Item, Goal, Seq, Step, step, ‵, ◌$◌, move, drop, fsplit, fjoin, fpick, fpack, feq_i, feq_l}
use denote.RattleType.{RattleType, Valss}
use denote.Builtin.{RawPtr}
use denote.Memory.{lone}
use denote.RawPtr.{Ptr, block_ptr, null_ptr, ptr_val, in_a_block}
use denote.Steps.{nothing}
use denote.Param.{layout}
use denote.Param.Laws.{Laws}
use denote.Struct.Struct.{within}
use denote.Struct.Owning.{shape}
use Rattle.core.specs.declared.alloc.Allocator.{Ghosts}
use Rattle.core.proofs.alloc.Calls.{Al, handle_tells}
use Rattle.core.proofs.cell.Inside.{Good}
use Rattle.std_alloc.specs.Box.Ownership.{box_owns}
use Rattle.std_alloc.proofs.ResultValues.{and_tt}
use Rattle.isearch_c.specs.contracts.pieces.Pieces as pieces

-- a machine value with two fields
abbrev pub two : Val → Val → Val
two v w = vstruct (vcons v (vcons w vnil))

-- each of two fields is of its type
pub two_fit : (x y : Bool) → T x → T y → T (x && (y && true))
two_fit false y first second = absurd first
two_fit true y first second = and_tt y second

-- two fields with one value each are spelled as the value that has both
pub spelled : (all firsts seconds : List Val) (v w : Val) → all ≡ vstruct (of_list (firsts ++ (seconds ++ []))) ∷ []
    → firsts ≡ v ∷ [] → seconds ≡ w ∷ [] → all ≡ two v w ∷ []
spelled all firsts seconds v w is first second =
    is ∙ (λ i. vstruct (of_list (first i ++ (second i ++ []))) ∷ [])

module _ (R Z : RattleType) (L : Laws Z) (g : Ghosts Z.Denot) where
  -- the pieces of a box of this value and this allocator
  abbrev pub Pieces : RattleType
  Pieces = pieces.the_row R Z g

  -- the allocator, with no functions of its own
  abbrev with_no_functions : Al
  with_no_functions = record { row = Z; laws = L; g = g; d = impl [] tnil dnil; drops = impl [] tnil dnil }

  -- the box of a value at a pointer
  abbrev pub box_at : Z.Denot → Ptr → R.Denot → Fml
  box_at a p x = box_owns (g.dealloc_token a) R p x

  -- a pointer and an allocator are of the types of the pieces
  pub pieces_fit : (b o : ℕ) (h : Val) → Good (layout Z) h → T (has_ty (layout Z) h && true) × WT (two (vptr b o) h)
  pieces_fit b o h fits = (and_tt (has_ty (layout Z) h) fits.0, (tt, (fits.1, tt)))

  module _ {M : Type 1} {𝓤 : Ura M} {𝓛 : Logic 𝓤} {K : Type 0} {Γ : List (Item 𝓤)} {G : Goal 𝓤 𝓛.H} where
    -- a box and its allocator become pieces
    pub pieces_in : K → (b o : ℕ) (h : Val) (a : Z.Denot) (x : R.Denot)
        → Step K 𝓛 (‵ (Pieces.own_val (record { at = block_ptr b o; alloc = a; value = x }) (two (vptr b o) h ∷ [])) ∷ Γ) G
        (‵ (box_at a (block_ptr b o) x) ∷ ‵ (Z.own_val a (h ∷ [])) ∷ Γ) G
    pieces_in t b o h a x = step (λ next.
        let word : Val = vptr b o in
        let both : Val = two word h in
        nothing t $ move t (2 ∷ 0 ∷ []) $ fjoin t
        $ feq_i t (List Val) (word ∷ []) (word ∷ []) refl $ fjoin t
        $ feq_i t (List Val) (both ∷ []) (both ∷ []) refl $ fjoin t
        $ fpack t (Valss (RawPtr ∷ Z ∷ [])) (within (shape (pieces.the_type R Z g)) (block_ptr b o, (a, tt)) (both ∷ []))
        (word ∷ [], (h ∷ [], tt)) $ fjoin t $ next)

    -- pieces become a box, which lies at no null pointer, and its allocator
    pub pieces_out : K → (d : Pieces.Denot) (all : List Val)
        → ((b o : ℕ) (h : Val) → d.at ≡ block_ptr b o → all ≡ two (vptr b o) h ∷ [] → Good (layout Z) h
        → Seq K 𝓛 (‵ (box_at d.alloc (block_ptr b o) d.value) ∷ ‵ (Z.own_val d.alloc (h ∷ [])) ∷ Γ) G)
        → Seq K 𝓛 (‵ (Pieces.own_val d all) ∷ Γ) G
    pieces_out t d all next =
        let no_null = fst∗ 𝓤 (never 𝓤) (sem 𝓛 (g.dealloc_token d.alloc (bare (lone R.mir)) null_ptr)) in
        fsplit t $ fpick t (λ parts. fsplit t $ feq_l t (λ is. fsplit t $ feq_l t (λ first. fsplit t
        $ handle_tells with_no_functions t d.alloc parts.1.0 (λ h second fits. move t (1 ∷ []) $ drop t $ move t (1 ∷ [])
        $ in_a_block t d.at (λ p. box_at d.alloc p d.value) no_null (λ b o e.
        let place : parts.0 ≡ vptr b o ∷ [] = first ∙ ap (λ (p : Ptr). ptr_val p ∷ []) e in
        next b o h e (spelled all parts.0 parts.1.0 (vptr b o) h is place second) fits)))))
