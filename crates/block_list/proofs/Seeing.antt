-- What a `&` shows of nodes, and a walk over them by value.
use mathlib.Core.Path.{◌≡◌, refl, ◌∙◌}
use Prim.Native.Nat.{ℕ, ◌+◌}
use mathlib.Core.List.{List, [], ◌∷◌, ◌++◌}
use seplogic.Ra.Ura.{Ura}
use mir.Val.{Val, vstruct, vcons, vnil, of_list}
use base.Fraction.{full_share}
use base.Stored.{Gv}
use base.Fml.{Lft, GName, Share, flft, fobs, fauth, fbor, fobor}
use types.Logic.{Logic}
use types.Kit.{Item, Goal, Seq, Step, Soaks, step, ‵, ◌$◌, move, drop, fsplit, fjoin, fpick, fpack, feq_i, feq_l, rewrite}
use denote.RattleType.{RattleType, Valss}
use types.SemTy.{Body as Borrowed}
use denote.Memory.{hidden_shr, cell_at, mem}
use denote.Ref.{NamedLft, ShrRef}
use denote.Struct.Declared.{shape as declared}
use denote.Struct.Owning.{shape}
use denote.Struct.Struct.{within}
use Rattle.core.specs.contracts.marker.PhantomData as Mark
use denote.RawPtr.{Ptr, RawPtr, ptr_val}
use denote.Opens.{unhide, hide}
use denote.Steps.{nothing, opens, closes}
use Rattle.core.specs.declared.alloc.Allocator.{Ghosts}
use Rattle.block_list.specs.declared.nodes.Nodes.{Nodes}
use Rattle.block_list.specs.declared.walk.Walk.{Walk}
use Rattle.block_list.specs.contracts.nodes.Nodes as N
use Rattle.block_list.specs.contracts.walk.Walk as W
use Rattle.block_list.specs.Links.{links_of}
use Rattle.block_list.specs.Ownership.{chain_lent}

-- a walk as the machine sees it: where it stands, and a mark without bytes
abbrev pub walk_val : Ptr → Val
walk_val p = vstruct (vcons (ptr_val p) (vcons (vstruct vnil) vnil))

module _ {M : Type 1} {𝓤 : Ura M} {𝓛 : Logic 𝓤} {K : Type 0} {Γ : List (Item 𝓤)} {G : Goal 𝓤 𝓛.H} where
  -- [`head`; what is lent of the nodes]
  pub nodes_Seen : K → (S Z : RattleType) (g : Ghosts Z.Denot) {κ : Lft} (d : Nodes S.Denot Z.Denot) (b o : ℕ)
      → Step K 𝓛 (‵ (hidden_shr RawPtr κ d.head b (o + 0)) ∷ ‵ (chain_lent S (links_of d.blocks) d.items κ) ∷ Γ) G
      (‵ (hidden_shr (N.the_row S Z g) κ d b o) ∷ Γ) G
  nodes_Seen t S Z g d b o = step (λ s.
      unhide t $ fsplit t $ fsplit t $ fsplit t $ move t (1 ∷ []) $ drop t $ move t (1 ∷ []) $ drop t $ hide t $ s)

  -- a walk that is had
  pub walk_had : K → (a : NamedLft) (S : RattleType) (w : Walk S.Denot) (vs : List Val)
      → (vs ≡ walk_val w.at ∷ [] → Seq K 𝓛 (‵ (chain_lent S w.links w.items a.lft) ∷ Γ) G)
      → Seq K 𝓛 (‵ ((W.the_row a S).own_val w vs) ∷ Γ) G
  walk_had t a S w vs k =
      fsplit t $ fpick t (λ vss. fsplit t $ feq_l t (λ all. fsplit t $ feq_l t (λ e₀.
      fsplit t $ fpick t (λ uss. fsplit t $ feq_l t (λ e₁. drop t $ drop t $
      k (all ∙ (λ i. vstruct (of_list (e₀ i ++ (e₁ i ++ []))) ∷ [])))))))

  -- a walk that is made
  pub walk_made : K → (a : NamedLft) (S : RattleType) (w : Walk S.Denot)
      → Step K 𝓛 (‵ ((W.the_row a S).own_val w (walk_val w.at ∷ [])) ∷ Γ) G (‵ (chain_lent S w.links w.items a.lft) ∷ Γ) G
  walk_made t a S w = step (λ s.
      let v = walk_val w.at in
      let none : List Val = vstruct vnil ∷ [] in
      nothing t $ nothing t $ feq_i t (List Val) none none refl $ fjoin t $
      fpack t (Unit {0}) (within (declared (Mark.the_type (ShrRef a.mir a.lft S))) tt none) tt $ fjoin t $
      feq_i t (List Val) (ptr_val w.at ∷ []) (ptr_val w.at ∷ []) refl $ fjoin t $
      feq_i t (List Val) (v ∷ []) (v ∷ []) refl $ fjoin t $
      fpack t (Valss (shape (W.the_type a S)).fields) (within (shape (W.the_type a S)) (
        w.at,
        (tt, tt),
      ) (v ∷ [])) (ptr_val w.at ∷ [], (none, tt)) $
      fjoin t $ s)

module _ {M : Type 1} {𝓤 : Ura M} {𝓛 : Logic 𝓤} {K : Type 0} {Γ : List (Item 𝓤)} {G : Goal 𝓤 𝓛.H} where
  -- a walk behind a `&mut`: [what it has left; its words; the open borrow; obs; auth]
  pub walk_opens : K → Soaks G → (a : NamedLft) (S : RattleType) {κ : Lft} {q : Share}
      {γ : GName} (w : Walk S.Denot) (rb ro : ℕ)
      → Step K 𝓛 (‵ (chain_lent S w.links w.items a.lft)
      ∷ ‵ (cell_at full_share (W.the_row a S).mir (walk_val w.at ∷ []) rb ro)
      ∷ ‵ (fobor κ q (Borrowed (mem (W.the_row a S)) rb ro γ)) ∷ ‵ (fobs γ ((W.the_row a S).coded.code w))
      ∷ ‵ (fauth γ ((W.the_row a S).coded.code w)) ∷ Γ) G
      (‵ (fobs γ ((W.the_row a S).coded.code w)) ∷ ‵ (fbor κ (Borrowed (mem (W.the_row a S)) rb ro γ))
      ∷ ‵ (flft κ q) ∷ Γ) G
  walk_opens t z a S w rb ro = step (λ s.
      opens t z (W.the_row a S) {h = w} rb ro (λ vs. move t (1 ∷ []) $ walk_had t a S w vs (λ is.
      rewrite t 1 (λ (ws : List Val). ‵ (cell_at full_share (W.the_row a S).mir ws rb ro)) is refl $ s)))

  -- and shut again
  pub walk_closes : K → Soaks G → (a : NamedLft) (S : RattleType) {κ : Lft} {q : Share} {u v : Gv}
      {γ : GName} (w : Walk S.Denot) (rb ro : ℕ)
      → Step K 𝓛 (‵ (fobs γ ((W.the_row a S).coded.code w)) ∷ ‵ (fbor κ (Borrowed (mem (W.the_row a S)) rb ro γ))
      ∷ ‵ (flft κ q) ∷ Γ) G
      (‵ (chain_lent S w.links w.items a.lft)
      ∷ ‵ (cell_at full_share (W.the_row a S).mir (walk_val w.at ∷ []) rb ro)
      ∷ ‵ (fobor κ q (Borrowed (mem (W.the_row a S)) rb ro γ)) ∷ ‵ (fobs γ u) ∷ ‵ (fauth γ v) ∷ Γ) G
  walk_closes t z a S w rb ro = step (λ s.
      walk_made t a S w $ move t (1 ∷ 0 ∷ []) $ closes t z (W.the_row a S) w (walk_val w.at ∷ []) rb ro $ s)
