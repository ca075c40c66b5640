-- `walk` reads the first pointer, and takes what a `&` to the nodes lends.
use mathlib.Core.Path.{◌≡◌, refl, sym, subst, ◌∙◌}
use mathlib.Core.List.{List, [], ◌∷◌, ◌++◌}
use Prim.Native.Nat.{ℕ, ◌+◌}
use lib.ListN.{length-map}
use seplogic.Ra.Ura.{Ura}
use mir.Syntax.{Fn, named, ty_ptr, ty_struct, tnil}
use mir.MapTy.{inst_fn}
use mir.Val.{Val, vptr, vstruct, vnil}
use base.Logic.{SProp, ent, emp, via, fst∗}
use base.Fml.{Lft, Share, ftrue, flft}
use prog.Wp.{Calls, Loops, WpFn, Tables}
use types.Logic.{Logic}
use contract.Monad.{fact}
use sound.WpLaws.{WpFn-mono}
use types.Kit.{Item, ⋆, ‵, ◌⊛◌, ◌$◌, ◌∵◌, !, qed, by, move, keep, split, join, fsplit, fjoin, feq_l, suffices, done}
use types.Part.{agg}
use types.Run.{look, stop, fld, load, of_opd, and_then, no_more, returns, enter}
use types.ByLocal.{alloc_all, pass_all, free_all, look_at, get, through, sets}
use denote.Exit.{yes}
use denote.RattleType.{owns}
use denote.Memory.{hidden_shr}
use denote.RawPtr.{ptr_val}
use denote.Ref.{Bor, ShrRef, NamedLft}
use denote.Builtin.{RefOf}
use denote.Signature.{plain, named_lft}
use denote.Steps.{nothing}
use denote.Struct.Struct.{as_fields}
use denote.Triple.Clauses.{Clauses, Ended, closing}
use denote.Triple.Entry.{on_entry}
use denote.Triple.Spec.{Meets}
use denote.Triple.Walked.{says, Stays, stay_dropped, walk_of, ends_at, Goes-dropped, walk_Meets}
use Rattle.std_alloc.proofs.RcSteps.{Ptr-Good}
use Rattle.std_alloc.proofs.BoxSteps.Form.{Bx, args, R, P}
use Rattle.std_collections.proofs.ListMemory.Seen.{pointer_in, pointer_out}
use Rattle.block_list.specs.declared.walk.Walk.{Walk}
use Rattle.block_list.specs.contracts.walk.Walk as W
use Rattle.block_list.specs.Links.{links_of}
use Rattle.block_list.proofs.Linking.{IsLinked-had}
use Rattle.block_list.proofs.Seeing.{walk_val, nodes_Seen, walk_made}
use Rattle.block_list.proofs.Signing.{signed}
use Rattle.block_list.proofs.Standing.{boxed, here, stands}
use Rattle.block_list.proofs.Steps.{D, Nr}
use Rattle.block_list.specs.contracts.nodes.Nodes.walk.Key.{name as #self}
use Rattle.block_list.proofs.nodes.Nodes.walk.Statement as stated
use Rattle.block_list.proofs.nodes.Nodes.walk.Code as code

module _ (E : Bx) where
  abbrev function : Fn
  function = inst_fn (args E) code.function

  abbrev ended : Ended
  ended = record {
    signature = signed 1 (RefOf (0 ∷ []) tt (plain (λ _. Nr E)) (λ _. tt) ∷ []) (plain (λ κs. W.the_row (named_lft 1 0 tt κs) (R E)));
    kept = (yes, tt);
  }

  abbrev stayed : Stays ended.signature.params ended.kept
  stayed = (stay_dropped (RefOf (0 ∷ []) tt (plain (λ _. Nr E)) (λ _. tt)) yes, tt)

  abbrev spec : {M : Type 1} {𝓤 : Ura M} (𝓛 : Logic 𝓤) → Clauses 𝓤 ended
  spec {𝓤 = 𝓤} 𝓛 κs a = record {
    ghost = Unit {0};
    requires = λ _. emp 𝓤;
    ensures = λ _ r _. fact 𝓤 (r.items ≡ a.0.now.items);
  }

module _ (E : Bx) {M : Type 1} {𝓤 : Ura M} (𝓛 : Logic 𝓤) (C : Calls 𝓤 𝓛.H) (Λ : Loops 𝓤 𝓛.H) (κ : Lft) (q : Share) (b o : ℕ) (d : D E) (ps : List Val) where
  open 𝓛 use {H}

  abbrev self : Bor (D E)
  self = record { ref_ptr = (b, o); now = d }

  abbrev bound : (walk_of 𝓛 (ended E) (stayed E) (spec E 𝓛)).Ghost
  bound = (((κ, tt), (q, tt), tt, (self, tt), (ps, tt)), tt)

  abbrev Post : Val → SProp 𝓤
  Post = (walk_of 𝓛 (ended E) (stayed E) (spec E 𝓛)).post bound

  abbrev a : NamedLft
  a = named_lft 1 0 tt (κ, tt)

  abbrev begun : Walk (R E).Denot
  begun = record {
    at = d.head;
    mark = record {};
    items = d.items;
    links = links_of d.blocks;
    counted = length-map d.blocks (λ n. n.0) ∙ d.counted;
    linked = ∣ (IsLinked-had d.head d.tail (links_of d.blocks) d.linked).0 ∣₁;
  }

  abbrev Had : List (Item 𝓤)
  Had = ‵ (hidden_shr (Nr E) κ d b o) ∷ ‵ (flft κ q) ∷ []

  walk : ent 𝓤 (⋆ 𝓛 Had) (WpFn 𝓤 H C Λ (function E) (vptr b o ∷ []) Post)
  walk =
      qed 𝓛 Had ∵ enter ! C Λ (function E) (vptr b o ∷ []) _ $ alloc_all ! (λ l. pass_all ! refl ((tt, tt), tt) $
      nodes_Seen ! (R E) (P E) E.al.g d b o $ move ! (0 ∷ 2 ∷ []) $ pointer_in ! tt d.head b (o + 0) (λ part.
      sets ! (of_opd ! (load ! (through ! refl (fld ! refl (stop !))) (look ! 0 refl))) refl (Ptr-Good d.head) $
      sets ! (of_opd ! (get ! refl)) refl (Ptr-Good d.head) $ sets ! (agg ! (no_more !)) refl (tt, tt) $
      sets ! (agg ! (and_then ! (get ! refl) (and_then ! (get ! refl) (no_more !)))) refl
      (as_fields (ty_ptr ∷ ty_struct [] tnil ∷ []) (ptr_val d.head ∷ vstruct vnil ∷ []) (Ptr-Good d.head, ((tt, tt), tt))) $
      pointer_out ! tt d.head b (o + 0) $ move ! (1 ∷ []) $ walk_made ! a (R E) begun $
      returns ! (look_at ! 0 refl) $ free_all ! refl $ keep ! (0 ∷ 1 ∷ []) $
      suffices ! _ (ends_at 𝓛 (ended E) (stayed E) (spec E 𝓛) bound (walk_val d.head) begun (tt, tt) (tt, tt)) $ says ! refl $
      nothing ! $ nothing ! $ fjoin ! $ join ! $ nothing ! $ move ! (2 ∷ 0 ∷ []) $ join ! $ join ! $ done !))

  entry : ent 𝓤 (on_entry 𝓛 (ended E).signature (κ, tt) (q, tt) (self, tt) (ps, tt)) (WpFn 𝓤 H C Λ (function E) (ps ++ []) Post)
  entry =
      qed 𝓛 ((‵ (flft κ q) ⊛ ‵ ftrue) ∷ ‵ (owns (ShrRef (named 0) κ (Nr E) ∷ []) (self, tt) (ps, tt)) ∷ []) ∵
      split ! $ move ! (2 ∷ []) $ fsplit ! $ fsplit ! $ feq_l ! (λ e. keep ! (0 ∷ 2 ∷ []) $
      by ! (subst (λ (ws : List Val). ent 𝓤 (⋆ 𝓛 Had) (WpFn 𝓤 H C Λ (function E) (ws ++ []) Post)) (sym e) walk))

meets : (E : Bx) {M : Type 1} {𝓤 : Ura M} (𝓛 : Logic 𝓤) (𝓣 : Tables 𝓤 𝓛.H)
    → Meets 𝓛 (ended E).signature (WpFn 𝓤 𝓛.H 𝓣.C 𝓣.Λ (function E)) (closing 𝓛 (ended E) (spec E 𝓛))
meets E {𝓤 = 𝓤} 𝓛 𝓣 =
    walk_Meets 𝓛 (ended E) (stayed E) (Goes-dropped 𝓛 1 (RefOf (0 ∷ []) tt (plain (λ _. Nr E)) (λ _. tt)) yes (λ κs x f. refl), tt)
    (spec E 𝓛) (WpFn 𝓤 𝓛.H 𝓣.C 𝓣.Λ (function E)) (WpFn-mono 𝓤 𝓛.H 𝓛.laws 𝓣 (function E))
    (λ z. via 𝓤 _ (fst∗ 𝓤 _ (emp 𝓤)) (entry E 𝓛 𝓣.C 𝓣.Λ z.0.0.0 z.0.1.0 z.0.3.0.ref_ptr.0 z.0.3.0.ref_ptr.1 z.0.3.0.now z.0.4.0))

pub walk_spec : {M : Type 1} → stated.statement M
walk_spec 𝓤 𝓛 𝓜 𝓡 wired Y Z L LZ g d dd met md y =
    let E = boxed Y Z L LZ g d dd in
    stands 𝓤 𝓛 𝓜 𝓡 E (ended E) (spec E 𝓛) (#self (args E)) (function E) (code.unfolded 𝓤 𝓛.H 𝓜 𝓡 wired (Y, (Z, tt)) d dd)
    (meets E 𝓛 (here 𝓤 𝓛 𝓜 𝓡)) ((y.0.0, y.0.1, tt, y.0.3, y.0.4), y.1)
