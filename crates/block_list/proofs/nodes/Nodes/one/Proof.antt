-- `one` fills the block, which is then the only node.
use mathlib.Core.Path.{◌≡◌, refl, sym, subst}
use Prim.Native.Nat.{ℕ}
use mathlib.Core.List.{List, [], ◌∷◌, ◌++◌}
use seplogic.Ra.Ura.{Ura}
use mir.Syntax.{Fn, ty_ptr}
use mir.MapTy.{inst_fn}
use mir.Val.{Val}
use base.Logic.{SProp, ent, emp, via, fst∗}
use base.Fml.{ftrue, froom}
use prog.Wp.{Env, Calls, Loops, WpFn, Tables}
use types.Logic.{Logic}
use contract.Monad.{fact}
use sound.WpLaws.{WpFn-mono}
use types.Kit.{Item, ⋆, ‵, at_ret, ◌$◌, ◌∵◌, !, qed, by, move, keep, use1, join, drop, group, fsplit, fjoin, suffices, done}
use types.Part.{whole, sub, agg}
use types.Run.{init, stop, fld, of_opd, and_then, no_more, assigns_last, first, blocks, exec, returns, enter}
use types.ByLocal.{alloc_all, pass_all, free_all, look_at, get, get_in, through, sets, env}
use denote.Exit.{no}
use denote.RattleType.{owns}
use denote.Memory.{lone}
use denote.RawPtr.{Ptr, block_ptr, ptr_val}
use denote.Signature.{plain}
use denote.Steps.{nothing}
use denote.Struct.Struct.{as_fields}
use denote.Triple.Clauses.{Clauses, Ended, closing}
use denote.Triple.Entry.{on_entry}
use denote.Triple.Spec.{Meets}
use denote.Triple.Walked.{says, Stays, stay_dropped, walk_of, ends_at, Goes-dropped, walk_Meets}
use Rattle.std_alloc.proofs.VecSteps.Shapes.{after}
use Rattle.std_alloc.proofs.RcSteps.{Good, Ptr-Good}
use Rattle.core.proofs.alloc.Calls.{α, token, Fits, Goes-blank}
use Rattle.std_alloc.proofs.RawLayout.{as_written}
use Rattle.std_alloc.proofs.BoxSteps.Form.{Bx, args, X, τ, own, R, P}
use Rattle.std_alloc.proofs.BoxSteps.Steps.{el_tells}
use Rattle.std_alloc.proofs.OfVacant.{vacant_val, vacant_typed, Vacant-had}
use Rattle.block_list.specs.contracts.nodes.Node as Block
use Rattle.block_list.proofs.Signing.{Node, Room, signed}
use Rattle.block_list.proofs.Standing.{boxed, here, stands}
use Rattle.block_list.proofs.Steps.{words, node_val, Hd, D, Nr, block_ty, One, nodes_made}
use Rattle.block_list.proofs.Made.{node_made}
use Rattle.block_list.specs.contracts.nodes.Nodes.one.Key.{name as #self}
use Rattle.block_list.proofs.nodes.Nodes.one.Statement as stated
use Rattle.block_list.proofs.nodes.Nodes.one.Code as code

module _ (E : Bx) where
  abbrev function : Fn
  function = inst_fn (args E) code.function

  abbrev ended : Ended
  ended = record {
    signature = signed 0 (plain (λ _. Room E) ∷ plain (λ _. R E) ∷ []) (plain (λ _. Nr E));
    kept = (no, (no, tt));
  }

  abbrev stayed : Stays ended.signature.params ended.kept
  stayed = (stay_dropped (plain (λ _. Room E)) no, (stay_dropped (plain (λ _. R E)) no, tt))

  abbrev spec : {M : Type 1} {𝓤 : Ura M} (𝓛 : Logic 𝓤) → Clauses 𝓤 ended
  spec {𝓤 = 𝓤} 𝓛 κs a = record {
    ghost = Unit {0};
    requires = λ _. emp 𝓤;
    ensures = λ _ r w. fact 𝓤 (r.items ≡ a.1.0 ∷ []);
  }

module _ (E : Bx) {M : Type 1} {𝓤 : Ura M} (𝓛 : Logic 𝓤) (C : Calls 𝓤 𝓛.H) (Λ : Loops 𝓤 𝓛.H) (room : (Room E).Denot) (x : X E) (us vs : List Val) where
  open 𝓛 use {H}

  abbrev bound : (walk_of 𝓛 (ended E) (stayed E) (spec E 𝓛)).Ghost
  bound = ((tt, tt, tt, (room, (x, tt)), (us, (vs, tt))), tt)

  abbrev Post : Val → SProp 𝓤
  Post = (walk_of 𝓛 (ended E) (stayed E) (spec E 𝓛)).post bound

  abbrev h : Hd E
  h = room.alloc

  abbrev Had : ℕ → ℕ → Val → Val → List (Item 𝓤)
  Had b o hv v = ‵ (froom (block_ty E) b o) ∷ ‵ (token E.al h (block_ty E) (block_ptr b o)) ∷ ‵ (E.al.row.own_val h (hv ∷ [])) ∷ ‵ (own E x (v ∷ [])) ∷ []

  walk : (b o : ℕ) (hv v : Val) → Fits E.al hv → Good (τ E) v
      → ent 𝓤 (⋆ 𝓛 (Had b o hv v)) (WpFn 𝓤 H C Λ (function E) (vacant_val hv b o ∷ v ∷ []) Post)
  walk b o hv v fa good =
      let p : Ptr = block_ptr b o in
      let typed : Good (lone (Node E).mir) (node_val p v hv) = as_fields (ty_ptr ∷ τ E ∷ α E.al ∷ []) (ptr_val p ∷ v ∷ hv ∷ []) (Ptr-Good p, (good, (fa, tt))) in
      let made : D E = record { head = p; tail = p; items = x ∷ []; blocks = ((p, p), h) ∷ []; counted = refl; linked = ∣ ((refl, tt), refl) ∣₁ } in
      qed 𝓛 (Had b o hv v) ∵ enter ! C Λ (function E) (vacant_val hv b o ∷ v ∷ []) _ $
      alloc_all ! (λ l. pass_all ! refl (vacant_typed E.al (Node E) hv b o fa, (good, tt)) $
      let En : Env 𝓤 H = env (function E).locals l in
      as_written ! (lone (Node E).mir) b o $
      -- [the room; the token; the handle; the element]
      sets ! (of_opd ! (get_in ! (fld ! refl (stop !)) (sub ! 0 refl (whole !)))) refl (tt, tt) $
      sets ! (of_opd ! (get_in ! (fld ! refl (stop !)) (sub ! 1 refl (whole !)))) refl fa $
      first ! $ blocks ! $ sets ! (of_opd ! (get ! refl)) refl good $ sets ! (of_opd ! (get ! refl)) refl fa $
      sets ! (agg ! (and_then ! (get ! refl) (and_then ! (get ! refl) (and_then ! (get ! refl) (no_more !))))) refl typed $
      assigns_last ! (of_opd ! (get ! refl)) (through ! refl (stop !)) (init ! 0 refl typed) $
      exec ! C Λ En (after 3 (function E).body) (at_ret En Post) $
      sets ! (agg ! (and_then ! (get ! refl) (and_then ! (get ! refl) (no_more !)))) refl (tt, (tt, (tt, tt))) $
      move ! (0 ∷ 1 ∷ 2 ∷ 3 ∷ []) $ group ! 4 $
      use1 𝓛 (‵ (One E ((p, p), h) x)) (node_made E 𝓛 (Block.the_type (R E) (P E)).name b o p h x v hv) $
      nothing ! $ move ! (1 ∷ 0 ∷ []) $ fjoin ! $ nodes_made E ! made $
      returns ! (look_at ! 0 refl) $ free_all ! refl $ keep ! (0 ∷ []) $
      suffices ! _ (ends_at 𝓛 (ended E) (stayed E) (spec E 𝓛) bound (words p p) made ((tt, (tt, tt)), (tt, tt)) (tt, (tt, tt))) $ says ! refl $
      nothing ! $ nothing ! $ fjoin ! $ nothing ! $ fjoin ! $ join ! $ nothing ! $ join ! $ done !)

  entry : ent 𝓤 (on_entry 𝓛 (ended E).signature tt tt (room, (x, tt)) (us, (vs, tt))) (WpFn 𝓤 H C Λ (function E) (us ++ (vs ++ [])) Post)
  entry =
      qed 𝓛 (‵ ftrue ∷ ‵ (owns (Room E ∷ R E ∷ []) (room, (x, tt)) (us, (vs, tt))) ∷ []) ∵ drop ! $ fsplit ! $
      move ! (1 ∷ []) $ fsplit ! $ el_tells E ! x vs (λ v g good.
      move ! (2 ∷ []) $ Vacant-had E.al (Node E) ! room us (λ b o hv at f fa. keep ! (0 ∷ 1 ∷ 2 ∷ 3 ∷ []) $
      by ! (subst (λ (ws : List Val × List Val). ent 𝓤 (⋆ 𝓛 (Had b o hv v)) (WpFn 𝓤 H C Λ (function E) (ws.0 ++ (ws.1 ++ [])) Post)) (λ j. (sym f j, sym g j)) (walk b o hv v fa good))))

meets : (E : Bx) {M : Type 1} {𝓤 : Ura M} (𝓛 : Logic 𝓤) (𝓣 : Tables 𝓤 𝓛.H)
    → Meets 𝓛 (ended E).signature (WpFn 𝓤 𝓛.H 𝓣.C 𝓣.Λ (function E)) (closing 𝓛 (ended E) (spec E 𝓛))
meets E {𝓤 = 𝓤} 𝓛 𝓣 =
    walk_Meets 𝓛 (ended E) (stayed E)
    (Goes-blank 𝓛 0 (plain (λ _. Room E)) no (λ κs x f. tt), (Goes-dropped 𝓛 0 (plain (λ _. R E)) no (λ κs x f. refl), tt))
    (spec E 𝓛) (WpFn 𝓤 𝓛.H 𝓣.C 𝓣.Λ (function E)) (WpFn-mono 𝓤 𝓛.H 𝓛.laws 𝓣 (function E))
    (λ z. via 𝓤 _ (fst∗ 𝓤 _ (emp 𝓤)) (entry E 𝓛 𝓣.C 𝓣.Λ z.0.3.0 z.0.3.1.0 z.0.4.0 z.0.4.1.0))

pub one_spec : {M : Type 1} → stated.statement M
one_spec 𝓤 𝓛 𝓜 𝓡 wired Y Z L LZ g d dd met md y =
    let E = boxed Y Z L LZ g d dd in
    stands 𝓤 𝓛 𝓜 𝓡 E (ended E) (spec E 𝓛) (#self (args E)) (function E) (code.unfolded 𝓤 𝓛.H 𝓜 𝓡 wired (Y, (Z, tt)) d dd)
    (meets E 𝓛 (here 𝓤 𝓛 𝓜 𝓡)) ((y.0.0, y.0.1, tt, y.0.3, y.0.4), y.1)
