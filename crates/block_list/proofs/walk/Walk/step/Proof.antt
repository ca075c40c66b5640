-- `step` reads the pointer of the node where the walk stands, and lends its element for as long as the nodes are lent.
use mathlib.Core.Path.{◌≡◌, refl, sym, ap, subst, ◌∙◌}
use mathlib.Core.List.{List, [], ◌∷◌, ◌++◌}
use Prim.Native.Nat.{ℕ, ◌+◌, ◌<◌}
use native.Mathlib.Omega.{arith}
use lib.ListN.{length}
use seplogic.Ra.Ura.{Ura}
use mir.Syntax.{Fn, named, a_type, Args}
use mir.MapTy.{inst_fn}
use mir.Val.{Val, vptr}
use base.Logic.{SProp, ent, never, fst∗}
use base.Fml.{Lft, GName, ftrue, flft, fobs, fbor}
use prog.Wp.{Env, Calls, Loops, WpFn, Tables}
use types.Logic.{Logic, sem}
use contract.Monad.{fact}
use contract.Running.{tables, tables_of}
use sound.WpLaws.{WpFn-mono}
use types.Kit.{Item, ⋆, ‵, ◌⊛◌, at_ret, ◌$◌, ◌∵◌, !, qed, by, move, keep, drop, split3, join, rewrite, fsplit, fsplit3, fjoin, fjoin3, feq_i, feq_l, suffices, frame, done}
use types.Part.{whole, sub, look_in, store_in}
use types.Run.{look, stop, fld, load, of_opd, addr, assigns, first, blocks, exec, returns, enter}
use types.ByLocal.{alloc_all, pass_all, free_all, look_at, get, through, sets, sets_last, is, env}
use types.SemTy.{Body as Borrowed}
use denote.Exit.{yes}
use denote.RattleType.{RattleType, owns}
use denote.Memory.{mem, shared_of}
use denote.Param.{param, layouts}
use denote.RawPtr.{Ptr, RawPtr, ptr_val, in_a_block, ◌+ₚ◌}
use denote.Ref.{MutRef, ShrRef, NamedLft}
use denote.Builtin.{RefMutOf, RefOf}
use denote.Opens.{hide}
use denote.Signature.{plain, named_lft}
use denote.Steps.{nothing}
use denote.Struct.Lending.{lent_at}
use denote.Triple.Carry.{spared}
use denote.Triple.Clauses.{Clauses, Ended, closing}
use denote.Triple.Entry.{on_entry}
use denote.Triple.Spec.{Meets, triple_of}
use denote.Triple.Table.{entered, run_framed}
use denote.Triple.Walked.{says, needs, Stays, stay_ref, walk_of, ends_at, Goes-ref, walk_Meets}
use Rattle.std_alloc.proofs.VecSteps.Shapes.{after}
use Rattle.std_alloc.proofs.RcSteps.{Ptr-Good}
use Rattle.std_collections.proofs.ListMemory.Seen.{pointer_in, pointer_out}
use Rattle.block_list.specs.declared.walk.Walk.{Walk}
use Rattle.block_list.specs.contracts.walk.Walk as W
use Rattle.block_list.specs.Links.{Link, Leads}
use Rattle.block_list.specs.Ownership.{elem_offset, chain_lent}
use Rattle.block_list.proofs.Linking.{Leads-had}
use Rattle.block_list.proofs.Seeing.{walk_opens, walk_closes}
use Rattle.block_list.proofs.Steps.{first_of}
use Rattle.block_list.specs.contracts.walk.Walk.step.Key.{name as #self}
use Rattle.block_list.proofs.walk.Walk.step.Statement as stated
use Rattle.block_list.proofs.walk.Walk.step.Code as code

module _ (Y : RattleType) where
  abbrev args : Args
  args = layouts (a_type ∷ []) (Y, tt)

  abbrev R : RattleType
  R = param 0 Y

  abbrev function : Fn
  function = inst_fn args code.function

  abbrev ended : Ended
  ended = record {
    signature = record {
      lifetimes = 2;
      outlives = record { long = 1; long_ok = tt; short = named 0; short_ok = tt } ∷ [];
      params = RefMutOf (0 ∷ []) tt (plain (λ κs. W.the_row (named_lft 2 1 tt κs) R)) (λ κs. tt) ∷ [];
      result = RefOf (1 ∷ []) tt (plain (λ κs. R)) (λ κs. tt);
    };
    kept = (yes, tt);
  }

  abbrev stayed : Stays ended.signature.params ended.kept
  stayed = (stay_ref (0 ∷ []) tt (plain (λ κs. W.the_row (named_lft 2 1 tt κs) R)), tt)

  abbrev spec : {M : Type 1} (𝓤 : Ura M) → Clauses 𝓤 ended
  spec 𝓤 κs a = record {
    ghost = Unit {0};
    requires = λ _. fact 𝓤 (0 < length a.0.now.items);
    ensures = λ _ r w. fact 𝓤 (a.0.now.items ≡ r.now ∷ w.0.now.items);
  }

module _ (Y : RattleType) {M : Type 1} {𝓤 : Ura M} (𝓛 : Logic 𝓤) (C : Calls 𝓤 𝓛.H) (Λ : Loops 𝓤 𝓛.H) (z : (walk_of 𝓛 (ended Y) (stayed Y) (spec Y 𝓤)).Ghost) where
  open 𝓛 use {H}

  abbrev κ : Lft
  κ = z.0.0.0

  abbrev μ : Lft
  μ = z.0.0.1.0

  abbrev a : NamedLft
  a = named_lft 2 1 tt z.0.0

  abbrev S : RattleType
  S = W.the_row a (R Y)

  abbrev w : Walk (R Y).Denot
  w = z.0.3.0.now

  abbrev rb : ℕ
  rb = z.0.3.0.ref_ptr.0

  abbrev ro : ℕ
  ro = z.0.3.0.ref_ptr.1

  abbrev γ : GName
  γ = z.0.3.0.ghost_name

  abbrev ps : List Val
  ps = z.0.4.0

  abbrev Post : Val → SProp 𝓤
  Post = (walk_of 𝓛 (ended Y) (stayed Y) (spec Y 𝓤)).post z

  abbrev Had : Walk (R Y).Denot → List (Item 𝓤)
  Had u = ‵ (fobs γ (S.coded.code u)) ∷ ‵ (fbor κ (Borrowed (mem S) rb ro γ)) ∷ ‵ (flft κ z.0.1.0) ∷ ‵ (flft μ z.0.1.1.0) ∷ []

  exits : ps ≡ vptr rb ro ∷ [] → (b o : ℕ) (x : (R Y).Denot) (new : Walk (R Y).Denot) → w.items ≡ x ∷ new.items
      → ent 𝓤 (⋆ 𝓛 (‵ ((ShrRef (named 1) μ (R Y)).own_val (record { ref_ptr = (b, o); now = x }) (vptr b o ∷ [])) ∷ Had new)) (Post (vptr b o))
  exits passed b o x new e =
      qed 𝓛 (‵ ((ShrRef (named 1) μ (R Y)).own_val (record { ref_ptr = (b, o); now = x }) (vptr b o ∷ [])) ∷ Had new) ∵
      suffices ! _ (ends_at 𝓛 (ended Y) (stayed Y) (spec Y 𝓤) z (vptr b o) (record { ref_ptr = (b, o); now = x }) (new, tt) (tt, tt)) $ says ! e $
      nothing ! $ move ! (5 ∷ 0 ∷ []) $ join ! $ move ! (4 ∷ 0 ∷ []) $ join ! $ frame ! $
      move ! (1 ∷ 2 ∷ 0 ∷ []) $ feq_i ! (List Val) ps (vptr rb ro ∷ []) passed $ fjoin3 ! $ nothing ! $ move ! (1 ∷ 0 ∷ []) $ fjoin ! $ done !

  walk : ps ≡ vptr rb ro ∷ [] → 0 < length w.items → ent 𝓤 (⋆ 𝓛 (Had w)) (WpFn 𝓤 H C Λ (function Y) (vptr rb ro ∷ []) Post)
  walk passed asked =
      let same = w.counted in
      let ls = first_of w.links (omega arith) in
      let xs = first_of w.items asked in
      let l = ls.0 in
      let x = xs.0 in
      let many = ap length ls.2 in
      let more = ap length xs.2 in
      let led : Leads w.at (l ∷ ls.1) = subst (Leads w.at) ls.2 (Leads-had _ _ w.linked) in
      let new : Walk (R Y).Denot = record { at = l.1; mark = w.mark; items = xs.1; links = ls.1; counted = omega arith; linked = ∣ led.1 ∣₁ } in
      let k : ℕ = elem_offset (R Y) in
      qed 𝓛 (Had w) ∵ enter ! C Λ (function Y) (vptr rb ro ∷ []) _ $ alloc_all ! (λ locals. pass_all ! refl ((tt, tt), tt) $
      let En : Env 𝓤 H = env (function Y).locals locals in
      walk_opens ! tt a (R Y) w rb ro $
      rewrite ! 0 (λ (js : List Link). ‵ (chain_lent (R Y) js w.items μ)) ls.2 refl $ rewrite ! 0 (λ (ys : List (R Y).Denot). ‵ (chain_lent (R Y) (l ∷ ls.1) ys μ)) xs.2 refl $
      fsplit ! $ fsplit ! $
      in_a_block ! l.0 (λ p. lent_at (R Y) (p +ₚ k) x μ) (fst∗ 𝓤 (never 𝓤) (sem 𝓛 (shared_of (R Y) x 0 0 μ))) (λ b o e. fsplit ! $ drop ! $ hide ! $
      rewrite ! 1 (λ (p : Ptr). ‵ (lent_at RawPtr (p +ₚ 0) l.1 μ)) e refl $ move ! (1 ∷ []) $ fsplit ! $ drop ! $ hide ! $
      -- [`next`; the element; the nodes behind; the words; the open borrow; obs; auth; the token of the nodes]
      move ! (0 ∷ 7 ∷ []) $ pointer_in ! tt l.1 b (o + 0) (λ part.
      sets ! (is ! (of_opd ! (load ! (through ! refl (fld ! refl (stop !))) (look_in ! 4 (sub ! 0 refl (whole !))))) (ap ptr_val (led.0 ∙ e))) refl (tt, tt) $
      first ! $ blocks ! $ sets ! (of_opd ! (load ! (through ! refl (fld ! refl (stop !))) (look ! 0 refl))) refl (Ptr-Good l.1) $
      assigns ! (of_opd ! (get ! refl)) (through ! refl (fld ! refl (stop !))) (store_in ! 4 (sub ! 0 refl (whole !)) (Ptr-Good l.1)) $
      sets_last ! (addr ! (through ! refl (fld ! refl (stop !)))) refl (tt, tt) $ exec ! C Λ En (after 2 (function Y).body) (at_ret En Post) $
      sets ! (of_opd ! (get ! refl)) refl (tt, tt) $
      pointer_out ! tt l.1 b (o + 0) $ move ! (2 ∷ 3 ∷ 4 ∷ 5 ∷ 6 ∷ 0 ∷ 1 ∷ []) $ walk_closes ! tt a (R Y) new rb ro $
      move ! (4 ∷ []) $ feq_i ! (List Val) (vptr b (o + k) ∷ []) (vptr b (o + k) ∷ []) refl $ fjoin ! $
      returns ! (look_at ! 0 refl) $ free_all ! refl $ keep ! (0 ∷ 1 ∷ 2 ∷ 3 ∷ 4 ∷ []) $
      by ! (exits passed b (o + k) x new xs.2))))

  entry : 0 < length w.items → ent 𝓤 (on_entry 𝓛 (ended Y).signature z.0.0 z.0.1 z.0.3 z.0.4) (WpFn 𝓤 H C Λ (function Y) (ps ++ []) Post)
  entry asked =
      qed 𝓛 ((‵ (flft κ z.0.1.0) ⊛ ‵ (flft μ z.0.1.1.0) ⊛ ‵ ftrue) ∷ ‵ (owns (MutRef (named 0) κ S ∷ []) z.0.3 z.0.4) ∷ []) ∵
      split3 ! $ move ! (3 ∷ []) $ fsplit ! $ fsplit3 ! $ feq_l ! (λ e. keep ! (0 ∷ 1 ∷ 3 ∷ 4 ∷ []) $
      by ! (subst (λ (ws : List Val). ent 𝓤 (⋆ 𝓛 (Had w)) (WpFn 𝓤 H C Λ (function Y) (ws ++ []) Post)) (sym e) (walk e asked)))

meets : (Y : RattleType) {M : Type 1} {𝓤 : Ura M} (𝓛 : Logic 𝓤) (𝓣 : Tables 𝓤 𝓛.H)
    → Meets 𝓛 (ended Y).signature (WpFn 𝓤 𝓛.H 𝓣.C 𝓣.Λ (function Y)) (closing 𝓛 (ended Y) (spec Y 𝓤))
meets Y {𝓤 = 𝓤} 𝓛 𝓣 =
    walk_Meets 𝓛 (ended Y) (stayed Y) (Goes-ref 𝓛 2 0 tt (plain (λ κs. W.the_row (named_lft 2 1 tt κs) (R Y))), tt)
    (spec Y 𝓤) (WpFn 𝓤 𝓛.H 𝓣.C 𝓣.Λ (function Y)) (WpFn-mono 𝓤 𝓛.H 𝓛.laws 𝓣 (function Y))
    (λ z. needs 𝓤 (0 < length z.0.3.0.now.items) _ (entry Y 𝓛 𝓣.C 𝓣.Λ z))

pub step_spec : {M : Type 1} → stated.statement M
unfolding tables_of
step_spec 𝓤 𝓛 𝓜 𝓡 wired Y L y =
    let A = 𝓛.A in
    let 𝓣 : Tables 𝓤 𝓛.H = tables_of 𝓤 𝓛.H 𝓜 (tables 𝓤 𝓛.H 𝓜 𝓡 𝓡.env) in
    let S = (ended Y).signature in
    let c = closing 𝓛 (ended Y) (spec Y 𝓤) in
    let k = #self (args Y) in
    spared 𝓛 S (𝓡.run (𝓡.env k)) (run_framed 𝓤 𝓛.H 𝓜 𝓡 (𝓡.env k)) 1 (Y.lives, tt) c
    (entered 𝓤 𝓛.H (triple_of 𝓛 S c) 𝓣.C 𝓣.Λ k (function Y) (code.unfolded 𝓤 𝓛.H 𝓜 𝓡 wired (Y, tt)) (meets Y 𝓛 𝓣))
    ((y.0.0, y.0.1, (y.0.2.0, tt), y.0.3, y.0.4), y.1)
