-- `join` lets the last node lead to the other nodes, by two writes.
use mathlib.Core.Path.{◌≡◌, refl, sym, ap, subst, ◌∙◌}
use Prim.Native.Nat.{ℕ, ◌<◌}
use native.Mathlib.Omega.{arith}
use mathlib.Core.List.{List, [], ◌∷◌, ◌++◌, map-append}
use lib.ListN.{length, length-append}
use seplogic.Ra.Ura.{Ura}
use mir.Syntax.{Fn, named}
use mir.MapTy.{inst_fn}
use mir.Val.{Val, vptr, vunit}
use base.Logic.{SProp, ent}
use base.Fml.{Lft, GName, Share, ftrue, flft, fobs, fbor}
use prog.Wp.{Env, Calls, Loops, WpFn, Tables}
use types.Logic.{Logic}
use contract.Monad.{fact}
use sound.WpLaws.{WpFn-mono}
use types.Kit.{Item, ⋆, ‵, ◌⊛◌, at_ret, ◌$◌, ◌∵◌, !, qed, by, move, keep, use1, use2, split, split3, join, rewrite, fsplit3, fjoin, fjoin3, feq_i, feq_l, suffices, frame, done}
use types.Part.{whole, sub, look_in, store_in}
use types.Run.{store, stop, fld, load, unit_lit, of_opd, assigns, assigns_last, first, blocks, exec, returns, enter}
use types.ByLocal.{alloc_all, pass_all, free_all, look_at, get, through, sets, is, env}
use types.SemTy.{Body as Borrowed}
use denote.Exit.{yes}
use denote.RattleType.{owns}
use denote.Memory.{mem}
use denote.RawPtr.{Ptr, block_ptr, ptr_val}
use denote.Ref.{MutBor, MutRef}
use denote.Builtin.{unit}
use denote.Signature.{plain}
use denote.Steps.{nothing}
use denote.Triple.Clauses.{Clauses, Ended, closing}
use denote.Triple.Entry.{on_entry}
use denote.Triple.Spec.{Meets}
use denote.Triple.Walked.{says, needs, Stays, stay_ref, walk_of, ends_at, Goes-ref, walk_Meets}
use Rattle.std_alloc.proofs.VecSteps.Shapes.{after}
use Rattle.std_alloc.proofs.RcSteps.{Ptr-Good}
use Rattle.std_alloc.proofs.BoxSteps.Form.{Bx, args, X}
use Rattle.block_list.specs.Links.{Link, links_of, IsLinked}
use Rattle.block_list.proofs.Linking.{IsLinked-had, IsLinked-last, IsLinked-join}
use Rattle.block_list.proofs.Signing.{signed, to_nodes}
use Rattle.block_list.proofs.Standing.{boxed, here, stands}
use Rattle.block_list.proofs.Steps.{first_of, last_of, Hd, D, Nr, Held, One, last_out, last_in, append_in, nodes_opens, nodes_closes, one_opens, one_closes}
use Rattle.block_list.specs.contracts.nodes.Nodes.join.Key.{name as #self}
use Rattle.block_list.proofs.nodes.Nodes.join.Statement as stated
use Rattle.block_list.proofs.nodes.Nodes.join.Code as code

module _ (E : Bx) where
  abbrev function : Fn
  function = inst_fn (args E) code.function

  abbrev ended : Ended
  ended = record {
    signature = signed 2 (to_nodes E 0 tt ∷ to_nodes E 1 tt ∷ []) (plain (λ _. unit));
    kept = (yes, (yes, tt));
  }

  abbrev stayed : Stays ended.signature.params ended.kept
  stayed = (stay_ref (0 ∷ []) tt (plain (λ _. Nr E)), (stay_ref (1 ∷ []) tt (plain (λ _. Nr E)), tt))

  abbrev Asks : D E → D E → Type 0
  Asks d c = (0 < length d.items) × (0 < length c.items)

  abbrev Gives : D E → D E → D E → D E → Type 0
  Gives d c new rest = (new.items ≡ d.items ++ c.items) × (rest.items ≡ [])

  abbrev spec : {M : Type 1} {𝓤 : Ura M} (𝓛 : Logic 𝓤) → Clauses 𝓤 ended
  spec {𝓤 = 𝓤} 𝓛 κs a = record {
    ghost = Unit {0};
    requires = λ _. fact 𝓤 (Asks a.0.now a.1.0.now);
    ensures = λ _ r w. fact 𝓤 (Gives a.0.now a.1.0.now w.0.now w.1.0.now);
  }

module _ (E : Bx) {M : Type 1} {𝓤 : Ura M} (𝓛 : Logic 𝓤) (C : Calls 𝓤 𝓛.H) (Λ : Loops 𝓤 𝓛.H) (κ μ : Lft) (q s : Share) (rb ro sb so : ℕ) (γ δ : GName) (d c : D E) (ps us : List Val) where
  open 𝓛 use {H}

  abbrev self : MutBor (D E)
  self = record { ref_ptr = (rb, ro); ghost_name = γ; now = d }

  abbrev other : MutBor (D E)
  other = record { ref_ptr = (sb, so); ghost_name = δ; now = c }

  abbrev bound : (walk_of 𝓛 (ended E) (stayed E) (spec E 𝓛)).Ghost
  bound = (((κ, (μ, tt)), (q, (s, tt)), tt, (self, (other, tt)), (ps, (us, tt))), tt)

  abbrev Post : Val → SProp 𝓤
  Post = (walk_of 𝓛 (ended E) (stayed E) (spec E 𝓛)).post bound

  abbrev Had : D E → D E → List (Item 𝓤)
  Had u v = ‵ (fobs γ ((Nr E).coded.code u)) ∷ ‵ (fbor κ (Borrowed (mem (Nr E)) rb ro γ)) ∷ ‵ (flft κ q)
      ∷ ‵ (fobs δ ((Nr E).coded.code v)) ∷ ‵ (fbor μ (Borrowed (mem (Nr E)) sb so δ)) ∷ ‵ (flft μ s) ∷ []

  exits : ps ≡ vptr rb ro ∷ [] → us ≡ vptr sb so ∷ [] → (new rest : D E) → Gives E d c new rest → ent 𝓤 (⋆ 𝓛 (Had new rest)) (Post vunit)
  exits e f new rest told =
      qed 𝓛 (Had new rest) ∵ suffices ! _ (ends_at 𝓛 (ended E) (stayed E) (spec E 𝓛) bound vunit tt (new, (rest, tt)) (tt, (tt, tt))) $ says ! told $
      nothing ! $ move ! (6 ∷ 0 ∷ []) $ join ! $ move ! (3 ∷ 0 ∷ []) $ join ! $ frame ! $
      feq_i ! (List Val) ps (vptr rb ro ∷ []) e $ fjoin3 ! $ move ! (1 ∷ 2 ∷ []) $
      feq_i ! (List Val) us (vptr sb so ∷ []) f $ fjoin3 ! $ nothing ! $ move ! (1 ∷ 0 ∷ []) $ fjoin ! $ move ! (1 ∷ 0 ∷ []) $ fjoin ! $
      feq_i ! (List Val) (vunit ∷ []) (vunit ∷ []) refl $ move ! (1 ∷ 0 ∷ []) $ done !

  walk : ps ≡ vptr rb ro ∷ [] → us ≡ vptr sb so ∷ [] → Asks E d c → ent 𝓤 (⋆ 𝓛 (Had d c)) (WpFn 𝓤 H C Λ (function E) (vptr rb ro ∷ vptr sb so ∷ []) Post)
  walk passed handed asked =
      let same = d.counted in
      let alike = c.counted in
      let ns = last_of d.blocks (omega arith) in
      let xs = last_of d.items asked.0 in
      let m = ns.1 in
      let long = ap length ns.2 ∙ length-append ns.0 (m ∷ []) in
      let many = ap length xs.2 ∙ length-append xs.0 (xs.1 ∷ []) in
      let even : length ns.0 ≡ length xs.0 = omega arith in
      let linked : IsLinked d.head d.tail (links_of ns.0 ++ m.0 ∷ []) =
      subst (IsLinked d.head d.tail) (ap links_of ns.2 ∙ map-append (λ n. n.0) ns.0 (m ∷ [])) (IsLinked-had _ _ _ d.linked) in
      let last = IsLinked-last d.head d.tail (links_of ns.0) m.0 linked in
      let ks = first_of c.blocks (omega arith) in
      let behind : IsLinked c.head c.tail (ks.0.0 ∷ links_of ks.1) =
      subst (λ js. IsLinked c.head c.tail (links_of js)) ks.2 (IsLinked-had _ _ _ c.linked) in
      let rest : D E = record { head = c.head; tail = c.tail; items = []; blocks = []; counted = refl; linked = ∣ (tt, tt) ∣₁ } in
      qed 𝓛 (Had d c) ∵ enter ! C Λ (function E) (vptr rb ro ∷ vptr sb so ∷ []) _ $ alloc_all ! (λ l. pass_all ! refl ((tt, tt), ((tt, tt), tt)) $
      let En : Env 𝓤 H = env (function E).locals l in
      nodes_opens E ! tt d rb ro $ move ! (5 ∷ 6 ∷ 7 ∷ []) $ nodes_opens E ! tt c sb so $ move ! (5 ∷ []) $
      rewrite ! 0 (λ (js : List (Link × Hd E)). ‵ (Held E js d.items)) ns.2 refl $ rewrite ! 0 (λ (zs : List (X E)). ‵ (Held E (ns.0 ++ m ∷ []) zs)) xs.2 refl $
      use1 𝓛 (‵ (One E m xs.1) ⊛ ‵ (Held E ns.0 xs.0)) (last_out E 𝓛 ns.0 m xs.0 xs.1 even) $ split ! $ one_opens E ! m.0 m.1 xs.1 (λ mb mo e.
      let a : Ptr = block_ptr mb mo in
      let was : Link × Hd E = ((a, c.head), m.1) in
      let front = ns.0 ++ was ∷ [] in
      let zs = xs.0 ++ xs.1 ∷ [] in
      let before : IsLinked d.head d.tail (links_of ns.0 ++ (a, m.0.1) ∷ []) = subst (λ z. IsLinked d.head d.tail (links_of ns.0 ++ (z, m.0.1) ∷ [])) e linked in
      let links : (links_of ns.0 ++ was.0 ∷ []) ++ links_of c.blocks ≡ links_of (front ++ c.blocks) =
      ap (λ ls. ls ++ links_of c.blocks) (sym (map-append (λ n. n.0) ns.0 (was ∷ []))) ∙ sym (map-append (λ n. n.0) front c.blocks) in
      let joined : IsLinked d.head c.tail ((links_of ns.0 ++ was.0 ∷ []) ++ links_of c.blocks) =
      subst (λ js. IsLinked d.head c.tail ((links_of ns.0 ++ was.0 ∷ []) ++ links_of js)) (sym ks.2)
      (IsLinked-join d.head d.tail c.head c.tail (links_of ns.0) (a, m.0.1) ks.0.0 (links_of ks.1) before behind) in
      let new : D E = record {
        head = d.head;
        tail = c.tail;
        items = zs ++ c.items;
        blocks = front ++ c.blocks;
        counted = omega (arith, length-append zs c.items, length-append front c.blocks, length-append ns.0 (was ∷ []), length-append xs.0 (xs.1 ∷ []));
        linked = ∣ subst (IsLinked d.head c.tail) links joined ∣₁;
      } in
      -- [the last node, in three; those before it; the others; their words, borrow, obs and auth; these words, borrow, obs and auth]
      sets ! (is ! (of_opd ! (load ! (through ! refl (fld ! refl (stop !))) (look_in ! 9 (sub ! 1 refl (whole !))))) (ap ptr_val (last ∙ e))) refl (tt, tt) $
      sets ! (of_opd ! (get ! refl)) refl (tt, tt) $ first ! $ blocks ! $
      sets ! (of_opd ! (load ! (through ! refl (fld ! refl (stop !))) (look_in ! 5 (sub ! 0 refl (whole !))))) refl (Ptr-Good c.head) $
      assigns_last ! (of_opd ! (get ! refl)) (through ! refl (fld ! refl (stop !))) (store ! 1 refl (Ptr-Good c.head)) $
      exec ! C Λ En (after 3 (function E).body) (at_ret En Post) $
      sets ! (of_opd ! (load ! (through ! refl (fld ! refl (stop !))) (look_in ! 5 (sub ! 1 refl (whole !))))) refl (Ptr-Good c.tail) $
      assigns ! (of_opd ! (get ! refl)) (through ! refl (fld ! refl (stop !))) (store_in ! 9 (sub ! 1 refl (whole !)) (Ptr-Good c.tail)) $
      sets ! (of_opd ! (unit_lit !)) refl (tt, tt) $
      one_closes E ! mb mo c.head m.1 xs.1 $ use2 𝓛 (‵ (Held E front zs)) (last_in E 𝓛 ns.0 was xs.0 xs.1 even) $
      use2 𝓛 (‵ (Held E new.blocks new.items)) (append_in E 𝓛 front c.blocks zs c.items (omega (arith, length-append ns.0 (was ∷ []), length-append xs.0 (xs.1 ∷ [])))) $
      nothing ! $ move ! (0 ∷ 2 ∷ 3 ∷ 4 ∷ 5 ∷ []) $ nodes_closes E ! tt rest sb so $
      move ! (3 ∷ 4 ∷ 5 ∷ 6 ∷ 7 ∷ []) $ nodes_closes E ! tt new rb ro $
      returns ! (look_at ! 0 refl) $ free_all ! refl $ keep ! (0 ∷ 1 ∷ 2 ∷ 3 ∷ 4 ∷ 5 ∷ []) $
      by ! (exits passed handed new rest (ap (λ ys. ys ++ c.items) (sym xs.2), refl))))

  entry : Asks E d c → ent 𝓤 (on_entry 𝓛 (ended E).signature (κ, (μ, tt)) (q, (s, tt)) (self, (other, tt)) (ps, (us, tt))) (WpFn 𝓤 H C Λ (function E) (ps ++ (us ++ [])) Post)
  entry asked =
      qed 𝓛 ((‵ (flft κ q) ⊛ ‵ (flft μ s) ⊛ ‵ ftrue) ∷ ‵ (owns (MutRef (named 0) κ (Nr E) ∷ MutRef (named 1) μ (Nr E) ∷ []) (self, (other, tt)) (ps, (us, tt))) ∷ []) ∵
      split3 ! $ move ! (3 ∷ []) $ fsplit3 ! $ fsplit3 ! $ feq_l ! (λ e.
      move ! (2 ∷ []) $ fsplit3 ! $ feq_l ! (λ f. keep ! (2 ∷ 3 ∷ 5 ∷ 0 ∷ 1 ∷ 6 ∷ []) $
      by ! (subst (λ (ws : List Val × List Val). ent 𝓤 (⋆ 𝓛 (Had d c)) (WpFn 𝓤 H C Λ (function E) (ws.0 ++ (ws.1 ++ [])) Post)) (λ j. (sym e j, sym f j)) (walk e f asked))))

meets : (E : Bx) {M : Type 1} {𝓤 : Ura M} (𝓛 : Logic 𝓤) (𝓣 : Tables 𝓤 𝓛.H)
    → Meets 𝓛 (ended E).signature (WpFn 𝓤 𝓛.H 𝓣.C 𝓣.Λ (function E)) (closing 𝓛 (ended E) (spec E 𝓛))
meets E {𝓤 = 𝓤} 𝓛 𝓣 =
    walk_Meets 𝓛 (ended E) (stayed E) (Goes-ref 𝓛 2 0 tt (plain (λ _. Nr E)), (Goes-ref 𝓛 2 1 tt (plain (λ _. Nr E)), tt))
    (spec E 𝓛) (WpFn 𝓤 𝓛.H 𝓣.C 𝓣.Λ (function E)) (WpFn-mono 𝓤 𝓛.H 𝓛.laws 𝓣 (function E))
    (λ z. let a = z.0.3.0 in let c = z.0.3.1.0 in needs 𝓤 (Asks E a.now c.now) _
    (entry E 𝓛 𝓣.C 𝓣.Λ z.0.0.0 z.0.0.1.0 z.0.1.0 z.0.1.1.0 a.ref_ptr.0 a.ref_ptr.1 c.ref_ptr.0 c.ref_ptr.1 a.ghost_name c.ghost_name a.now c.now z.0.4.0 z.0.4.1.0))

pub join_spec : {M : Type 1} → stated.statement M
join_spec 𝓤 𝓛 𝓜 𝓡 wired Y Z L LZ g d dd met md y =
    let E = boxed Y Z L LZ g d dd in
    stands 𝓤 𝓛 𝓜 𝓡 E (ended E) (spec E 𝓛) (#self (args E)) (function E) (code.unfolded 𝓤 𝓛.H 𝓜 𝓡 wired (Y, (Z, tt)) d dd)
    (meets E 𝓛 (here 𝓤 𝓛 𝓜 𝓡)) ((y.0.0, y.0.1, tt, y.0.3, y.0.4), y.1)
