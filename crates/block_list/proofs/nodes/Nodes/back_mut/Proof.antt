-- `back_mut` lends the last element, and the nodes follow it.
use mathlib.Core.Path.{◌≡◌, refl, sym, ap, subst, ◌∙◌}
use Prim.Native.Nat.{ℕ, ◌+◌, ◌-◌, ◌<◌}
use native.Mathlib.Omega.{arith}
use mathlib.Core.List.{List, [], ◌∷◌, ◌++◌, map-append}
use lib.ListN.{length, get_or, set, length-append}
use lib.Seq.{set_at, get_or_at}
use seplogic.Ra.Ura.{Ura}
use base.Fraction.{full_share}
use mir.Syntax.{Fn, named}
use mir.MapTy.{inst_fn}
use mir.Val.{Val, vptr}
use base.Logic.{SProp, ent, sep}
use base.Fml.{Lft, GName, Share, Fml, ftrue, fsep, flft, fobs, fbor}
use prog.Wp.{Env, Calls, Loops, WpFn, Tables}
use types.Logic.{Logic, sem}
use contract.Monad.{fact}
use sound.WpLaws.{WpFn-mono}
use types.Kit.{Item, ⋆, ‵, raw, ◌⊛◌, some, later, await, pick, at_ret, ◌$◌, ◌∵◌, !, qed, by, move, keep, use1, use2, split, join, group, rewrite, fsplit, fsplit3, fjoin, fjoin3, fpack, feq_l, suffices, frame, done}
use types.Part.{whole, sub, look_in}
use types.Run.{stop, fld, load, of_opd, addr, first, blocks, exec, returns, enter}
use types.ByLocal.{alloc_all, pass_all, free_all, look_at, get, through, sets, sets_last, is, env}
use types.SemTy.{Body as Borrowed}
use denote.Exit.{no}
use denote.RattleType.{owns}
use denote.Memory.{cell_at, part_at, part_of, mem}
use denote.RawPtr.{Ptr, block_ptr, ptr_val}
use denote.Ref.{MutBor, MutRef}
use denote.Builtin.{RefMutOf}
use denote.Follow.{follows, Part, lends_Part}
use denote.Signature.{plain, mut_ref_to}
use denote.Steps.{nothing}
use denote.Triple.Clauses.{Clauses, Ended, closing}
use denote.Triple.Entry.{on_entry}
use denote.Triple.Spec.{Meets}
use denote.Triple.Walked.{says, needs, Stays, stay_dropped, walk_of, ends_at, Goes-spent_ref, walk_Meets}
use Rattle.std_alloc.proofs.VecSteps.Shapes.{after}
use Rattle.std_alloc.proofs.BoxSteps.Form.{Bx, args, X, R}
use Rattle.block_list.specs.Links.{Link, links_of, IsLinked}
use Rattle.block_list.specs.Following.{with_last}
use Rattle.block_list.proofs.Linking.{IsLinked-had, IsLinked-last}
use Rattle.block_list.proofs.Signing.{signed, to_nodes}
use Rattle.block_list.proofs.Standing.{boxed, here, stands}
use Rattle.block_list.proofs.Steps.{last_of, words, Hd, D, Nr, eo, Held, One, last_out, last_in, nodes_made, nodes_opens, one_opens, one_closes, pointer, Frees}
use Rattle.block_list.specs.contracts.nodes.Nodes.back_mut.Key.{name as #self}
use Rattle.block_list.proofs.nodes.Nodes.back_mut.Statement as stated
use Rattle.block_list.proofs.nodes.Nodes.back_mut.Code as code

module _ (E : Bx) where
  abbrev function : Fn
  function = inst_fn (args E) code.function

  abbrev ended : Ended
  ended = record {
    signature = signed 1 (to_nodes E 0 tt ∷ []) (RefMutOf (0 ∷ []) tt (plain (λ _. R E)) (λ _. tt));
    kept = (no, tt);
  }

  abbrev stayed : Stays ended.signature.params ended.kept
  stayed = (stay_dropped (mut_ref_to (0 ∷ []) tt (plain (λ _. Nr E))) no, tt)

  abbrev place : D E → ℕ
  place d = length d.items - 1

  abbrev spec : {M : Type 1} {𝓤 : Ura M} (𝓛 : Logic 𝓤) → Clauses 𝓤 ended
  spec {𝓤 = 𝓤} 𝓛 κs a = record {
    ghost = Unit {0};
    requires = λ _. fact 𝓤 (0 < length a.0.now.items);
    ensures = λ _ r _. sep 𝓤 (sem 𝓛 (follows (Nr E) (R E) a.0.ghost_name r.ghost_name (with_last a.0.now))) (fact 𝓤 (r.now ≡ get_or a.0.now.items (place a.0.now) r.now));
  }

module _ (E : Bx) {M : Type 1} {𝓤 : Ura M} (𝓛 : Logic 𝓤) (C : Calls 𝓤 𝓛.H) (Λ : Loops 𝓤 𝓛.H) (κ : Lft) (q : Share) (rb ro : ℕ) (γ : GName) (d : D E) (ps : List Val) where
  open 𝓛 use {H, A}

  abbrev self : MutBor (D E)
  self = record { ref_ptr = (rb, ro); ghost_name = γ; now = d }

  abbrev bound : (walk_of 𝓛 (ended E) (stayed E) (spec E 𝓛)).Ghost
  bound = (((κ, tt), (q, tt), tt, (self, tt), (ps, tt)), tt)

  abbrev Post : Val → SProp 𝓤
  Post = (walk_of 𝓛 (ended E) (stayed E) (spec E 𝓛)).post bound

  abbrev new : X E → D E
  new = with_last d

  module _ (m : Link × Hd E) (b o : ℕ) (Others : Fml) where
    -- all but the element
    abbrev Rest : Fml
    Rest = fsep (pointer b (o + 0) m.0.1) (fsep (Frees E (block_ptr b o) m.1) (fsep Others (cell_at full_share (Nr E).mir (words d.head d.tail ∷ []) rb ro)))

    -- with an element in its place the nodes are whole
    back : m.0.0 ≡ block_ptr b o → ((w : X E) → ent 𝓤 (sep 𝓤 (sem 𝓛 (One E m w)) (sem 𝓛 Others)) (sem 𝓛 (Held E d.blocks (new w).items)))
        → (w : X E) → ent 𝓤 (sep 𝓤 (sem 𝓛 ((mem (R E)).own_at w b (o + eo E))) (sem 𝓛 Rest)) (sem 𝓛 ((mem (Nr E)).own_at (new w) rb ro))
    unfolding part_of
    back e mend w =
        qed 𝓛 (‵ (part_at (R E) full_share w b (o + eo E)) ∷ ‵ Rest ∷ []) ∵ move ! (1 ∷ []) $ fsplit3 ! $ move ! (2 ∷ []) $ fsplit ! $
        -- [the others; the words; `next`; what frees the node; the element]
        move ! (4 ∷ 2 ∷ 3 ∷ []) $
        one_closes E ! b o m.0.1 m.1 w $ rewrite ! 0 (λ (p : Ptr). ‵ (One E ((p, m.0.1), m.1) w)) (sym e) refl $
        use2 𝓛 (‵ (Held E d.blocks (new w).items)) (mend w) $ nodes_made E ! (new w) $ move ! (1 ∷ 0 ∷ []) $ fjoin ! $
        fpack ! (List Val) (λ vs. fsep (cell_at full_share (Nr E).mir vs rb ro) ((Nr E).own_val (new w) vs)) (words d.head d.tail ∷ []) $ done !

  exits : (b o : ℕ) (x : X E) → x ≡ get_or d.items (place E d) x → (δ : GName)
      → ent 𝓤 (sep 𝓤 (sem 𝓛 ((MutRef (named 0) κ (R E)).own_val (record { ref_ptr = (b, o); ghost_name = δ; now = x }) (vptr b o ∷ []))) (sep 𝓤 (A.lft κ q) (sem 𝓛 (follows (Nr E) (R E) γ δ new)))) (Post (vptr b o))
  exits b o x e δ =
      qed 𝓛 (‵ ((MutRef (named 0) κ (R E)).own_val (record { ref_ptr = (b, o); ghost_name = δ; now = x }) (vptr b o ∷ [])) ∷ ‵ (flft κ q) ∷ ‵ (follows (Nr E) (R E) γ δ new) ∷ []) ∵
      suffices ! _ (ends_at 𝓛 (ended E) (stayed E) (spec E 𝓛) bound (vptr b o) (record { ref_ptr = (b, o); ghost_name = δ; now = x }) (tt, tt) (tt, tt)) $
      nothing ! $ nothing ! $ fjoin ! $ join ! $ nothing ! $ move ! (2 ∷ 0 ∷ []) $ join ! $ join ! $ frame ! $ says ! e $ done !

  abbrev Had : List (Item 𝓤)
  Had = ‵ (fobs γ ((Nr E).coded.code d)) ∷ ‵ (fbor κ (Borrowed (mem (Nr E)) rb ro γ)) ∷ ‵ (flft κ q) ∷ []

  walk : 0 < length d.items → ent 𝓤 (⋆ 𝓛 Had) (WpFn 𝓤 H C Λ (function E) (vptr rb ro ∷ []) Post)
  walk asked =
      let same = d.counted in
      let ns = last_of d.blocks (omega arith) in
      let xs = last_of d.items asked in
      let m = ns.1 in
      let x = xs.1 in
      let long = ap length ns.2 ∙ length-append ns.0 (m ∷ []) in
      let many = ap length xs.2 ∙ length-append xs.0 (x ∷ []) in
      let even : length ns.0 ≡ length xs.0 = omega arith in
      let last = IsLinked-last d.head d.tail (links_of ns.0) m.0
      (subst (IsLinked d.head d.tail) (ap links_of ns.2 ∙ map-append (λ n. n.0) ns.0 (m ∷ [])) (IsLinked-had _ _ _ d.linked)) in
      let at : length xs.0 ≡ length d.items - 1 = omega arith in
      let Others : Fml = Held E ns.0 xs.0 in
      let written : (w : X E) → set d.items (length d.items - 1) w ≡ xs.0 ++ w ∷ [] =
      λ w. ap (λ ys. set ys (length d.items - 1) w) xs.2 ∙ set_at xs.0 x [] w (length d.items - 1) at in
      let mend : (w : X E) → ent 𝓤 (sep 𝓤 (sem 𝓛 (One E m w)) (sem 𝓛 Others)) (sem 𝓛 (Held E d.blocks (new w).items)) =
      λ w. subst (λ (F : Fml). ent 𝓤 (sep 𝓤 (sem 𝓛 (One E m w)) (sem 𝓛 Others)) (sem 𝓛 F)) (λ i. Held E (sym ns.2 i) (sym (written w) i)) (last_in E 𝓛 ns.0 m xs.0 w even) in
      qed 𝓛 Had ∵ enter ! C Λ (function E) (vptr rb ro ∷ []) _ $ alloc_all ! (λ l. pass_all ! refl ((tt, tt), tt) $
      let En : Env 𝓤 H = env (function E).locals l in
      nodes_opens E ! tt d rb ro $
      rewrite ! 0 (λ (ks : List (Link × Hd E)). ‵ (Held E ks d.items)) ns.2 refl $ rewrite ! 0 (λ (ys : List (X E)). ‵ (Held E (ns.0 ++ m ∷ []) ys)) xs.2 refl $
      use1 𝓛 (‵ (One E m x) ⊛ ‵ (Held E ns.0 xs.0)) (last_out E 𝓛 ns.0 m xs.0 x even) $ split ! $ one_opens E ! m.0 m.1 x (λ b o e.
      let code = (Nr E).coded.code d in
      -- [the node, in three; the others; the words; the open borrow; obs; auth]
      first ! $ blocks ! $ sets ! (is ! (of_opd ! (load ! (through ! refl (fld ! refl (stop !))) (look_in ! 4 (sub ! 1 refl (whole !))))) (ap ptr_val (last ∙ e))) refl (tt, tt) $
      sets_last ! (addr ! (through ! refl (fld ! refl (stop !)))) refl (tt, tt) $ exec ! C Λ En (after 1 (function E).body) (at_ret En Post) $
      sets ! (of_opd ! (get ! refl)) refl (tt, tt) $
      move ! (3 ∷ 4 ∷ []) $ fjoin ! $ move ! (2 ∷ 3 ∷ 0 ∷ []) $ fjoin3 ! $
      -- [all but the element; the element; the open borrow; obs; auth]
      move ! (2 ∷ 3 ∷ 4 ∷ 1 ∷ 0 ∷ []) $ group ! 5 $
      use1 𝓛 (later (some (λ (δ : GName). raw (Part 𝓛 (Nr E) (R E) new (named 0) κ q rb ro b (o + eo E) γ (sem 𝓛 (Rest m b o Others)) (back m b o Others e mend) x δ))))
      (lends_Part 𝓛 (Nr E) (R E) new (named 0) κ q rb ro b (o + eo E) γ (sem 𝓛 (Rest m b o Others)) (back m b o Others e mend) code code x) $ await ! tt $ pick ! (λ δ.
      returns ! (look_at ! 0 refl) $ free_all ! refl $ keep ! (0 ∷ []) $
      by ! (exits b (o + eo E) x (sym (ap (λ ys. get_or ys (length d.items - 1) x) xs.2 ∙ get_or_at xs.0 x [] x (length d.items - 1) at)) δ))))

  entry : 0 < length d.items → ent 𝓤 (on_entry 𝓛 (ended E).signature (κ, tt) (q, tt) (self, tt) (ps, tt)) (WpFn 𝓤 H C Λ (function E) (ps ++ []) Post)
  entry asked =
      qed 𝓛 ((‵ (flft κ q) ⊛ ‵ ftrue) ∷ ‵ (owns (MutRef (named 0) κ (Nr E) ∷ []) (self, tt) (ps, tt)) ∷ []) ∵
      split ! $ move ! (2 ∷ []) $ fsplit ! $ fsplit3 ! $ feq_l ! (λ e. keep ! (0 ∷ 1 ∷ 3 ∷ []) $
      by ! (subst (λ (ws : List Val). ent 𝓤 (⋆ 𝓛 Had) (WpFn 𝓤 H C Λ (function E) (ws ++ []) Post)) (sym e) (walk asked)))

meets : (E : Bx) {M : Type 1} {𝓤 : Ura M} (𝓛 : Logic 𝓤) (𝓣 : Tables 𝓤 𝓛.H)
    → Meets 𝓛 (ended E).signature (WpFn 𝓤 𝓛.H 𝓣.C 𝓣.Λ (function E)) (closing 𝓛 (ended E) (spec E 𝓛))
meets E {𝓤 = 𝓤} 𝓛 𝓣 =
    walk_Meets 𝓛 (ended E) (stayed E) (Goes-spent_ref 𝓛 1 (0 ∷ []) tt (plain (λ _. Nr E)), tt) (spec E 𝓛) (WpFn 𝓤 𝓛.H 𝓣.C 𝓣.Λ (function E)) (WpFn-mono 𝓤 𝓛.H 𝓛.laws 𝓣 (function E))
    (λ z. let a = z.0.3.0 in needs 𝓤 (0 < length a.now.items) _ (entry E 𝓛 𝓣.C 𝓣.Λ z.0.0.0 z.0.1.0 a.ref_ptr.0 a.ref_ptr.1 a.ghost_name a.now z.0.4.0))

pub back_mut_spec : {M : Type 1} → stated.statement M
back_mut_spec 𝓤 𝓛 𝓜 𝓡 wired Y Z L LZ g d dd met md y =
    let E = boxed Y Z L LZ g d dd in
    stands 𝓤 𝓛 𝓜 𝓡 E (ended E) (spec E 𝓛) (#self (args E)) (function E) (code.unfolded 𝓤 𝓛.H 𝓜 𝓡 wired (Y, (Z, tt)) d dd)
    (meets E 𝓛 (here 𝓤 𝓛 𝓜 𝓡)) ((y.0.0, y.0.1, tt, y.0.3, y.0.4), y.1)
