-- Steps of the walks over nodes: the two words and what the nodes own, one node and the others, a node's parts.
use mathlib.Core.Path.{◌≡◌, refl, ap, ◌∙◌}
use Prim.Native.Nat.{ℕ, ◌+◌, ◌<◌}
use native.Mathlib.Omega.{arith}
use mathlib.Core.List.{List, [], ◌∷◌, ◌++◌}
use lib.ListN.{length}
use seplogic.Ra.Ura.{Ura}
use base.Fraction.{full_share}
use base.Stored.{Gv}
use mir.Syntax.{Ty, ty_ptr}
use mir.Val.{Val, vstruct, vcons, vnil, of_list}
use mir.Raw.{raw as bare}
use base.Logic.{ent, sep, never, fst∗, apply∗}
use base.Fml.{Fml, Lft, GName, Share, fsep, feq, fat, froom, flft, fobs, fauth, fbor, fobor}
use types.Logic.{Logic, sem}
use types.Kit.{Item, Goal, Seq, Step, Soaks, step, ‵, some, given, ◌⊛◌, ◌$◌, ◌∵◌, !, qed, by, move, keep, drop, use1, use2, pick, learn, group, split, fsplit, fsplit3, fjoin, fjoin3, fpick, fpack, feq_i, feq_l, rewrite, done}
use types.SemTy.{Body as Borrowed}
use denote.RattleType.{RattleType, Valss}
use denote.Memory.{cell_at, part_at, mem}
use denote.RawPtr.{Ptr, RawPtr, block_ptr, null_ptr, ptr_val, lies_at, in_a_block, ◌+ₚ◌}
use denote.Steps.{nothing, only, opens, closes}
use denote.Struct.Struct.{within}
use denote.Struct.Owning.{Owning, shape}
use borrow.Table.OneValue.{part_in, part_out}
use Rattle.core.proofs.alloc.Calls.{α, token, Fits}
use Rattle.std_alloc.proofs.RawLayout.{as_raw}
use Rattle.std_alloc.proofs.RcSteps.{Good}
use Rattle.std_alloc.proofs.BoxSteps.Form.{Bx, X, τ, own, R, P}
use Rattle.std_alloc.proofs.BoxSteps.Steps.{el_out}
use Rattle.block_list.specs.declared.nodes.Nodes.{Nodes}
use Rattle.block_list.specs.contracts.nodes.Nodes as N
use Rattle.block_list.specs.Links.{Link}
use Rattle.block_list.specs.Ownership.{elem_offset, handle_offset, node_type, fields_rejoin, frees, node_owns, chain_owns}

-- the first of a list that is not empty, and the rest
pub first_of : {Y : Type 0} (xs : List Y) → 0 < length xs → (y : Y) × (ys : List Y) × (xs ≡ y ∷ ys)
first_of [] p = absurd (omega arith)
first_of (y ∷ ys) p = (y, ys, refl)

-- the last of a list that has a first, and those before it
last_from : {Y : Type 0} (x : Y) (xs : List Y) → (ys : List Y) × (y : Y) × (x ∷ xs ≡ ys ++ y ∷ [])
last_from x [] = ([], x, refl)
last_from x (z ∷ zs) = let on = last_from z zs in (x ∷ on.0, on.1, ap (λ l. x ∷ l) on.2)

-- the last of a list that is not empty, and those before it
pub last_of : {Y : Type 0} (xs : List Y) → 0 < length xs → (ys : List Y) × (y : Y) × (xs ≡ ys ++ y ∷ [])
last_of [] p = absurd (omega arith)
last_of (x ∷ xs) p = last_from x xs

-- the two words of `Nodes`
abbrev pub words : Ptr → Ptr → Val
words h t = vstruct (vcons (ptr_val h) (vcons (ptr_val t) vnil))

-- a node as the machine sees it
abbrev pub node_val : Ptr → Val → Val → Val
node_val n v hv = vstruct (vcons (ptr_val n) (vcons v (vcons hv vnil)))

-- a cell that holds a pointer
abbrev pub pointer : ℕ → ℕ → Ptr → Fml
pointer b o p = fat full_share ty_ptr b o (ptr_val p)

module _ (E : Bx) where
  -- the handles
  abbrev pub Hd : Type 0
  Hd = E.al.row.Denot

  -- the nodes
  abbrev pub D : Type 0
  D = Nodes (X E) Hd

  -- the type of `Nodes`, with what it owns
  abbrev pub owning : Owning
  owning = N.the_type (R E) (P E) E.al.g

  -- its row
  abbrev pub Nr : RattleType
  Nr = N.the_row (R E) (P E) E.al.g

  -- where a node's element lies
  abbrev pub eo : ℕ
  eo = elem_offset (R E)

  -- where a node's handle lies
  abbrev pub ho : ℕ
  ho = handle_offset (R E) (P E)

  -- the machine's type of a node
  abbrev pub block_ty : Ty
  block_ty = node_type (R E) (P E)

  -- what nodes own
  abbrev pub Held : List (Link × Hd) → List (X E) → Fml
  Held = chain_owns (R E) (P E) (token E.al)

  -- what frees a node
  abbrev pub Frees : Ptr → Hd → Fml
  Frees = frees (R E) (P E) (token E.al)

  -- what one node owns
  abbrev pub One : Link × Hd → X E → Fml
  One = node_owns (R E) (P E) (token E.al)

module _ (E : Bx) {M : Type 1} {𝓤 : Ura M} (𝓛 : Logic 𝓤) where
  -- two rows apart are one row
  pub append_in : (ns ms : List (Link × Hd E)) (xs ys : List (X E)) → length ns ≡ length xs
      → ent 𝓤 (sep 𝓤 (sem 𝓛 (Held E ns xs)) (sem 𝓛 (Held E ms ys))) (sem 𝓛 (Held E (ns ++ ms) (xs ++ ys)))
  append_in [] ms [] ys e = qed 𝓛 (‵ (Held E [] []) ∷ ‵ (Held E ms ys) ∷ []) ∵ drop ! $ done !
  append_in [] ms (x ∷ xs) ys e = absurd (omega arith)
  append_in (n ∷ ns) ms [] ys e = absurd (omega arith)
  append_in (n ∷ ns) ms (x ∷ xs) ys e = qed 𝓛 (‵ (Held E (n ∷ ns) (x ∷ xs)) ∷ ‵ (Held E ms ys) ∷ []) ∵
      fsplit ! $ move ! (1 ∷ 2 ∷ [])
      $ use2 𝓛 (‵ (Held E (ns ++ ms) (xs ++ ys))) (append_in ns ms xs ys (omega arith)) $
      move ! (1 ∷ 0 ∷ []) $ fjoin ! $ done !

  -- one row is two rows apart
  pub append_out : (ns ms : List (Link × Hd E)) (xs ys : List (X E)) → length ns ≡ length xs
      → ent 𝓤 (sem 𝓛 (Held E (ns ++ ms) (xs ++ ys))) (sep 𝓤 (sem 𝓛 (Held E ns xs)) (sem 𝓛 (Held E ms ys)))
  append_out [] ms [] ys e = qed 𝓛 (‵ (Held E ms ys) ∷ []) ∵ nothing ! $ done !
  append_out [] ms (x ∷ xs) ys e = absurd (omega arith)
  append_out (n ∷ ns) ms [] ys e = absurd (omega arith)
  append_out (n ∷ ns) ms (x ∷ xs) ys e = qed 𝓛 (‵ (Held E (n ∷ ns ++ ms) (x ∷ xs ++ ys)) ∷ []) ∵
      fsplit ! $ move ! (1 ∷ []) $
      use1 𝓛 (‵ (Held E ns xs) ⊛ ‵ (Held E ms ys)) (append_out ns ms xs ys (omega arith)) $ split ! $
      move ! (2 ∷ 0 ∷ []) $ fjoin ! $ done !

  -- the last node apart from those before it
  pub last_out : (ns : List (Link × Hd E)) (n : Link × Hd E) (xs : List (X E)) (x : X E) → length ns ≡ length xs
      → ent 𝓤 (sem 𝓛 (Held E (ns ++ n ∷ []) (xs ++ x ∷ []))) (sep 𝓤 (sem 𝓛 (One E n x)) (sem 𝓛 (Held E ns xs)))
  last_out ns n xs x e = qed 𝓛 (‵ (Held E (ns ++ n ∷ []) (xs ++ x ∷ [])) ∷ []) ∵
      use1 𝓛 (‵ (Held E ns xs) ⊛ ‵ (Held E (n ∷ []) (x ∷ []))) (append_out ns (n ∷ []) xs (x ∷ []) e) $ split ! $
      move ! (1 ∷ []) $ fsplit ! $ keep ! (0 ∷ 2 ∷ []) $ done !

  -- and put back
  pub last_in : (ns : List (Link × Hd E)) (n : Link × Hd E) (xs : List (X E)) (x : X E) → length ns ≡ length xs
      → ent 𝓤 (sep 𝓤 (sem 𝓛 (One E n x)) (sem 𝓛 (Held E ns xs))) (sem 𝓛 (Held E (ns ++ n ∷ []) (xs ++ x ∷ [])))
  last_in ns n xs x e = qed 𝓛 (‵ (One E n x) ∷ ‵ (Held E ns xs) ∷ []) ∵ nothing ! $ move ! (1 ∷ 0 ∷ []) $ fjoin ! $
      move ! (1 ∷ 0 ∷ []) $ by ! (append_in ns (n ∷ []) xs (x ∷ []) e)

module _ {M : Type 1} {𝓤 : Ura M} {𝓛 : Logic 𝓤} {K : Type 0} {Γ : List (Item 𝓤)} {G : Goal 𝓤 𝓛.H} where
  -- a pointer that lies in a part is a cell
  pointer_out : K → (p : Ptr) (b o : ℕ)
      → Step K 𝓛 (‵ (pointer b o p) ∷ Γ) G (‵ (part_at RawPtr full_share p b o) ∷ Γ) G
  pointer_out t p b o = use1 𝓛 (‵ (pointer b o p)) (qed 𝓛 (‵ (part_at RawPtr full_share p b o) ∷ []) {P = sem 𝓛 (pointer b o p)} (
      use1 𝓛 (some (λ (v : Val). ‵ (fat full_share ty_ptr b o v) ⊛ ‵ (feq (List Val) (v ∷ [])
      (ptr_val p ∷ [])))) (part_out 𝓛 RawPtr refl full_share p b o) $
      pick ! (λ v. split ! $ move ! (1 ∷ []) $ feq_l ! (λ e.
      rewrite ! 0 (λ (w : Val). ‵ (fat full_share ty_ptr b o w)) (ap only e) refl $ done !))))

  -- and back
  pointer_in : K → (p : Ptr) (b o : ℕ)
      → Step K 𝓛 (‵ (part_at RawPtr full_share p b o) ∷ Γ) G (‵ (pointer b o p) ∷ Γ) G
  pointer_in t p b o = step (λ s.
      feq_i t (List Val) (ptr_val p ∷ []) (ptr_val p ∷ []) refl $ move t (1 ∷ 0 ∷ []) $
      use2 𝓛 (‵ (part_at RawPtr full_share p b o)) (part_in 𝓛 RawPtr refl full_share p b o (ptr_val p)) $ s)

module _ (E : Bx) {M : Type 1} {𝓤 : Ura M} {𝓛 : Logic 𝓤} {K : Type 0} {Γ : List (Item 𝓤)} {G : Goal 𝓤 𝓛.H} where
  open 𝓛 use {H}

  -- `Nodes` by value: its words, and what the nodes own
  nodes_had : K → (d : D E) (vs : List Val) → (vs ≡ words d.head d.tail ∷ []
      → Seq K 𝓛 (‵ (Held E d.blocks d.items) ∷ Γ) G)
      → Seq K 𝓛 (‵ ((Nr E).own_val d vs) ∷ Γ) G
  nodes_had t d vs k =
      fsplit t $ fpick t (λ vss. fsplit t $ feq_l t (λ all. fsplit t $ feq_l t (λ e₀. fsplit t $ feq_l t
      (λ e₁. drop t $
      k (all ∙ (λ i. vstruct (of_list (e₀ i ++ (e₁ i ++ []))) ∷ []))))))

  -- and made of them
  pub nodes_made : K → (d : D E)
      → Step K 𝓛 (‵ ((Nr E).own_val d (words d.head d.tail ∷ [])) ∷ Γ) G (‵ (Held E d.blocks d.items) ∷ Γ) G
  nodes_made t d = step (λ s.
      let v = words d.head d.tail in
      nothing t $
      feq_i t (List Val) (ptr_val d.tail ∷ []) (ptr_val d.tail ∷ []) refl $ fjoin t $
      feq_i t (List Val) (ptr_val d.head ∷ []) (ptr_val d.head ∷ []) refl $ fjoin t $
      feq_i t (List Val) (v ∷ []) (v ∷ []) refl $ fjoin t $
      fpack t (Valss (shape (owning E)).fields) (within (shape (owning E)) (d.head, (d.tail, tt)) (v ∷ []))
      (ptr_val d.head ∷ [], (ptr_val d.tail ∷ [], tt)) $ fjoin t $ s)

  -- a node is its element, its pointer, and what frees it
  pub one_opens : K → (l : Link) (h : Hd E) (x : X E)
      → ((b o : ℕ) → l.0 ≡ block_ptr b o → Seq K 𝓛 (‵ (part_at (R E) full_share x b (o + eo E))
      ∷ ‵ (pointer b (o + 0) l.1) ∷ ‵ (Frees E (block_ptr b o) h) ∷ Γ) G)
      → Seq K 𝓛 (‵ (One E (l, h) x) ∷ Γ) G
  one_opens t l h x k =
      in_a_block t l.0 (λ p. One E ((p, l.1), h) x)
      (fst∗ 𝓤 (never 𝓤) (sem 𝓛 (fsep (lies_at RawPtr full_share (null_ptr +ₚ 0) l.1) (Frees E null_ptr h)))) (λ b o e.
      fsplit3 t $ move t (1 ∷ []) $ pointer_out t l.1 b (o + 0) $ move t (1 ∷ 0 ∷ 2 ∷ []) $ k b o e)

  -- and made of them
  pub one_closes : K → (b o : ℕ) (n : Ptr) (h : Hd E) (x : X E)
      → Step K 𝓛 (‵ (One E ((block_ptr b o, n), h) x) ∷ Γ) G (‵ (part_at (R E) full_share x b (o + eo E))
      ∷ ‵ (pointer b (o + 0) n) ∷ ‵ (Frees E (block_ptr b o) h) ∷ Γ) G
  one_closes t b o n h x = step (λ s. move t (1 ∷ []) $ pointer_in t n b (o + 0) $ move t (1 ∷ 0 ∷ 2 ∷ [])
      $ fjoin3 t $ s)

  -- a node's cells are read: [`next`; the element's; the handle's; the way back; the token; the handle; the element]
  pub node_unmade : K → (b o : ℕ) (n : Ptr) (h : Hd E) (x : X E)
      → ((v hv : Val) → Good (τ E) v → Fits E.al hv → Seq K 𝓛 (‵ (pointer b (o + 0) n)
      ∷ ‵ (fat full_share (τ E) b (o + eo E) v) ∷ ‵ (fat full_share (α E.al) b (o + ho E) hv)
      ∷ ‵ (fields_rejoin (R E) (P E) (block_ptr b o)) ∷ ‵ (token E.al h (block_ty E) (block_ptr b o))
      ∷ ‵ (E.al.row.own_val h (hv ∷ [])) ∷ ‵ (own E x (v ∷ [])) ∷ Γ) G)
      → Seq K 𝓛 (‵ (part_at (R E) full_share x b (o + eo E)) ∷ ‵ (pointer b (o + 0) n)
      ∷ ‵ (Frees E (block_ptr b o) h) ∷ Γ) G
  node_unmade t b o n h x k =
      use1 𝓛 (some (λ (v : Val). given (Good (τ E) v) (‵ (fat full_share (τ E) b (o + eo E) v)
      ⊛ ‵ (own E x (v ∷ []))))) (el_out E 𝓛 x b (o + eo E)) $
      pick t (λ v. learn t (λ good. split t $
      -- [the element's cell; the element; `next`; what frees the node]
      move t (3 ∷ []) $ fsplit3 t $
      use1 𝓛 (some (λ (u : Val). ‵ (fat full_share (α E.al) b (o + ho E) u)
      ⊛ ‵ (E.al.row.own_val h (u ∷ [])))) (part_out 𝓛 (P E) refl full_share h b (o + ho E)) $
      pick t (λ hv. split t $
      use1 𝓛 (given (Fits E.al hv) (‵ (fat full_share (α E.al) b (o + ho E) hv))) (𝓛.laws.at_wt full_share (α E.al) b (o + ho E) hv) $ learn t (λ fa.
      -- [the handle's cell; the handle; the token; the way back; the element's cell; the element; `next`]
      move t (6 ∷ 4 ∷ 0 ∷ 3 ∷ 2 ∷ 1 ∷ 5 ∷ []) $ k v hv good fa))))

  -- the cells are given back empty, and make the whole block
  pub block_back : K → (b o : ℕ) (n : Ptr) (v hv : Val)
      → Step K 𝓛 (‵ (froom (block_ty E) b o) ∷ Γ) G
      (‵ (pointer b (o + 0) n) ∷ ‵ (fat full_share (τ E) b (o + eo E) v)
      ∷ ‵ (fat full_share (α E.al) b (o + ho E) hv) ∷ ‵ (fields_rejoin (R E) (P E) (block_ptr b o)) ∷ Γ) G
  block_back t b o n v hv = step (λ next.
      use1 𝓛 (‵ (froom ty_ptr b (o + 0))) (𝓛.laws.at_room ty_ptr b (o + 0) (ptr_val n)) $ move t (1 ∷ []) $
      use1 𝓛 (‵ (froom (τ E) b (o + eo E))) (𝓛.laws.at_room (τ E) b (o + eo E) v) $ as_raw t (τ E) b (o + eo E)
      $ move t (2 ∷ []) $
      use1 𝓛 (‵ (froom (α E.al) b (o + ho E))) (𝓛.laws.at_room (α E.al) b (o + ho E) hv)
      $ as_raw t (α E.al) b (o + ho E) $
      move t (2 ∷ 1 ∷ 0 ∷ []) $ group t 3 $
      use2 𝓛 (‵ (froom (block_ty E) b o))
      (apply∗ 𝓤 (sep 𝓤 (H.room ty_ptr b (o + 0))
      (sep 𝓤 (H.room (bare (τ E)) b (o + eo E)) (H.room (bare (α E.al)) b (o + ho E)))) (H.room (block_ty E) b o)) $ next)

module _ (E : Bx) {M : Type 1} {𝓤 : Ura M} {𝓛 : Logic 𝓤} {K : Type 0} {Γ : List (Item 𝓤)} {G : Goal 𝓤 𝓛.H} where
  -- behind a `&mut`: [the nodes; the words; the open borrow; obs; auth]
  pub nodes_opens : K → Soaks G → {κ : Lft} {q : Share} {γ : GName} (d : D E) (rb ro : ℕ)
      → Step K 𝓛 (‵ (Held E d.blocks d.items) ∷ ‵ (cell_at full_share (Nr E).mir (words d.head d.tail ∷ []) rb ro)
      ∷ ‵ (fobor κ q (Borrowed (mem (Nr E)) rb ro γ)) ∷ ‵ (fobs γ ((Nr E).coded.code d))
      ∷ ‵ (fauth γ ((Nr E).coded.code d)) ∷ Γ) G
      (‵ (fobs γ ((Nr E).coded.code d)) ∷ ‵ (fbor κ (Borrowed (mem (Nr E)) rb ro γ)) ∷ ‵ (flft κ q) ∷ Γ) G
  nodes_opens t z d rb ro = step (λ s.
      opens t z (Nr E) {h = d} rb ro (λ vs. move t (1 ∷ []) $ nodes_had E t d vs (λ is.
      rewrite t 1 (λ (ws : List Val). ‵ (cell_at full_share (Nr E).mir ws rb ro)) is refl $ s)))

  -- and shut again
  pub nodes_closes : K → Soaks G → {κ : Lft} {q : Share} {u v : Gv} {γ : GName} (d : D E) (rb ro : ℕ)
      → Step K 𝓛 (‵ (fobs γ ((Nr E).coded.code d)) ∷ ‵ (fbor κ (Borrowed (mem (Nr E)) rb ro γ)) ∷ ‵ (flft κ q) ∷ Γ) G
      (‵ (Held E d.blocks d.items) ∷ ‵ (cell_at full_share (Nr E).mir (words d.head d.tail ∷ []) rb ro)
      ∷ ‵ (fobor κ q (Borrowed (mem (Nr E)) rb ro γ)) ∷ ‵ (fobs γ u) ∷ ‵ (fauth γ v) ∷ Γ) G
  nodes_closes t z d rb ro = step (λ s. nodes_made E t d $ move t (1 ∷ 0 ∷ [])
      $ closes t z (Nr E) d (words d.head d.tail ∷ []) rb ro $ s)
