-- `into_pieces` moves the pointer and the allocator out of a handle that has a value, with what they own.
use Rattle.std.proofs.Common.{rules, ◌≡◌, [], ◌∷◌, refl, subst}
use Rattle.std.specs.Prelude.{Option, Some, None}
use mir.Val.{Val, vptr}
use mir.Raw.{raw as bare}
use base.Logic.{emp, never, fst∗}
use base.Fml.{ftrue}
use types.Logic.{sem}
use types.Kit.{‵, raw, ◌⊛◌, ◌$◌, ◌∵◌, !, qed, by, move, keep, split, fsplit, fjoin, use0, rewrite}
use types.Run.{stop, fld, of_opd, no_more, and_then, returns}
use types.ByLocal.{alloc_all, pass_all, free_all, look_at, get, get_in, sets}
use types.Part.{agg, sub, whole}
use contract.Monad.{fact, fact_i}
use contract.Running.{tables}
use denote.Exit.{yes}
use denote.RattleType.{RattleType, owns}
use denote.Signature.{types_at, plain}
use denote.Memory.{lone}
use denote.RawPtr.{Ptr, block_ptr, null_ptr, ptr_val, in_a_block}
use denote.Steps.{nothing, heard}
use denote.Triple.Walked.{Stays, stay_dropped, walk_of}
use Rattle.core.proofs.alloc.Calls.{Goes-blank}
use Rattle.std.proofs.raw_atomic.Walks.{proved_at, leaves}
use Rattle.std_alloc.specs.Box.Ownership.{box_owns}
use Rattle.std_heap.specs.contracts.GlobalAllocator.TheImpl.{ghosts}
use Rattle.std_heap.proofs.Global.TheLaws as heap_laws
use Rattle.isearch_c.specs.contracts.held.Held as held
use Rattle.isearch_c.specs.declared.held.Held.{Held}
use Rattle.isearch_c.specs.Handles.{IsFull, held_at}
use Rattle.isearch_c.proofs.Entering.{enters}
use Rattle.isearch_c.proofs.PieceValues.{two, pieces_fit, pieces_in}
use Rattle.isearch_c.proofs.HandleValues.{Z, Handle, handle_out}
use Rattle.isearch_c.specs.contracts.handle.Handle.into_pieces.{ended, clauses}
use Rattle.isearch_c.specs.contracts.handle.Handle.into_pieces.Key.{name as #self}
use Rattle.isearch_c.proofs.handle.Handle.into_pieces.Statement.{statement}
use Rattle.isearch_c.proofs.handle.Handle.into_pieces.Code as code

-- a handle that is full has a value
some_of : (m : Option Held) → IsFull m → (x : Held) × (m ≡ Some x)
some_of None full = absurd (search (full, rules))
some_of (Some x) full = (x, refl)

pub into_pieces_spec : {M : Type 1} → statement M
into_pieces_spec 𝓤 𝓛 𝓜 𝓡 wired =
    let 𝓣 = tables 𝓤 𝓛.H 𝓜 𝓡 𝓡.env in
    let R : RattleType = held.the_row in
    let LZ = heap_laws.the_row_laws in
    let En = ended in
    let c = clauses 𝓛 𝓜.mem 𝓡.returns in
    let stays : Stays En.signature.params En.kept = (stay_dropped (plain (λ _. Handle)) yes, tt) in
    proved_at 𝓛 En stays c 𝓜 𝓡 (Goes-blank 𝓛 0 (plain (λ _. Handle)) yes (λ κs x f. tt), tt) #self code.function (code.unfolded 𝓤 𝓛.H 𝓜 𝓡 wired) (λ z are.
    let v = z.0.3.0 in
    qed 𝓛 ((‵ ftrue ⊛ ‵ (owns (types_at En.signature.params z.0.0) z.0.3 z.0.4)) ∷ raw (fact 𝓤 (IsFull v.held)) ∷ [])
    -- the handle as it comes: there is a value, and the pointer is that of its box
    ∵ move ! (1 ∷ []) $ heard ! (IsFull v.held) (λ full.
    let had = some_of v.held full in
    let x = had.0 in
    let no_null = fst∗ 𝓤 (never 𝓤) (sem 𝓛 (ghosts.dealloc_token v.alloc (bare (lone R.mir)) null_ptr)) in
    split ! $ move ! (1 ∷ []) $ fsplit ! $ handle_out ! v z.0.4.0 (λ h words fits.
    rewrite ! 0 (λ (m : Option Held). ‵ (held_at v.alloc v.at m)) had.1 refl
    $ in_a_block ! v.at (λ p. box_owns (ghosts.dealloc_token v.alloc) R p x) no_null (λ b o e.
    let both : Val = two (vptr b o) h in
    let typed = pieces_fit R Z LZ ghosts b o h fits in
    let are : z.0.4.0 ≡ both ∷ [] = subst (λ (p : Ptr). z.0.4.0 ≡ two (ptr_val p) h ∷ []) e words in
    enters ! 𝓣.C 𝓣.Λ code.function both ((walk_of 𝓛 En stays c).post z) are $ alloc_all ! (λ l. pass_all ! refl (typed, tt)
    $ sets ! (of_opd ! (get_in ! (fld ! refl (stop !)) (sub ! 0 refl (whole !)))) refl (tt, tt)
    $ sets ! (of_opd ! (get_in ! (fld ! refl (stop !)) (sub ! 1 refl (whole !)))) refl fits
    $ sets ! (of_opd ! (get ! refl)) refl (tt, tt)
    $ sets ! (agg ! (and_then ! (get ! refl) (and_then ! (get ! refl) (no_more !)))) refl typed
    -- the pieces own it
    $ pieces_in R Z LZ ghosts ! b o h v.alloc x
    $ use0 𝓛 (raw (fact 𝓤 (v.held ≡ Some x))) (fact_i 𝓤 (v.held ≡ Some x) (emp 𝓤) had.1)
    $ nothing ! $ nothing ! $ fjoin ! $ returns ! (look_at ! 0 refl) $ free_all ! refl $ keep ! (4 ∷ 0 ∷ 2 ∷ 1 ∷ [])
    $ by ! (leaves 𝓛 En stays c z both (record { at = block_ptr b o; alloc = v.alloc; value = x }) (tt, tt) (tt, tt)))))))
