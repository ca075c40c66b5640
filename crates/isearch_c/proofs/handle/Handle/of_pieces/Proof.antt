-- `of_pieces` moves the pointer and the allocator into a handle, with what they own.
use Rattle.std.proofs.Common.{◌≡◌, [], ◌∷◌, refl}
use Rattle.std.specs.Prelude.{Some}
use mir.Val.{Val, vptr}
use base.Logic.{emp}
use base.Fml.{ftrue}
use types.Kit.{‵, raw, ◌⊛◌, ◌$◌, ◌∵◌, !, qed, by, move, keep, split, fsplit, fjoin, use0}
use types.Run.{stop, fld, of_opd, no_more, and_then, returns}
use types.ByLocal.{alloc_all, pass_all, free_all, look_at, get, get_in, sets}
use types.Part.{agg, sub, whole}
use contract.Monad.{fact, fact_i}
use contract.Running.{tables}
use denote.Exit.{yes}
use denote.RattleType.{RattleType, owns}
use denote.Signature.{types_at, plain}
use denote.RawPtr.{block_ptr}
use denote.Steps.{nothing}
use denote.Triple.Walked.{Stays, stay_dropped, walk_of}
use Rattle.core.proofs.alloc.Calls.{Goes-blank}
use Rattle.std.proofs.raw_atomic.Walks.{proved_at, leaves}
use Rattle.std_heap.specs.contracts.GlobalAllocator.TheImpl.{ghosts}
use Rattle.std_heap.proofs.Global.TheLaws as heap_laws
use Rattle.isearch_c.specs.contracts.held.Held as held
use Rattle.isearch_c.proofs.Entering.{enters}
use Rattle.isearch_c.proofs.PieceValues.{two, Pieces, pieces_fit, pieces_out}
use Rattle.isearch_c.proofs.HandleValues.{Z, handle_in}
use Rattle.isearch_c.specs.contracts.handle.Handle.of_pieces.{ended, clauses}
use Rattle.isearch_c.specs.contracts.handle.Handle.of_pieces.Key.{name as #self}
use Rattle.isearch_c.proofs.handle.Handle.of_pieces.Statement.{statement}
use Rattle.isearch_c.proofs.handle.Handle.of_pieces.Code as code

pub of_pieces_spec : {M : Type 1} → statement M
of_pieces_spec 𝓤 𝓛 𝓜 𝓡 wired =
    let 𝓣 = tables 𝓤 𝓛.H 𝓜 𝓡 𝓡.env in
    let R : RattleType = held.the_row in
    let LZ = heap_laws.the_row_laws in
    let P : RattleType = Pieces R Z LZ ghosts in
    let En = ended in
    let c = clauses 𝓛 𝓜.mem 𝓡.returns in
    let stays : Stays En.signature.params En.kept = (stay_dropped (plain (λ _. P)) yes, tt) in
    proved_at 𝓛 En stays c 𝓜 𝓡 (Goes-blank 𝓛 0 (plain (λ _. P)) yes (λ κs x f. tt), tt) #self code.function (code.unfolded 𝓤 𝓛.H 𝓜 𝓡 wired) (λ z are.
    let v = z.0.3.0 in
    qed 𝓛 ((‵ ftrue ⊛ ‵ (owns (types_at En.signature.params z.0.0) z.0.3 z.0.4)) ∷ raw ((c z.0.0 z.0.3).requires z.1) ∷ [])
    -- the pieces as they come
    ∵ split ! $ move ! (1 ∷ []) $ fsplit ! $ pieces_out R Z LZ ghosts ! v z.0.4.0 (λ b o h e words fits.
    let both : Val = two (vptr b o) h in
    let typed = pieces_fit R Z LZ ghosts b o h fits in
    enters ! 𝓣.C 𝓣.Λ code.function both ((walk_of 𝓛 En stays c).post z) words $ alloc_all ! (λ l. pass_all ! refl (typed, tt)
    $ sets ! (of_opd ! (get_in ! (fld ! refl (stop !)) (sub ! 0 refl (whole !)))) refl (tt, tt)
    $ sets ! (of_opd ! (get_in ! (fld ! refl (stop !)) (sub ! 1 refl (whole !)))) refl fits
    $ sets ! (of_opd ! (get ! refl)) refl (tt, tt)
    $ sets ! (agg ! (and_then ! (get ! refl) (and_then ! (get ! refl) (no_more !)))) refl typed
    -- the handle owns what they owned
    $ handle_in ! (block_ptr b o) h v.alloc (Some v.value)
    $ use0 𝓛 (raw (fact 𝓤 (Some v.value ≡ Some v.value))) (fact_i 𝓤 (Some v.value ≡ Some v.value) (emp 𝓤) refl)
    $ nothing ! $ nothing ! $ fjoin ! $ returns ! (look_at ! 0 refl) $ free_all ! refl $ keep ! (4 ∷ 0 ∷ 2 ∷ 1 ∷ [])
    $ by ! (leaves 𝓛 En stays c z both (record { at = block_ptr b o; alloc = v.alloc; held = Some v.value }) (tt, tt) (tt, tt)))))
