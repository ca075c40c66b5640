-- A box is taken to pieces: the call gives the pointer and the allocator, and what the box owned goes with them.
use Rattle.std.proofs.Common.{◌≡◌, ◌∙◌, [], ◌∷◌, ap, refl}
use mir.Syntax.{a_type, dcons, dnil}
use mir.Raw.{raw as bare}
use mir.Val.{Val, vptr}
use mir.MapTy.{inst_fn}
use base.Logic.{SProp, emp, never, id⊢, fst∗}
use base.Fml.{ftrue, fsep, flft}
use types.Logic.{sem}
use types.Kit.{‵, raw, ◌⊛◌, some, later, ◌$◌, ◌∵◌, !, qed, by, move, keep, drop, split, split3, join, fsplit, fjoin, fpick, pick, use0, use1, await, rewrite, feq_l}
use types.Run.{stop, fld, of_opd, no_more, and_then, returns}
use types.ByLocal.{alloc_all, pass_all, free_all, look_at, get, get_in, sets, lands_as}
use types.Part.{agg, sub, whole}
use contract.Monad.{fact, fact_i}
use contract.Running.{tables}
use denote.Exit.{no}
use denote.RattleType.{RattleType, owns}
use denote.Signature.{types_at, plain}
use denote.Builtin.{RawPtr}
use denote.RawPtr.{Ptr, block_ptr, null_ptr, ptr_val, in_a_block}
use denote.Steps.{nothing, only, heard}
use denote.Param.{param, layout, bounded}
use denote.Param.Laws.{param_laws}
use denote.Struct.Tuple.{Tuple}
use denote.Triple.Spec.{triple_of}
use denote.Triple.Call.{calls_at}
use denote.Triple.Walked.{Stays, stay_dropped, walk_of}
use Rattle.core.proofs.alloc.Calls.{Goes-blank, handle_tells}
use Rattle.core.proofs.atomic.Steps.{fm}
use Rattle.std_alloc.proofs.BoxSteps.Form as box
use Rattle.std_alloc.proofs.BoxSteps.Steps.{box_out, box_in}
use Rattle.std.proofs.raw_atomic.Walks.{proved_at, leaves}
use Rattle.isearch_c.proofs.Entering.{enters}
use Rattle.isearch_c.proofs.PieceValues.{box_at, pieces_fit, pieces_in, spelled, two}
use Rattle.std_alloc.specs.contracts.boxed.Box.into_raw_with_allocator as callee
use Rattle.std_alloc.proofs.boxed.Box.into_raw_with_allocator.Met.{met}
use Rattle.isearch_c.specs.contracts.pieces.Pieces.of_box.{ended, clauses}
use Rattle.isearch_c.specs.contracts.pieces.Pieces.of_box.Key.{name as #self}
use Rattle.isearch_c.proofs.pieces.Pieces.of_box.Statement.{statement}
use Rattle.isearch_c.proofs.pieces.Pieces.of_box.Code as code

pub of_box_spec : {M : Type 1} → statement M
of_box_spec 𝓤 𝓛 𝓜 𝓡 wired T A L LA g d dx dd allocator glue glued =
    let 𝓣 = tables 𝓤 𝓛.H 𝓜 𝓡 𝓡.env in
    let R : RattleType = param 0 T in
    let Z : RattleType = param 1 A in
    let LZ = param_laws 1 A LA in
    let names = bounded (a_type ∷ a_type ∷ []) (T, (A, tt)) (dcons d (dcons dx (dcons dd dnil))) in
    let fn = inst_fn names code.function in
    let En = ended T A g d dx dd in
    let c = clauses T A g d dx dd 𝓛 𝓜.mem 𝓡.returns in
    let E : box.Bx = record { row = T; laws = L; al = record { row = A; laws = LA; g = g; d = d; drops = dd } } in
    let gone = plain (λ _. box.B E) in
    let stays : Stays En.signature.params En.kept = (stay_dropped gone no, tt) in
    let blank = Goes-blank 𝓛 2 gone no (λ κs x f. tt) in
    proved_at 𝓛 En stays c 𝓜 𝓡 (blank, tt) (#self names) fn (code.unfolded 𝓤 𝓛.H 𝓜 𝓡 wired (T, (A, tt)) d dx dd) (λ z are.
    let κs = z.0.0 in
    let qs = z.0.1 in
    let v = z.0.3.0 in
    let Ends : Val → SProp 𝓤 = (walk_of 𝓛 En stays c).post z in
    let lives = ‵ (flft κs.0 qs.0) ⊛ ‵ (flft κs.1.0 qs.1.0) ⊛ ‵ ftrue in
    qed 𝓛 ((lives ⊛ ‵ (owns (types_at En.signature.params κs) z.0.3 z.0.4)) ∷ raw ((c κs z.0.3).requires z.1) ∷ [])
    -- the box as it comes, which the call is given
    ∵ split ! $ move ! (1 ∷ []) $ fsplit ! $ box_out E ! v z.0.4.0 (λ b o h e words fits. box_in E ! v b o v.value e refl $
    let whole_box : Val = box.word E h b o in
    let typed = pieces_fit R Z LZ g b o h fits in
    let k = triple_of 𝓛 (callee.signature T A g d dd dx) (callee.spec T A g d dd dx 𝓛 𝓜.mem 𝓡.returns) in
    let y : k.Ghost = ((κs, qs, tt, (v, tt), (whole_box ∷ [], tt)), tt) in
    let Both = Tuple (RawPtr ∷ Z ∷ []) in
    fjoin ! $ move ! (1 ∷ 0 ∷ []) $ join ! $ join ! $ use1 𝓛 (raw (k.pre y)) (id⊢ 𝓤 _) $
    enters ! 𝓣.C 𝓣.Λ fn whole_box Ends words $ alloc_all ! (λ l. pass_all ! refl (typed, tt) $ sets ! (of_opd ! (get ! refl)) refl typed $
    calls_at ! (fm 𝓛 𝓜 𝓡) k
    (met 𝓤 𝓛 𝓜 𝓡 (code.calls-std_alloc::boxed::Box::into_raw_with_allocator 𝓡.env wired) T A L LA g d dd dx allocator glued glue) y
    (and_then ! (get ! refl) (no_more !)) (λ u.
    -- what comes back: a pointer that is the allocator's to free, and the allocator
    use1 𝓛 (later (some (λ (r : Ptr × A.Denot). (lives ⊛ ‵ (Both.own_val r (u ∷ [])))
    ⊛ some (λ (_ : (Unit {0} × (Unit {0} × Unit {0})) × Unit {0}). ‵ (fsep (fsep ftrue (fsep ftrue ftrue)) ftrue)
    ⊛ (raw (fact 𝓤 (r.1 ≡ v.alloc)) ⊛ ‵ (box_at R Z LZ g v.alloc r.0 v.value)))))) (id⊢ 𝓤 _) $
    await ! tt $ pick ! (λ r. split ! $ move ! (1 ∷ []) $ pick ! (λ _. split3 ! $ drop ! $ heard ! (r.1 ≡ v.alloc) (λ own.
    let no_null = fst∗ 𝓤 (never 𝓤) (sem 𝓛 (g.dealloc_token v.alloc (bare (layout T)) null_ptr)) in
    in_a_block ! r.0 (λ p. box_at R Z LZ g v.alloc p v.value) no_null (λ b' o' e'.
    move ! (1 ∷ []) $ split ! $ move ! (1 ∷ []) $ fpick ! (λ parts. fsplit ! $ feq_l ! (λ is. fsplit ! $ feq_l ! (λ first. fsplit !
    $ rewrite ! 0 (λ (s : A.Denot). ‵ (A.own_val s parts.1.0)) own refl $ handle_tells E.al ! v.alloc parts.1.0 (λ h' second fits'.
    let made = pieces_fit R Z LZ g b' o' h' fits' in
    let place : parts.0 ≡ vptr b' o' ∷ [] = first ∙ ap (λ (p : Ptr). ptr_val p ∷ []) e' in
    -- they are the pieces
    lands_as ! (ap only (spelled (u ∷ []) parts.0 parts.1.0 (vptr b' o') h' is place second)) refl made
    $ sets ! (of_opd ! (get_in ! (fld ! refl (stop !)) (sub ! 0 refl (whole !)))) refl (tt, tt)
    $ sets ! (of_opd ! (get_in ! (fld ! refl (stop !)) (sub ! 1 refl (whole !)))) refl fits'
    $ sets ! (of_opd ! (get ! refl)) refl fits' $ sets ! (agg ! (and_then ! (get ! refl) (and_then ! (get ! refl) (no_more !)))) refl made
    $ move ! (3 ∷ 0 ∷ []) $ pieces_in R Z LZ g ! b' o' h' v.alloc v.value
    $ use0 𝓛 (raw (fact 𝓤 (v.value ≡ v.value))) (fact_i 𝓤 (v.value ≡ v.value) (emp 𝓤) refl) $ nothing ! $ nothing ! $ fjoin !
    $ returns ! (look_at ! 0 refl) $ free_all ! refl $ keep ! (4 ∷ 0 ∷ 2 ∷ 1 ∷ [])
    $ by ! (leaves 𝓛 En stays c z (two (vptr b' o') h') (record { at = block_ptr b' o'; alloc = v.alloc; value = v.value })
    ((tt, (tt, tt)), tt) (tt, tt))))))))))))))
