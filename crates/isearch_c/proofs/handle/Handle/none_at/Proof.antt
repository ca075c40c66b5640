-- `none_at` owns nothing, so that any pointer serves.
use Rattle.std.proofs.Common.{◌≡◌, List, [], ◌∷◌, ◌++◌, refl, sym, subst}
use Rattle.std.specs.Prelude.{Option, None}
use mir.Val.{Val}
use base.Logic.{SProp, ent, emp, id⊢}
use base.Fml.{ftrue}
use prog.Wp.{WpFn}
use types.Kit.{‵, raw, ◌⊛◌, ◌$◌, ◌∵◌, !, qed, by, move, keep, split, fsplit, fjoin, feq_l, suffices, use0}
use types.Run.{no_more, and_then, returns, enter}
use types.ByLocal.{alloc_all, pass_all, free_all, look_at, get, sets}
use types.Part.{agg}
use contract.Monad.{fact, fact_i}
use contract.Running.{tables}
use denote.Exit.{yes}
use denote.RattleType.{owns}
use denote.Signature.{types_at, plain}
use denote.Builtin.{RawPtr}
use denote.RawPtr.{ptr_val}
use denote.Steps.{nothing}
use denote.Triple.Walked.{Stays, stay_dropped, walk_of}
use Rattle.core.proofs.alloc.Calls.{Goes-blank, handle_tells}
use Rattle.core.proofs.atomic.Steps.{Ptr-Good}
use Rattle.std.proofs.raw_atomic.Walks.{proved_at, leaves}
use Rattle.isearch_c.specs.declared.held.Held.{Held}
use Rattle.isearch_c.proofs.PieceValues.{two}
use Rattle.isearch_c.proofs.HandleValues.{Z, the_heap, handle_fits, handle_in}
use Rattle.isearch_c.specs.contracts.handle.Handle.none_at.{ended, clauses}
use Rattle.isearch_c.specs.contracts.handle.Handle.none_at.Key.{name as #self}
use Rattle.isearch_c.proofs.handle.Handle.none_at.Statement.{statement}
use Rattle.isearch_c.proofs.handle.Handle.none_at.Code as code

-- what it has
abbrev nothing_held : Option Held
nothing_held = None

pub none_at_spec : {M : Type 1} → statement M
none_at_spec 𝓤 𝓛 𝓜 𝓡 wired =
    let 𝓣 = tables 𝓤 𝓛.H 𝓜 𝓡 𝓡.env in
    let fn = code.function in
    let En = ended in
    let c = clauses 𝓛 𝓜.mem 𝓡.returns in
    let pointer = plain (λ _. RawPtr) in
    let allocator = plain (λ _. Z) in
    let stays : Stays En.signature.params En.kept = (stay_dropped pointer yes, (stay_dropped allocator yes, tt)) in
    let blank_pointer = Goes-blank 𝓛 0 pointer yes (λ κs x f. tt) in
    let blank_allocator = Goes-blank 𝓛 0 allocator yes (λ κs x f. tt) in
    proved_at 𝓛 En stays c 𝓜 𝓡 (blank_pointer, (blank_allocator, tt)) #self fn (code.unfolded 𝓤 𝓛.H 𝓜 𝓡 wired) (λ z are.
    let κs = z.0.0 in
    let p = z.0.3.0 in
    let a = z.0.3.1.0 in
    let Ends : Val → SProp 𝓤 = (walk_of 𝓛 En stays c).post z in
    let Runs : List Val → SProp 𝓤 = λ words. WpFn 𝓤 𝓛.H 𝓣.C 𝓣.Λ fn words Ends in
    qed 𝓛 ((‵ ftrue ⊛ ‵ (owns (types_at En.signature.params κs) z.0.3 z.0.4)) ∷ raw ((c κs z.0.3).requires z.1) ∷ [])
    ∵ split ! $ move ! (1 ∷ []) $ fsplit ! $ feq_l ! (λ first. fsplit ! $ handle_tells the_heap ! a z.0.4.1.0 (λ h second fits.
    suffices ! (Runs (ptr_val p ∷ h ∷ []))
    (subst (λ (us : List Val). ent 𝓤 (Runs (ptr_val p ∷ h ∷ [])) (Runs us)) (λ i. sym first i ++ (sym second i ++ []))
    (id⊢ 𝓤 (Runs (ptr_val p ∷ h ∷ []))))
    $ enter ! 𝓣.C 𝓣.Λ fn (ptr_val p ∷ h ∷ []) Ends $ alloc_all ! (λ l. pass_all ! refl (Ptr-Good p, (fits, tt))
    $ sets ! (agg ! (and_then ! (get ! refl) (and_then ! (get ! refl) (no_more !)))) refl (handle_fits p h fits)
    $ nothing ! $ handle_in ! p h a None
    $ use0 𝓛 (raw (fact 𝓤 (nothing_held ≡ nothing_held))) (fact_i 𝓤 (nothing_held ≡ nothing_held) (emp 𝓤) refl)
    $ nothing ! $ nothing ! $ fjoin ! $ nothing ! $ fjoin !
    $ returns ! (look_at ! 0 refl) $ free_all ! refl $ keep ! (4 ∷ 0 ∷ 2 ∷ 1 ∷ [])
    $ by ! (leaves 𝓛 En stays c z (two (ptr_val p) h) (record { at = p; alloc = a; held = None }) (tt, (tt, tt)) (tt, (tt, tt)))))))
