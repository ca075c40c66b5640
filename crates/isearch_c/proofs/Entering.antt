-- How a body with one parameter is entered, once its machine value is known (`enters`). Assumes `Logic`.
use Rattle.std.proofs.Common.{◌≡◌, List, [], ◌∷◌, ◌++◌, subst, sym}
use seplogic.Ra.Ura.{Ura}
use mir.Syntax.{Fn}
use mir.Val.{Val}
use base.Logic.{SProp, ent, id⊢}
use prog.Wp.{Calls, Loops, WpFn}
use types.Logic.{Logic}
use types.Kit.{Item, Step, step, ◌$◌, prop, runs, allocs, params', at_ret, suffices}
use types.Run.{enter}

module _ {M : Type 1} {𝓤 : Ura M} {𝓛 : Logic 𝓤} {K : Type 0} {Γ : List (Item 𝓤)} where
  -- the value that is known is put for what came
  pub enters : K → (C : Calls 𝓤 𝓛.H) (Λ : Loops 𝓤 𝓛.H) (f : Fn) (w : Val) (Ends : Val → SProp 𝓤) {all : List Val} → all ≡ w ∷ []
      → Step K 𝓛 Γ (allocs f.locals (λ E. params' E (w ∷ []) (runs C Λ E f.body (at_ret E Ends)))) Γ (prop (WpFn 𝓤 𝓛.H C Λ f (all ++ []) Ends))
  enters t C Λ f w Ends is = step (λ s.
      let Runs : List Val → SProp 𝓤 = λ words. WpFn 𝓤 𝓛.H C Λ f words Ends in
      suffices t (Runs (w ∷ [])) (subst (λ (us : List Val). ent 𝓤 (Runs (w ∷ [])) (Runs us)) (sym (λ i. is i ++ [])) (id⊢ 𝓤 (Runs (w ∷ []))))
      $ enter t C Λ f (w ∷ []) Ends $ s)
