-- Histories that grow by one call, and beginnings of lists.
use Rattle.std.proofs.Common.{◌≡◌, ◌≢◌, ℕ, ◌==◌, Bool, List, [], ◌∷◌, ◌++◌, refl, sym, ap, ◌∙◌, append_assoc, eq-eqb, ne_eqb}
use Rattle.std.proofs.lemmas.List.{append-nil}
use Rattle.std.proofs.lemmas.List.Elements.{filter-append}
use mathlib.Core.List.{IsPrefix}
use Rattle.std.specs.Prelude.{cond}
use Rattle.turn_lock.specs.declared.object.Entry.{Entry}
use Rattle.turn_lock.specs.History.{entry, calls_by, state_after, IsLegal}

-- a list begins itself
pub prefix_self : {A : Type 0} (xs : List A) → IsPrefix xs xs
prefix_self xs = ([], append-nil xs)

-- the empty list begins each list
pub prefix_none : {A : Type 0} (xs : List A) → IsPrefix [] xs
prefix_none xs = (xs, refl)

-- what begins a list begins it also with more behind it
pub prefix_then : {A : Type 0} (xs ys zs : List A) → IsPrefix xs ys → IsPrefix xs (ys ++ zs)
prefix_then xs ys zs p = (p.0 ++ zs, sym (append_assoc xs p.0 zs) ∙ ap (λ w. w ++ zs) p.1)

module _ {S C R : Type 0} (next : S → ℕ → C → S × R) where
  -- one more call leads from where the calls before it lead
  pub state_after-snoc : (s : S) (log : List (Entry C R)) (e : Entry C R)
      → state_after next s (log ++ e ∷ []) ≡ (next (state_after next s log) e.caller e.call).0
  state_after-snoc s [] e = refl
  state_after-snoc s (x ∷ log) e = state_after-snoc (next s x.caller x.call).0 log e

  -- a legal history stays legal with one more call that was answered as the object does
  pub IsLegal-snoc : (s : S) (log : List (Entry C R)) (e : Entry C R) → IsLegal next s log
      → e.reply ≡ (next (state_after next s log) e.caller e.call).1
      → IsLegal next s (log ++ e ∷ [])
  IsLegal-snoc s [] e l h = (h, tt)
  IsLegal-snoc s (x ∷ log) e l h = (l.0, IsLegal-snoc (next s x.caller x.call).0 log e l.1 h)

module _ {C R : Type 0} where
  -- a caller's own call is one more of its calls
  pub calls_by-own : (n : ℕ) (c : C) (r : R) (log : List (Entry C R))
      → calls_by n (log ++ entry n c r ∷ []) ≡ calls_by n log ++ entry n c r ∷ []
  calls_by-own n c r log =
      filter-append (λ (e : Entry C R). e.caller == n) log (entry n c r ∷ [])
      ∙ ap (λ (b : Bool). calls_by n log ++ cond b (entry n c r ∷ []) []) (eq-eqb n n refl)

  -- another's call is none of a caller's
  pub calls_by-other : (n m : ℕ) (c : C) (r : R) (log : List (Entry C R)) → m ≢ n
      → calls_by n (log ++ entry m c r ∷ []) ≡ calls_by n log
  calls_by-other n m c r log ne =
      filter-append (λ (e : Entry C R). e.caller == n) log (entry m c r ∷ [])
      ∙ (ap (λ (b : Bool). calls_by n log ++ cond b (entry m c r ∷ []) []) (ne_eqb m n ne)
      ∙ append-nil (calls_by n log))
