-- The passes that are handed in at the end, and lemmas on passes for callers.
use Rattle.std.proofs.Common.{ℕ, ◌<◌, ◌+◌, length, ◌≡◌, zero, suc, List, [], ◌∷◌, ◌++◌, map, inl, inr, ⊎_elim, refl, sym, ap, ◌∙◌, subst, append_assoc, length-append, arith}
use Rattle.std.proofs.lemmas.List.{get_or_append_left, get_or_push, map-append}
use Rattle.std.proofs.lemmas.List.Elements.{All-head, All-tail, All-nil, All-cons, All-pop}
use Rattle.std.specs.Prelude.{◌⊎◌, All, Some, slice_index_or}
use mathlib.Core.List.{IsPrefix}
use Rattle.list_totals.specs.Standing.{In}
use Rattle.turn_lock.specs.declared.plays.Knowing.{Knowing}
use Rattle.turn_lock.specs.declared.object.Entry.{Entry}
use Rattle.turn_lock.specs.declared.plays.Role.TheVariants.{Idle}
use Rattle.turn_lock.specs.declared.plays.View.{View}
use Rattle.turn_lock.specs.Rule.{gathered, gathered_in}
use Rattle.turn_lock.specs.History.{calls_by}
use Rattle.turn_lock.specs.Passes.{Pass, Lock, IsPassOf, IsNewPass, AreNewPasses, AreAll, AgreesWith, callers_of, known_by}

last_or_below : (x n : ℕ) → x < n + 1 → (x ≡ n) ⊎ (x < n)
last_or_below x n low = grind arith

module _ {O C R : Type 0} where
  -- no passes at all are new ones
  pub none_new : {P : Type 0} (k : Lock O C R P) (ps : List (Pass O C R)) → ps ≡ [] → AreNewPasses k ps
  none_new k ps none i d inside = absurd (omega (arith, inside, ap length none))

  -- new passes, and the next of them behind
  pub one_more_new : {P : Type 0} (k : Lock O C R P) (ps qs : List (Pass O C R)) (p : Pass O C R)
      → qs ≡ ps ++ p ∷ [] → IsNewPass k (length ps) p → AreNewPasses k ps → AreNewPasses k qs
  one_more_new k ps qs p more new were =
      subst (AreNewPasses k) (sym more) (λ i d inside. ⊎_elim
      (λ (last : i ≡ length ps).
      subst (IsNewPass k i) (sym (get_or_push ps p d i (sym last))) (subst (λ n. IsNewPass k n p) (sym last) new))
      (λ (below : i < length ps).
      subst (IsNewPass k i) (sym (get_or_append_left ps (p ∷ []) d i below)) (were i d below))
      (last_or_below i (length ps) (omega (arith, inside, length-append ps (p ∷ [])))))

  -- the passes before the last, and the last, are passes of the lock
  pub split_off : {P : Type 0} (k : Lock O C R P) (ps rest : List (Pass O C R)) (last : Pass O C R)
      → ps ≡ rest ++ last ∷ [] → All (λ p. IsPassOf k p) ps → All (λ p. IsPassOf k p) rest × IsPassOf k last
  split_off k ps rest last = All-pop (λ p. IsPassOf k p) ps rest (Some last)

  -- the last pass goes from the passes that are left to those that were handed in
  pub took_in : (ys xs : List (Pass O C R)) (p : Pass O C R) (k : Knowing C R)
      (ks all : List (Knowing C R)) → xs ≡ ys ++ p ∷ [] → k ≡ known_by p
      → map known_by xs ++ ks ≡ all → map known_by ys ++ k ∷ ks ≡ all
  took_in ys xs p k ks all is same e =
      let one : map known_by ys ++ known_by p ∷ [] ≡ map known_by xs
      = sym (map-append known_by ys (p ∷ [])) ∙ ap (map known_by) (sym is) in
      ap (λ z. map known_by ys ++ z ∷ ks) same
      ∙ (sym (append_assoc (map known_by ys) (known_by p ∷ []) ks) ∙ (ap (λ l. l ++ ks) one ∙ e))

  -- what was gathered beginning with the last pass is what all passes know
  pub gathered_all : (ys xs : List (Pass O C R)) (p : Pass O C R) (v : View O C R)
      (ks : List (Knowing C R)) → xs ≡ ys ++ p ∷ [] → v ≡ p.seat.me.0 → p.seat.me.0.role ≡ Idle
      → ks ≡ map known_by ys ++ gathered v → ks ≡ map known_by xs
  gathered_all ys xs p v ks is same idle e =
      let one : gathered v ≡ known_by p ∷ []
      = ap gathered same ∙ ap (λ role. gathered_in role p.seat.me.0) idle in
      e ∙ (ap (λ l. map known_by ys ++ l) one
      ∙ (sym (map-append known_by ys (p ∷ [])) ∙ ap (map known_by) (sym is)))

  -- the passes' numbers are those that their seats know
  pub same_numbers : {P : Type 0} (k : Lock O C R P) (ps : List (Pass O C R))
      → All (λ p. IsPassOf k p) ps
      → map (λ (x : Knowing C R). x.number) (map known_by ps)
      ≡ map (λ (p : Pass O C R). p.number) ps
  same_numbers k [] ok = refl
  same_numbers k (p ∷ ps) ok = λ i. (All-head (λ x. IsPassOf k x) p ps ok).3 i
      ∷ same_numbers k ps (All-tail (λ x. IsPassOf k x) p ps ok) i

  -- each pass agrees with a history with which what it knows agrees
  pub each_agrees : {P : Type 0} (k : Lock O C R P) (log : List (Entry C R))
      (ps : List (Pass O C R))
      → All (λ p. IsPassOf k p) ps
      → All (λ (x : Knowing C R). IsPrefix x.seen log × (calls_by x.number log ≡ x.mine))
      (map known_by ps)
      → All (AgreesWith log) ps
  each_agrees k log [] ok all = All-nil (AgreesWith log)
  each_agrees k log (p ∷ ps) ok all =
      let Told : Knowing C R → Type 0
      = λ (x : Knowing C R). IsPrefix x.seen log × (calls_by x.number log ≡ x.mine) in
      let h = All-head Told (known_by p) (map known_by ps) all in
      let number = (All-head (λ x. IsPassOf k x) p ps ok).3 in
      All-cons (AgreesWith log) p ps
      (h.0, subst (λ n. calls_by n log ≡ p.seat.me.0.mine) number h.1)
      (each_agrees k log ps (All-tail (λ x. IsPassOf k x) p ps ok)
      (All-tail Told (known_by p) (map known_by ps) all))

  -- where no passes are, no number stands among theirs
  pub none_stand : (ps : List (Pass O C R)) (n : ℕ) → length ps ≡ 0 → In n (map (λ (p : Pass O C R). p.number) ps) → ⊥
  none_stand [] n none i = i
  none_stand (p ∷ ps) n none i = absurd (omega (arith, none))

  -- the number of a pass stands among the numbers of the list that has it
  number_in : (ps : List (Pass O C R)) (n m : ℕ) → n < length ps
      → ((d : Pass O C R) → (slice_index_or ps n d).number ≡ m)
      → In m (map (λ (p : Pass O C R). p.number) ps)
  number_in [] n m l h = absurd (omega arith)
  number_in (p ∷ ps) zero m l h = inl (sym (h p))
  number_in (p ∷ ps) (suc n) m l h = inr (number_in ps n m (omega arith) h)

  -- passes in the order of their numbers are all there, where there are as many as callers
  pub all_in_order : {P : Type 0} (k : Lock O C R P) (ps : List (Pass O C R))
      → length ps ≡ callers_of k
      → ((i : ℕ) (d : Pass O C R) → i < length ps → (slice_index_or ps i d).number ≡ i)
      → AreAll k ps
  all_in_order k ps long in_order n below =
      let l : n < length ps = omega arith in number_in ps n n l (λ d. in_order n d l)
