-- The lists of all workers, merged one by one, give the k smallest pairs of all.
use Rattle.std.proofs.Common.{List, None, Some, [], ap, append-nil, append_assoc, arith, length, refl, suc, sym, take, zero, ℕ, true, false, ◌++◌, ◌+◌, ◌<◌, ◌∙◌, ◌∷◌, ◌≡◌}
use Rattle.std.proofs.lemmas.Bool.{cond-false, cond-true}
use Rattle.std.proofs.lemmas.Bool.Decides.{nat_tests}
use Rattle.std.proofs.lemmas.Option.{none-some, same_Some}
use Rattle.std.specs.Option.{option_map}
use Rattle.std.specs.Prelude.{nat_lt, slice_get}
use Rattle.series_core.proofs.Sorting.{ascending_smallest}
use Rattle.series_core.proofs.Smallest.{ascending-append_swap, smallest-append}
use Rattle.series_core.specs.Pairs.{ascending, smallest}
use Rattle.series_core.specs.declared.pair.Pair.{Pair}
use Rattle.search_machine.specs.Workers.{Worker}
use Rattle.search_machine.specs.Outcome.{all_pairs, first_place}
use Rattle.query_core.specs.Teams.{all_lists}
use Rattle.query_core.specs.Working.{Working}

-- one item more of a list
pub take_get : {X : Type 0} (xs : List X) (i : ℕ) (x : X) → slice_get xs i ≡ Some x
    → take (suc i) xs ≡ take i xs ++ x ∷ []
take_get [] i x e = absurd (none-some x e)
take_get {X} (y ∷ ys) zero x e = ap (λ (z : X). z ∷ []) (same_Some y x e)
take_get {X} (y ∷ ys) (suc i) x e = ap (λ (zs : List X). y ∷ zs) (take_get ys i x e)

-- the k smallest of nothing
smallest_none : (k : ℕ) → smallest k [] ≡ []
smallest_none zero = refl
smallest_none (suc k) = refl

-- the k smallest of the k smallest
smallest_twice : (k : ℕ) (qs : List Pair) → smallest k (smallest k qs) ≡ smallest k qs
smallest_twice k qs =
    ap (λ (ps : List Pair). smallest k (ps ++ smallest k qs)) (sym (smallest_none k))
    ∙ smallest-append k [] qs

-- the second of two lists may be cut to its k smallest
smallest_right : (k : ℕ) (ps qs : List Pair)
    → smallest k (ps ++ smallest k qs) ≡ smallest k (ps ++ qs)
smallest_right k ps qs =
    sym (smallest-append k ps (smallest k qs))
    ∙ ap (λ (rs : List Pair). smallest k (smallest k ps ++ rs)) (smallest_twice k qs)
    ∙ smallest-append k ps qs

-- one list more behind the others
lists_push : (ws : List Working) (w : Working) → all_lists (ws ++ w ∷ []) ≡ all_lists ws ++ w.list
lists_push [] w = append-nil w.list
lists_push (v ∷ ws) w =
    ap (λ (ps : List Pair). v.list ++ ps) (lists_push ws w)
    ∙ sym (append_assoc v.list (all_lists ws) w.list)

-- what is the k smallest of some pairs ascends
pub held_ascends : (k : ℕ) (qs held : List Pair) → held ≡ smallest k qs → ascending held ≡ held
held_ascends k qs held e = ap ascending e ∙ ascending_smallest k qs ∙ sym e

-- one list more is merged
pub merge_next : (k : ℕ) (ws : List Working) (i : ℕ) (w : Working) (held : List Pair)
    → slice_get ws i ≡ Some w → held ≡ smallest k (all_lists (take i ws))
    → smallest k (w.list ++ held) ≡ smallest k (all_lists (take (i + 1) ws))
merge_next k ws i w held at e =
    let n : suc i ≡ i + 1 = omega arith in
    ap (λ (ps : List Pair). smallest k (w.list ++ ps)) e
    ∙ smallest_right k w.list (all_lists (take i ws))
    ∙ ap (take k) (ascending-append_swap w.list (all_lists (take i ws)))
    ∙ ap (smallest k) (sym (lists_push (take i ws) w))
    ∙ ap (λ (vs : List Working). smallest k (all_lists vs)) (sym (take_get ws i w at))
    ∙ ap (λ (j : ℕ). smallest k (all_lists (take j ws))) n

-- lists that are the same at each place are the same together
pub lists_shown : (ws : List Working) (ms : List Worker) → length ws ≡ length ms
    → ((i : ℕ) (w : Working) (m : Worker) → slice_get ws i ≡ Some w → slice_get ms i ≡ Some m
    → m.list ≡ w.list)
    → all_lists ws ≡ all_pairs ms
lists_shown [] [] n each = refl
lists_shown [] (m ∷ ms) n each = absurd (omega arith)
lists_shown (w ∷ ws) [] n each = absurd (omega arith)
lists_shown (w ∷ ws) (m ∷ ms) n each =
    let first = each 0 w m refl refl in
    let rest = lists_shown ws ms (omega arith) (λ i v l a b. each (suc i) v l a b) in
    cc

module _ {X : Type 0} (f : X → ℕ) where
  -- with f 0 at each item there is no first place
  pub first_none : (xs : List X) → ((j : ℕ) (x : X) → slice_get xs j ≡ Some x → f x ≡ 0)
      → first_place f xs ≡ None
  first_none [] none = refl
  first_none (x ∷ xs) none =
      let here = none 0 x refl in
      let t : nat_lt 0 (f x) ≡ false = grind (arith, nat_tests) in
      cond-false (nat_lt 0 (f x)) (Some 0) (option_map (λ n. suc n) (first_place f xs)) t
      ∙ ap (option_map (λ (n : ℕ). suc n)) (first_none xs (λ j y e. none (suc j) y e))

  -- where f is 0 at each item before a place, and not there, it is the first
  pub first_here : (xs : List X) (i : ℕ) (x : X)
      → ((j : ℕ) (y : X) → j < i → slice_get xs j ≡ Some y → f y ≡ 0)
      → slice_get xs i ≡ Some x → 0 < f x → first_place f xs ≡ Some i
  first_here [] i x none at some = absurd (none-some x at)
  first_here (y ∷ ys) zero x none at some =
      let e = ap f (same_Some y x at) in
      let t : nat_lt 0 (f y) ≡ true = grind (arith, nat_tests) in
      cond-true (nat_lt 0 (f y)) (Some 0) (option_map (λ n. suc n) (first_place f ys)) t
  first_here (y ∷ ys) (suc i) x none at some =
      let here = none 0 y (omega arith) refl in
      let t : nat_lt 0 (f y) ≡ false = grind (arith, nat_tests) in
      cond-false (nat_lt 0 (f y)) (Some 0) (option_map (λ n. suc n) (first_place f ys)) t
      ∙ ap (option_map (λ (n : ℕ). suc n)) (first_here ys i x
      (λ j z low e. none (suc j) z (omega arith) e) at some)
