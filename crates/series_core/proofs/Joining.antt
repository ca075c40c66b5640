-- Two lists in order are joined from the back: the greater of their last pairs is the last of all (`ascending_greatest`).
use Rattle.std.proofs.Common.{◌≡◌, ℕ, ◌+◌, ◌-◌, ◌≤◌, ◌<◌, List, [], ◌∷◌, ◌++◌, length, take, get_or, true, false, refl, sym, ap, ◌∙◌, subst, ⊎_elim, arith, append_assoc, length-append, length-take, length-set, drop, set}
use Rattle.std.proofs.lemmas.Bool.{cases_Bool}
use Rattle.std.proofs.lemmas.List.{take_more, take-append-le, take_all, take-set-le, drop-set, get_or_default, take-take}
use Rattle.series_core.specs.Pairs.{is_before, insert, ascending, smallest}
use Rattle.series_core.specs.Best.{IsBehind, AreBehind}
use Rattle.series_core.specs.declared.pair.Pair.{Pair}
use Rattle.series_core.proofs.Order.{not_after, not_before_trans, same_pair}
use Rattle.series_core.proofs.Sorting.{NoneBefore, IsSorted, said_insert, insert_front, insert_behind, insert_first, sorted_ascending}
use Rattle.series_core.proofs.Smallest.{take_insert, ascending-append_swap}
use Rattle.series_core.proofs.Room.{sorted_from, ascending_take}
use Rattle.series_core.proofs.Plain.{length-ascending}

-- what is behind a pair is behind all that this one is behind
behind_trans : (p q : Pair) (qs : List Pair) → is_before p q ≡ false → IsBehind q qs → IsBehind p qs
behind_trans p q [] h b = tt
behind_trans p q (r ∷ rs) h b = (not_before_trans r q p b.0 h, behind_trans p q rs h b.1)

behind_append : (p : Pair) (ps qs : List Pair) → IsBehind p ps → IsBehind p qs → IsBehind p (ps ++ qs)
behind_append p [] qs a b = b
behind_append p (r ∷ rs) qs a b = (a.0, behind_append p rs qs a.1 b)

behind_insert : (p x : Pair) (qs : List Pair) → is_before p x ≡ false → IsBehind p qs → IsBehind p (insert x qs)
behind_insert p = said_insert (IsBehind p) (λ q. is_before p q ≡ false) tt (λ q qs here rest. (here, rest)) (λ q qs all. all)

behind_ascending : (p : Pair) (qs : List Pair) → IsBehind p qs → IsBehind p (ascending qs)
behind_ascending p [] b = tt
behind_ascending p (q ∷ qs) b = behind_insert p q (ascending qs) b.0 (behind_ascending p qs b.1)

-- p goes to the end of a list in order where no pair comes after it
insert_last : (p : Pair) (qs : List Pair) → IsSorted qs → IsBehind p qs → insert p qs ≡ qs ++ p ∷ []
insert_last p [] s b = refl
insert_last p (q ∷ qs) s b =
    ⊎_elim
    (λ (before : is_before q p ≡ true).
    insert_behind p q qs before ∙ ap (λ (rest : List Pair). q ∷ rest) (insert_last p qs s.1 b.1))
    (λ (not : is_before q p ≡ false).
    let same : p ≡ q = same_pair p q b.0 not in
    let first : insert p qs ≡ p ∷ qs =
    insert_first p qs (subst (λ (r : Pair). NoneBefore r qs) (sym same) s.0) in
    insert_front p q qs not ∙ swapped p q same
    ∙ ap (λ (rest : List Pair). q ∷ rest) (sym first ∙ insert_last p qs s.1 b.1))
    (cases_Bool (is_before q p))
  where
    swapped : (v w : Pair) → v ≡ w → v ∷ w ∷ qs ≡ w ∷ v ∷ qs
    swapped v w e = cc

-- of two lists put into order, a pair that no other comes after is the last
pub ascending_greatest : (p : Pair) (ps qs : List Pair) → IsBehind p ps → IsBehind p qs
    → ascending (ps ++ p ∷ qs) ≡ ascending (ps ++ qs) ++ p ∷ []
ascending_greatest p ps qs a b =
    ascending-append_swap ps (p ∷ qs)
    ∙ ap (insert p) (ascending-append_swap qs ps)
    ∙ insert_last p (ascending (ps ++ qs)) (sorted_ascending (ps ++ qs))
    (behind_ascending p (ps ++ qs) (behind_append p ps qs a b))

none_before_end : (q p : Pair) (qs : List Pair) → NoneBefore q (qs ++ p ∷ []) → is_before p q ≡ false
none_before_end q p [] n = n.0
none_before_end q p (r ∷ rs) n = none_before_end q p rs n.1

-- the last pair of a list in order is behind the others
behind_front : (p : Pair) (qs : List Pair) → IsSorted (qs ++ p ∷ []) → IsBehind p qs
behind_front p [] s = tt
behind_front p (q ∷ qs) s = (none_before_end q p qs s.0, behind_front p qs s.1)

-- the first n pairs are those before the last of them, and this one
split_last : (qs : List Pair) (n : ℕ) (d : Pair) → 0 < n → n ≤ length qs
    → take n qs ≡ take (n - 1) qs ++ get_or qs (n - 1) d ∷ []
split_last qs n d some h =
    let more : n ≡ (n - 1) + 1 = omega arith in
    ap (λ (m : ℕ). take m qs) more ∙ take_more qs (n - 1) d (omega arith)

-- of the first n pairs, in order, the last is behind those before it
behind_before : (qs : List Pair) (n : ℕ) (d : Pair) → 0 < n → n ≤ length qs → ascending (take n qs) ≡ take n qs
    → IsBehind (get_or qs (n - 1) d) (take (n - 1) qs)
behind_before qs n d some h e =
    behind_front (get_or qs (n - 1) d) (take (n - 1) qs)
    (subst IsSorted (split_last qs n d some h) (sorted_from (take n qs) e))

-- what the last of the first n pairs does not come after is behind all of them
pub behind_end : (p : Pair) (qs : List Pair) (n : ℕ) (d : Pair) → 0 < n → n ≤ length qs
    → ascending (take n qs) ≡ take n qs → is_before p (get_or qs (n - 1) d) ≡ false → IsBehind p (take n qs)
behind_end p qs n d some h e not =
    let last : Pair = get_or qs (n - 1) d in
    subst (IsBehind p) (sym (split_last qs n d some h))
    (behind_append p (take (n - 1) qs) (last ∷ [])
    (behind_trans p last (take (n - 1) qs) not (behind_before qs n d some h e)) (not, tt))

-- the greatest is the last of the first list
greatest_first : (ps qs : List Pair) (n : ℕ) (d : Pair) → 0 < n → n ≤ length ps
    → ascending (take n ps) ≡ take n ps → IsBehind (get_or ps (n - 1) d) qs
    → ascending (take n ps ++ qs) ≡ ascending (take (n - 1) ps ++ qs) ++ get_or ps (n - 1) d ∷ []
greatest_first ps qs n d some h e b =
    let last : Pair = get_or ps (n - 1) d in
    ap (λ (front : List Pair). ascending (front ++ qs)) (split_last ps n d some h)
    ∙ ap ascending (append_assoc (take (n - 1) ps) (last ∷ []) qs)
    ∙ ascending_greatest last (take (n - 1) ps) qs (behind_before ps n d some h e) b

-- the greatest is the last of the second list
greatest_second : (ps qs : List Pair) (n : ℕ) (d : Pair) → 0 < n → n ≤ length qs
    → ascending (take n qs) ≡ take n qs → IsBehind (get_or qs (n - 1) d) ps
    → ascending (ps ++ take n qs) ≡ ascending (ps ++ take (n - 1) qs) ++ get_or qs (n - 1) d ∷ []
greatest_second ps qs n d some h e b =
    ascending-append_swap ps (take n qs)
    ∙ greatest_first qs ps n d some h e b
    ∙ ap (λ (front : List Pair). front ++ get_or qs (n - 1) d ∷ []) (ascending-append_swap (take (n - 1) qs) ps)

-- no more than k pairs are their own k smallest
pub smallest_all : (k : ℕ) (ps : List Pair) → length ps ≤ k → smallest k ps ≡ ascending ps
smallest_all k ps h = take_all k (ascending ps) (omega (arith, length-ascending ps))

-- where k pairs are left, the greatest of all is not among the k smallest
without_greatest : (k : ℕ) (ps qs : List Pair) (p : Pair) → ascending ps ≡ ascending qs ++ p ∷ [] → k ≤ length qs
    → smallest k ps ≡ smallest k qs
without_greatest k ps qs p e h =
    ap (take k) e ∙ take-append-le k (ascending qs) (p ∷ []) (omega (arith, length-ascending qs, h))

-- where there are k pairs, none that is behind them all is among the k smallest
pub smallest_behind : (k : ℕ) (ps qs : List Pair) → k ≤ length qs → AreBehind ps qs
    → smallest k (ps ++ qs) ≡ smallest k qs
smallest_behind k [] qs h b = refl
smallest_behind k (p ∷ ps) qs h b =
    sym (take_insert k p (ascending (ps ++ qs)))
    ∙ ap (λ (rest : List Pair). take k (insert p rest)) (smallest_behind k ps qs h b.1)
    ∙ take_insert k p (ascending qs)
    ∙ without_greatest k (p ∷ qs) qs p
    (insert_last p (ascending qs) (sorted_ascending qs) (behind_ascending p qs b.0)) h

-- what is behind the first n of n pairs is behind them all
behind_whole : (p : Pair) (qs : List Pair) (n : ℕ) → n ≡ length qs → IsBehind p (take n qs) → IsBehind p qs
behind_whole p qs n e b = subst (IsBehind p) (take_all n qs (omega arith)) b

-- where the first pair of a list in order is behind all pairs, so are the others
pub behind_all : (ps qs : List Pair) (n : ℕ) (d : Pair) → ascending ps ≡ ps → n ≡ length qs
    → IsBehind (get_or ps 0 d) (take n qs) → AreBehind ps qs
behind_all [] qs n d e size b = tt
behind_all (p ∷ ps) qs n d e size b = (first, later ps (sorted_from (p ∷ ps) e).0)
  where
    first : IsBehind p qs
    first = behind_whole p qs n size b

    later : (rs : List Pair) → NoneBefore p rs → AreBehind rs qs
    later [] none = tt
    later (r ∷ rs) none = (behind_trans r p qs none.0 first, later rs none.1)

-- more than k pairs are left: the m that are held, and the first n others
module _ (k : ℕ) (others held : List Pair) (n m : ℕ) (d : Pair) (other : ascending others ≡ others)
    (bound : n ≤ length others) (room : length held ≤ k) (full : k < n + length held) (size : m ≡ length held) where
  other_first : ascending (take n others) ≡ take n others
  other_first = ascending_take n others other

  -- the last other goes where no pair that is held comes after it
  pub drop_other : IsBehind (get_or others (n - 1) d) (take m held)
      → smallest k (take (n - 1) others ++ held) ≡ smallest k (take n others ++ held)
  drop_other b =
      sym (without_greatest k (take n others ++ held) (take (n - 1) others ++ held) (get_or others (n - 1) d)
      (greatest_first others held n d (omega arith) bound other_first
      (behind_whole (get_or others (n - 1) d) held m size b))
      (omega (arith, length-append (take (n - 1) others) held, length-take (n - 1) others)))

  -- the last that is held goes where it comes after the last other
  pub drop_held : (e : Pair) → ascending held ≡ held → 0 < m
      → is_before (get_or others (n - 1) d) (get_or held (m - 1) e) ≡ true
      → smallest k (take n others ++ take (m - 1) held) ≡ smallest k (take n others ++ held)
  drop_held e h some before =
      let last : Pair = get_or held (m - 1) e in
      let behind : IsBehind last (take n others) =
      behind_end last others n d (omega arith) bound other_first (not_after (get_or others (n - 1) d) last before) in
      sym (ap (λ (qs : List Pair). smallest k (take n others ++ qs)) (sym (take_all m held (omega arith)))
      ∙ without_greatest k (take n others ++ take m held) (take n others ++ take (m - 1) held) last
      (greatest_second (take n others) held m e some (omega arith) (ascending_take m held h) behind)
      (omega (
        arith,
        length-append (take n others) (take (m - 1) held),
        length-take n others,
        length-take (m - 1) held,
      )))

-- the greatest of what is left, put at place i, before what was put behind it
fill : (ps : List Pair) (i : ℕ) (p : Pair) (whole rest result : List Pair) → i < length ps → whole ≡ rest ++ p ∷ []
    → whole ++ drop (i + 1) ps ≡ result → rest ++ drop i (set ps i p) ≡ result
fill ps i p whole rest result h e r =
    ap (λ (back : List Pair). rest ++ back) (drop-set ps i p h)
    ∙ sym (append_assoc rest (p ∷ []) (drop (i + 1) ps))
    ∙ ap (λ (front : List Pair). front ++ drop (i + 1) ps) (sym e) ∙ r

-- what is put behind the first pairs leaves them in order
ordered_set : (ps : List Pair) (left i : ℕ) (p : Pair) → left ≤ i → ascending (take left ps) ≡ take left ps
    → ascending (take left (set ps i p)) ≡ take left (set ps i p)
ordered_set ps left i p h e = subst (λ (qs : List Pair). ascending qs ≡ qs) (sym (take-set-le left ps i p h)) e

-- the first n others and the first pairs are left to be joined; what is greater stands behind their places
pub record IsFilled (others : List Pair) (n : ℕ) (ps : List Pair) (left : ℕ) (result : List Pair) : Type 0 where
  pub bound : n ≤ length others
  pub size : left + n ≤ length ps
  pub ordered : ascending (take left ps) ≡ take left ps
  pub joined : ascending (take n others ++ take left ps) ++ drop (left + n) ps ≡ result

-- the last other goes to the last place that is left, where no pair comes after it
pub fill_other : (others ps result : List Pair) (n left : ℕ) (d : Pair) → ascending others ≡ others → 0 < n
    → IsFilled others n ps left result → IsBehind (get_or others (n - 1) d) (take left ps)
    → IsFilled others (n - 1) (set ps (left + (n - 1)) (get_or others (n - 1) d)) left result
fill_other others ps result n left d e some f behind =
    record {
      bound = omega (arith, f.bound);
      size = omega (arith, f.size, length-set ps i last);
      ordered = ordered_set ps left i last (omega arith) f.ordered;
      joined =
          ap (λ (qs : List Pair). ascending (take (n - 1) others ++ qs) ++ drop i (set ps i last))
          (take-set-le left ps i last (omega arith))
          ∙ fill ps i last (ascending (take n others ++ take left ps)) (ascending (take (n - 1) others ++ take left ps))
          result (omega (arith, f.size))
          (greatest_first others (take left ps) n d some f.bound (ascending_take n others e) behind)
          (subst (λ (m : ℕ). ascending (take n others ++ take left ps) ++ drop m ps ≡ result) next f.joined);
    }
  where
    i : ℕ
    i = left + (n - 1)

    last : Pair
    last = get_or others (n - 1) d

    next : left + n ≡ left + (n - 1) + 1
    next = omega arith

-- the last of the pairs goes there where it comes after the last other
pub fill_held : (others ps result : List Pair) (n left : ℕ) (d a b : Pair) → ascending others ≡ others → 0 < n
    → IsFilled others n ps left result
    → 0 < left → is_before (get_or others (n - 1) d) (get_or ps (left - 1) a) ≡ true
    → IsFilled others n (set ps (left - 1 + n) (get_or ps (left - 1) b)) (left - 1) result
fill_held others ps result n left d a b e some f held before =
    record {
      bound = f.bound;
      size = omega (arith, f.size, length-set ps i last);
      ordered = ordered_set ps (left - 1) i last (omega arith) front;
      joined =
          ap (λ (qs : List Pair). ascending (take n others ++ qs) ++ drop i (set ps i last))
          (take-set-le (left - 1) ps i last (omega arith))
          ∙ fill ps i last (ascending (take n others ++ take left ps)) (ascending (take n others ++ take (left - 1) ps))
          result (omega (arith, f.size))
          (greatest_second (take n others) ps left b held (omega (arith, f.size)) f.ordered behind)
          (subst (λ (m : ℕ). ascending (take n others ++ take left ps) ++ drop m ps ≡ result) next f.joined);
    }
  where
    i : ℕ
    i = left - 1 + n

    last : Pair
    last = get_or ps (left - 1) b

    next : left + n ≡ left - 1 + n + 1
    next = omega arith

    after : is_before (get_or others (n - 1) d) last ≡ true
    after =
        subst (λ (p : Pair). is_before (get_or others (n - 1) d) p ≡ true)
        (get_or_default ps (left - 1) a b (omega (arith, f.size))) before

    behind : IsBehind last (take n others)
    behind =
        behind_end last others n d some f.bound (ascending_take n others e)
        (not_after (get_or others (n - 1) d) last after)

    front : ascending (take (left - 1) ps) ≡ take (left - 1) ps
    front =
        subst (λ (qs : List Pair). ascending qs ≡ qs) (take-take (left - 1) left ps (omega arith))
        (ascending_take (left - 1) (take left ps) f.ordered)
