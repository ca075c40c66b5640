-- A history in which two callers made one call each has the two calls, in one order or the other.
use Rattle.std.proofs.Common.{◌≡◌, ◌≢◌, ℕ, ◌<◌, ◌⊎◌, Bool, List, [], ◌∷◌, ◌++◌, length, get_or, refl, sym, ap, ◌∙◌, subst, inl, inr, arith, eq-eqb, ne_eqb, length-append}
use Rattle.std.specs.Prelude.{All, cond}
use Rattle.std.proofs.lemmas.List.Elements.{All-head, All-tail}
use mathlib.Core.Logic.{dite}
use native.Mathlib.Decide.{ℕ_discrete}
use Rattle.list_totals.specs.Standing.{In}
use Rattle.turn_lock.specs.declared.object.Entry.{Entry}
use Rattle.turn_lock.specs.History.{calls_by}

-- of two callers, the one that is not 0 is 1
pub not_first : (n : ℕ) → n < 2 → n ≢ 0 → n ≡ 1
not_first n l ne = omega arith

-- and the one that is not 1 is 0
pub not_second : (n : ℕ) → n < 2 → n ≢ 1 → n ≡ 0
not_second n l ne = omega arith

module _ {C R : Type 0} where
  -- a caller's call is the first of its calls
  own_first : (n : ℕ) (x : Entry C R) (xs : List (Entry C R)) → x.caller ≡ n
      → calls_by n (x ∷ xs) ≡ x ∷ calls_by n xs
  own_first n x xs e =
      ap (λ (b : Bool). cond b (x ∷ calls_by n xs) (calls_by n xs)) (eq-eqb x.caller n e)

  -- another's call is none of its calls
  other_first : (n : ℕ) (x : Entry C R) (xs : List (Entry C R)) → x.caller ≢ n
      → calls_by n (x ∷ xs) ≡ calls_by n xs
  other_first n x xs ne =
      ap (λ (b : Bool). cond b (x ∷ calls_by n xs) (calls_by n xs)) (ne_eqb x.caller n ne)

  -- all calls are of two callers
  abbrev pub OfTwo : List (Entry C R) → Type 0
  OfTwo log = All (λ (e : Entry C R). e.caller < 2) log

  module _ (a b : ℕ) (apart : a ≢ b) (or : (n : ℕ) → n < 2 → n ≢ a → n ≡ b) where
    -- where neither made a call, there is none
    none_made : (log : List (Entry C R)) → OfTwo log → calls_by a log ≡ [] → calls_by b log ≡ []
        → log ≡ []
    none_made [] two p q = refl
    none_made (x ∷ xs) two p q = dite (ℕ_discrete x.caller a)
        (λ e. absurd (cc (sym (own_first a x xs e) ∙ p)))
        (λ ne. let below = All-head (λ (e : Entry C R). e.caller < 2) x xs two in
        absurd (cc (sym (own_first b x xs (or x.caller below ne)) ∙ q)))

    -- where b alone made one call, it is the history
    one_made : (log : List (Entry C R)) (y : Entry C R) → OfTwo log → calls_by a log ≡ []
        → calls_by b log ≡ y ∷ [] → log ≡ y ∷ []
    one_made [] y two p q = absurd (cc q)
    one_made (x ∷ xs) y two p q = dite (ℕ_discrete x.caller a)
        (λ e. absurd (cc (sym (own_first a x xs e) ∙ p)))
        (λ ne. let below = All-head (λ (e : Entry C R). e.caller < 2) x xs two in
        let is : x.caller ≡ b = or x.caller below ne in
        let here : x ∷ calls_by b xs ≡ y ∷ [] = sym (own_first b x xs is) ∙ q in
        let rest : calls_by b xs ≡ [] = cc here in
        let same : x ≡ y = cc here in
        let left : xs ≡ [] = none_made xs (All-tail (λ (e : Entry C R). e.caller < 2) x xs two)
        (sym (other_first a x xs ne) ∙ p) rest in
        (λ i. same i ∷ left i))

  -- two callers with one call each: the one's or the other's was first
  pub two_orders : (log : List (Entry C R)) (x y : Entry C R) → OfTwo log → calls_by 0 log ≡ x ∷ []
      → calls_by 1 log ≡ y ∷ [] → (log ≡ x ∷ y ∷ []) ⊎ (log ≡ y ∷ x ∷ [])
  two_orders [] x y two p q = absurd (cc p)
  two_orders (z ∷ zs) x y two p q =
      let rest = All-tail (λ (e : Entry C R). e.caller < 2) z zs two in
      dite (ℕ_discrete z.caller 0)
      (λ e. let here : z ∷ calls_by 0 zs ≡ x ∷ [] = sym (own_first 0 z zs e) ∙ p in
      let same : z ≡ x = cc here in
      let left : calls_by 0 zs ≡ [] = cc here in
      let ne : z.caller ≢ 1 = (λ (h : z.caller ≡ 1). omega arith) in
      let t : zs ≡ y ∷ [] = one_made 0 1 (λ (h : 0 ≡ 1). omega arith) not_first zs y rest left
      (sym (other_first 1 z zs ne) ∙ q) in
      inl (λ i. same i ∷ t i))
      (λ ne. let is : z.caller ≡ 1
      = not_first z.caller (All-head (λ (e : Entry C R). e.caller < 2) z zs two) ne in
      let here : z ∷ calls_by 1 zs ≡ y ∷ [] = sym (own_first 1 z zs is) ∙ q in
      let same : z ≡ y = cc here in
      let left : calls_by 1 zs ≡ [] = cc here in
      let t : zs ≡ x ∷ [] = one_made 1 0 (λ (h : 1 ≡ 0). omega arith) not_second zs x rest left
      (sym (other_first 0 z zs ne) ∙ p) in
      inr (λ i. same i ∷ t i))

-- two elements of which the last was taken and then the other leave nothing
pub none_left : {A : Type 0} (xs ys zs : List A) (one two : A) → xs ≡ ys ++ two ∷ []
    → ys ≡ zs ++ one ∷ [] → length xs ≡ 2 → zs ≡ []
none_left xs ys [] one two p q l = refl
none_left xs ys (z ∷ zs) one two p q l =
    let a = ap length p in
    let b = ap length q in
    let c : length ys ≡ 1 = omega (arith, length-append ys (two ∷ []), a) in
    absurd (omega (arith, length-append (z ∷ zs) (one ∷ []), b))

-- the two that were taken are the list, and two others put back are the list then
pub two_back : {A : Type 0} (xs ys zs us vs : List A) (one two one' two' : A)
    → xs ≡ ys ++ two ∷ [] → ys ≡ zs ++ one ∷ [] → length xs ≡ 2
    → us ≡ zs ++ one' ∷ [] → vs ≡ us ++ two' ∷ []
    → (xs ≡ one ∷ two ∷ []) × (vs ≡ one' ∷ two' ∷ [])
two_back xs ys zs us vs one two one' two' p q l r s =
    let e = none_left xs ys zs one two p q l in (
      p ∙ ap (λ t. t ++ two ∷ []) (q ∙ ap (λ t. t ++ one ∷ []) e),
      s ∙ ap (λ t. t ++ two' ∷ []) (r ∙ ap (λ t. t ++ one' ∷ []) e),
    )

-- 0 and 1 are all numbers of two callers
pub both_numbered : (a b n : ℕ) → a ≡ 0 → b ≡ 1 → n < 2 → In n (a ∷ b ∷ [])
both_numbered a b n e f l = dite (ℕ_discrete n 0) (λ z. inl (z ∙ sym e))
    (λ z. inr (inl (not_first n l z ∙ sym f)))

-- what is so of the first and the second of a list of two is so of the one and the other
pub of_two : {A : Type 0} (f : A → ℕ) (xs : List A) (one two : A) (a b : ℕ) → xs ≡ one ∷ two ∷ []
    → f (get_or xs 0 one) ≡ a → f (get_or xs 1 two) ≡ b → (f one ≡ a) × (f two ≡ b)
of_two f xs one two a b are first second = (
  subst (λ l. f (get_or l 0 one) ≡ a) are first,
  subst (λ l. f (get_or l 1 two) ≡ b) are second,
)
