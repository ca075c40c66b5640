-- The least limit: it is at most each limit of the visits, and a visit more makes it the lesser.
use Rattle.std.proofs.Common.{◌≡◌, ℕ, zero, suc, ◌<◌, ◌≤◌, min, List, [], ◌∷◌, ◌++◌, length, get_or, Option, Some, None, IfSome, refl, sym, ap, ◌∙◌, subst, arith}
use Rattle.sealed_runs.specs.Visits.{Visit}
use Rattle.sealed_runs.specs.Closed.{lesser, least_limit}

-- the lesser does not depend on how it is bracketed
lesser_brackets : (a b c : Option ℕ) → lesser (lesser a b) c ≡ lesser a (lesser b c)
lesser_brackets None b c = refl
lesser_brackets (Some a) None c = refl
lesser_brackets (Some a) (Some b) None = refl
lesser_brackets (Some a) (Some b) (Some c) = ap Some (brackets a b c)
  where
    brackets : (a b c : ℕ) → min (min a b) c ≡ min a (min b c)
    brackets a b c = omega arith

-- the lesser with nothing is the same
lesser_none : (a : Option ℕ) → lesser a None ≡ a
lesser_none None = refl
lesser_none (Some a) = refl

-- a visit more makes the least limit the lesser of it and its own
pub least_limit_push : (vs : List Visit) (v : Visit)
    → least_limit (vs ++ v ∷ []) ≡ lesser (least_limit vs) v.closed
least_limit_push [] v = lesser_none v.closed
least_limit_push (w ∷ vs) v =
    ap (lesser w.closed) (least_limit_push vs v)
    ∙ sym (lesser_brackets w.closed (least_limit vs) v.closed)

-- there is a limit, and it is at most n
abbrev pub IsAtMost : Option ℕ → ℕ → Type 0
IsAtMost None n = ⊥
IsAtMost (Some k) n = k ≤ n

-- the lesser is at most the first
lesser_first : (a : ℕ) (b : Option ℕ) → IsAtMost (lesser (Some a) b) a
lesser_first a None = omega arith
lesser_first a (Some b) = omega arith

-- the lesser is at most what the second is
lesser_second : (a b : Option ℕ) (n : ℕ) → IsAtMost b n → IsAtMost (lesser a b) n
lesser_second None b n h = h
lesser_second (Some a) None n h = absurd h
lesser_second (Some a) (Some b) n h = omega arith

-- the least limit is at most the limit of each visit
pub least_limit_at : (vs : List Visit) (k : ℕ) (d : Visit) (limit : ℕ) → k < length vs
    → (get_or vs k d).closed ≡ Some limit → IsAtMost (least_limit vs) limit
least_limit_at [] k d limit in_list is = absurd (omega arith)
least_limit_at (v ∷ vs) zero d limit in_list is =
    subst (λ (a : Option ℕ). IsAtMost (lesser a (least_limit vs)) limit) (sym is)
    (lesser_first limit (least_limit vs))
least_limit_at (v ∷ vs) (suc k) d limit in_list is =
    lesser_second v.closed (least_limit vs) limit (least_limit_at vs k d limit (omega arith) is)

-- what is above a limit that the least is at most, is above the least
pub above_least : (kept : Option ℕ) (limit bound : ℕ) → IsAtMost kept limit → limit < bound
    → IfSome kept (λ least. least < bound)
above_least None limit bound most far = absurd most
above_least (Some k) limit bound most far = omega arith
