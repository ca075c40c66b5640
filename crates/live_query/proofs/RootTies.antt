-- What a claim did to a worker's draws, its longer record says too (`drawn_ties`).
use Rattle.std.proofs.Common.{◌≡◌, ℕ, ◌+◌, ◌*◌, ◌/◌, ◌<◌, ◌≤◌, ◌⊎◌, List, [], ◌∷◌, Option, None, Some, min, sym, refl, ap, ◌∙◌, subst, ⊎_elim, arith}
use Rattle.std.proofs.Math.Nat.{div-eq_of_lt-le, div-mul-le_self, lt-div-mul-add}
use Rattle.std.proofs.lemmas.Bool.{true≢false}
use Rattle.std.proofs.lemmas.Bool.Decides.{nat_tests}
use Rattle.std.proofs.lemmas.Option.{none-some}
use Rattle.list_totals.specs.Standing.{In}
use Rattle.list_totals.specs.Totals.{one_if_same, times, total}
use Rattle.list_totals.proofs.Totals.{times_push}
use Rattle.claim_word.specs.Passes.{Pass}
use Rattle.search_machine.specs.OwnRecord.{claims_of}
use Rattle.live_query.specs.RootClaims.{DidClaim, Drawn, DrawTied, GivesFirst, GivesNext, GivesNone, IsOwn, Roots, fresh_drawn, once_from}

-- the first of a stretch, and the others
from_next : (n b c : ℕ) → n < b → once_from n b c ≡ one_if_same c n + once_from (n + 1) b c
from_next n b c low = grind (arith, nat_tests)

-- of an empty stretch there is none
pub from_none : (a b c : ℕ) → b ≤ a → once_from a b c ≡ 0
from_none a b c out = grind (arith, nat_tests)

from_yes : (a b c : ℕ) → a ≤ c → c < b → once_from a b c ≡ 1
from_yes a b c low high = grind (arith, nat_tests)

from_below : (a b c : ℕ) → c < a → once_from a b c ≡ 0
from_below a b c out = grind (arith, nat_tests)

from_above : (a b c : ℕ) → b ≤ c → once_from a b c ≡ 0
from_above a b c out = grind (arith, nat_tests)

-- below a count a stretch is what it is up to the count
from_min : (count a b c : ℕ) → c < count → once_from a (min count b) c ≡ once_from a b c
from_min count a b c low = grind (arith, nat_tests)

same_yes : (c p : ℕ) → c ≡ p → one_if_same c p ≡ 1
same_yes c p e = grind (arith, nat_tests)

same_no : (c p : ℕ) → (c ≡ p → ⊥) → one_if_same c p ≡ 0
same_no c p ne = grind (arith, nat_tests)

pub low_or_not : (a b : ℕ) → (a < b) ⊎ (b ≤ a)
low_or_not a b = grind arith

-- the numbers of a group are those from its first on, as many as its size
group_is : (size p c : ℕ) → 0 < size → one_if_same (c / size) p ≡ once_from (p * size) (p * size + size) c
group_is size p c some =
    let least = div-mul-le_self c size in
    let most = lt-div-mul-add {a = c} {b = size} some in
    ⊎_elim
    (λ (out : c < p * size).
    same_no (c / size) p (λ e.
    let f = ap (λ q. q * size) e in omega arith)
    ∙ sym (from_below (p * size) (p * size + size) c out))
    (λ (low : p * size ≤ c). ⊎_elim
    (λ (high : c < p * size + size).
    same_yes (c / size) p (div-eq_of_lt-le {k = p} size {m = c} low (omega arith))
    ∙ sym (from_yes (p * size) (p * size + size) c low high))
    (λ (out : p * size + size ≤ c).
    same_no (c / size) p (λ e.
    let f = ap (λ q. q * size) e in omega arith)
    ∙ sym (from_above (p * size) (p * size + size) c out))
    (low_or_not c (p * size + size)))
    (low_or_not c (p * size))

module _ (r : Roots) (some : 0 < r.size) (d k : Drawn) (claims : List (Option ℕ)) (t : DrawTied r d claims) where
  -- where a number that is one is given, no other was
  other_real : (n : ℕ) → n < r.count → (c : ℕ) → r.count ≤ c → total (claims_of c) (Some n ∷ claims) ≡ 0
  other_real n low c out =
      let old = t.real c out in
      let other = same_no c n (λ e. omega arith) in
      omega arith

  next_tied : (n : ℕ) → n < r.count → GivesNext d n k → DrawTied r k (Some n ∷ claims)
  next_tied n low g = subst (λ (k : Drawn). DrawTied r k (Some n ∷ claims)) (sym g.after) (record {
    given = λ c real.
        let old = t.given c real in
        let step = from_next n d.end c g.kept in
        let at = ap (λ a. once_from a d.end c) g.next in
        omega arith;
    real = other_real n low;
    ended = λ i. ⊎_elim (λ (e : None ≡ Some n). absurd (none-some n e))
        (λ (i : In None claims). let h = (t.ended i).1 in let a = g.next in let b = g.kept in absurd (omega arith)) i;
  })

  first_tied : (n : ℕ) → n < r.count → GivesFirst r d n k → DrawTied r k (Some n ∷ claims)
  first_tied n low g = subst (λ (k : Drawn). DrawTied r k (Some n ∷ claims)) (sym g.after) (record {
    given = λ c real.
        let old = t.given c real in
        let none = from_none d.next d.end c g.none_kept in
        let drawn = times_push (c / r.size) d.pass.draws g.group in
        let group = group_is r.size g.group c some in
        let at = ap (λ a. once_from a (a + r.size) c) g.first in
        let step = from_next n (n + r.size) c (omega arith) in
        let cut = from_min r.count (n + 1) (n + r.size) c real in
        omega arith;
    real = other_real n low;
    ended = λ i. ⊎_elim (λ (e : None ≡ Some n). absurd (none-some n e))
        (λ (i : In None claims). absurd (true≢false (sym (t.ended i).0 ∙ g.goes_on))) i;
  })

  none_tied : GivesNone r d k → DrawTied r k (None ∷ claims)
  none_tied g = subst (λ (k : Drawn). DrawTied r k (None ∷ claims)) (sym g.after) (record {
    given = λ c real. let old = t.given c real in let same = ap (times (c / r.size)) g.draws in omega arith;
    real = λ c out. let old = t.real c out in omega arith;
    ended = λ i. (g.ended, g.none_kept);
  })

-- the draws after a claim are tied to the record with it
pub drawn_ties : (r : Roots) → 0 < r.size → (d k : Drawn) (claims : List (Option ℕ)) (o : Option ℕ) → DidClaim r d o k
    → DrawTied r d claims → DrawTied r k (o ∷ claims)
drawn_ties r some d k claims (Some n) did t =
    ⊎_elim (next_tied r some d k claims t n did.0) (first_tied r some d k claims t n did.0) did.1
drawn_ties r some d k claims None did t = none_tied r some d k claims t did

-- the draws are still of the same root children
pub still_own : (r : Roots) (d k : Drawn) (o : Option ℕ) → DidClaim r d o k → IsOwn r d → IsOwn r k
still_own r d k (Some n) did own = ⊎_elim
    (λ (g : GivesNext d n k). subst (IsOwn r) (sym g.after) (record { claims = own.claims; met = own.met; end = own.end }))
    (λ (g : GivesFirst r d n k). subst (IsOwn r) (sym g.after) (record {
      claims = own.claims;
      met = let low = g.low in omega arith;
      end = omega arith;
    }))
    did.1
still_own r d k None did own =
    subst (IsOwn r) (sym did.after) (record { claims = did.claims ∙ own.claims; met = did.met.1; end = own.end })

-- draws that nothing came of are tied to no claims
pub fresh_drawn_tied : (r : Roots) (p : Pass) → p.draws ≡ [] → DrawTied r (fresh_drawn p) []
fresh_drawn_tied r p none = record {
  given = λ c low.
      let kept = from_none 0 0 c (omega arith) in let draws = ap (times (c / r.size)) none in omega arith;
  real = λ c out. refl;
  ended = λ i. absurd i;
}
