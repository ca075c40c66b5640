-- A tally takes in a visit more.
use Rattle.std.proofs.Common.{◌≡◌, ◌⊎◌, ℕ, ◌+◌, ◌<◌, max, List, [], ◌∷◌, ◌++◌, length, get_or, take, Contains, Option, Some, None, sym, ap, ◌∙◌, subst, inl, inr, ⊎_elim, arith, length-append}
use Rattle.std.proofs.lemmas.List.{map-append, get_or_append_left}
use Rattle.std.proofs.Math.Seq.{get_or-append_seam, take-append_seam}
use Rattle.std.proofs.lemmas.List.Elements.{Contains-push, Contains-append_left, Contains-push_cases}
use Rattle.claim_word.specs.Passes.{Pass}
use Rattle.list_totals.proofs.Greatest.{greatest_push}
use Rattle.sealed_runs.specs.Visits.{Visit, no_visit, visit_at}
use Rattle.sealed_runs.specs.Closed.{lesser}
use Rattle.sealed_runs.specs.Tallied.{with_place, Refusals, IsTally}
use Rattle.sealed_runs.proofs.Limits.{least_limit_push}

-- what stands in front of the last is read where it was, and the last is read at the end
read_push : (vs : List Visit) (v : Visit) (k : ℕ) → k < length (vs ++ v ∷ [])
    → ((k < length vs) × (get_or (vs ++ v ∷ []) k no_visit ≡ get_or vs k no_visit))
    ⊎ ((k ≡ length vs) × (get_or (vs ++ v ∷ []) k no_visit ≡ v))
read_push vs v k in_list = ⊎_elim
    (λ (low : k < length vs). inl (low, get_or_append_left vs (v ∷ []) no_visit k low))
    (λ (last : k ≡ length vs).
    inr (
      last,
      ap (λ j. get_or (vs ++ v ∷ []) j no_visit) last
          ∙ get_or-append_seam vs v [] no_visit,
    ))
    (low_or_last k (length vs) (let h = length-append vs (v ∷ []) in omega arith))
  where
    low_or_last : (k n : ℕ) → k < n + 1 → (k < n) ⊎ (k ≡ n)
    low_or_last k n low = grind arith

-- what stands among the places with one more stood there, or is the one
cases_place : (xs : List ℕ) (p : Option ℕ) (x : ℕ) → Contains (with_place xs p) x → Contains xs x
    ⊎ (p ≡ Some x)
cases_place xs None x there = inl there
cases_place xs (Some y) x there = ⊎_elim
    (λ (was : Contains xs x). inl was)
    (λ (new : y ≡ x). inr (ap Some new))
    (Contains-push_cases xs y x there)

-- what stood among the places stands among them with one more
keeps_place : (xs : List ℕ) (p : Option ℕ) (x : ℕ) → Contains xs x → Contains (with_place xs p) x
keeps_place xs None x there = there
keeps_place xs (Some y) x there = Contains-append_left xs (y ∷ []) x there

-- the one more stands there
new_place : (xs : List ℕ) (p : Option ℕ) (x : ℕ) → p ≡ Some x → Contains (with_place xs p) x
new_place xs p x is =
    subst (λ (q : Option ℕ). Contains (with_place xs q) x) (sym is) (Contains-push xs x)

-- a visit more adds the place that it refused
refusals_push : (vs : List Visit) (v : Visit) (refused : List ℕ) → Refusals vs refused
    → Refusals (vs ++ v ∷ []) (with_place refused v.refused)
refusals_push vs v refused r = record {
  from = λ x there. ⊎_elim
      (λ (was : Contains refused x).
      let who = r.from x was in
      let low = who.1 in
      let read = get_or_append_left vs (v ∷ []) no_visit who.0 low in
      let longer = length-append vs (v ∷ []) in
      (who.0, omega arith, ap (λ (w : Visit). w.refused) read ∙ who.2))
      (λ (new : v.refused ≡ Some x).
      let read = get_or-append_seam vs v [] no_visit in
      let longer = length-append vs (v ∷ []) in
      (length vs, omega arith, ap (λ (w : Visit). w.refused) read ∙ new))
      (cases_place refused v.refused x there);
  all = λ k x in_list is. ⊎_elim
      (λ (old : (k < length vs) × (get_or (vs ++ v ∷ []) k no_visit ≡ get_or vs k no_visit)).
      let was = r.all k x old.0 (ap (λ (w : Visit). w.refused) (sym old.1) ∙ is) in
      keeps_place refused v.refused x was)
      (λ (last : (k ≡ length vs) × (get_or (vs ++ v ∷ []) k no_visit ≡ v)).
      new_place refused v.refused x (ap (λ (w : Visit). w.refused) (sym last.1) ∙ is))
      (read_push vs v k in_list);
}

module _ (vs : List Visit) (v : Visit) (claims claims' : List Pass) (reach reach' : ℕ)
    (refused refused' : List ℕ)
    (kept kept' : Option ℕ) where
  -- a tally takes in a visit more, where each of its parts does
  pub tally_push : claims' ≡ claims ++ v.claim ∷ [] → reach' ≡ max reach v.claim.met
      → refused' ≡ with_place refused v.refused → kept' ≡ lesser kept v.closed
      → IsTally vs claims reach refused kept → IsTally (vs ++ v ∷ []) claims' reach' refused' kept'
  tally_push claims_is reach_is refused_is kept_is t =
      let more = ap (λ ps. ps ++ v.claim ∷ []) t.claims in
      let places = refusals_push vs v refused t.refused in
      record {
        claims = claims_is ∙ more ∙ sym (map-append (λ (w : Visit). w.claim) vs (v ∷ []));
        reach =
            reach_is
            ∙ ap (λ n. max n v.claim.met) t.reach
            ∙ sym (greatest_push (λ (w : Visit). w.claim.met) vs v);
        refused = subst (Refusals (vs ++ v ∷ [])) (sym refused_is) places;
        kept = kept_is ∙ ap (λ k. lesser k v.closed) t.kept ∙ sym (least_limit_push vs v);
      }

-- what is left of a list of m + 1 visits without its last, and the last
pub split_last : (p q : List Visit) (v : Visit) (m : ℕ) → p ≡ q ++ v ∷ [] → length p ≡ m + 1
    → (q ≡ take m p) × (v ≡ visit_at p m)
split_last p q v m is count =
    let longer = length-append q (v ∷ []) in
    let same = ap (λ (xs : List Visit). length xs) is in
    let m_is : length q ≡ m = omega arith in
    let rest = ap (take m) is ∙ ap (λ n. take n (q ++ v ∷ [])) (sym m_is)
    ∙ take-append_seam q (v ∷ []) in
    let last = ap (λ xs. visit_at xs m) is ∙ ap (visit_at (q ++ v ∷ [])) (sym m_is)
    ∙ get_or-append_seam q v [] no_visit in
    (sym rest, sym last)
