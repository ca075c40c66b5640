-- Where no root child is claimed twice and each member stands for its record, no leaf is put twice.
use Rattle.std.proofs.Common.{List, Some, arith, subst, sym, ℕ, ⊎_elim, ◌+◌, ◌<◌, ◌≡◌, ◌≢◌, ◌≤◌}
use Rattle.std.proofs.lemmas.Bool.{cases_eq}
use Rattle.std.specs.Prelude.{slice_get}
use Rattle.list_totals.specs.Totals.{times, total}
use Rattle.search_machine.specs.Closes.{claimed_by, placed_by, placed_of, puts_by}
use Rattle.search_machine.specs.Ground.{Fits, Ground}
use Rattle.list_totals.specs.Standing.{In}
use Rattle.search_machine.specs.OwnRecord.{Below, RecordedWorker, Near, put_of}
use Rattle.search_machine.specs.Stands.{Stands}
use Rattle.search_machine.proofs.CallCounts.{both_of, refusals_by, refused_of}
use Rattle.search_machine.proofs.OwnClaims.{claim_in, put_in}
use Rattle.search_machine.proofs.Places.{at_most_one, total_add, total_at, total_most, total_two}

module _ (g : Ground) (fits : Fits g) (team : List RecordedWorker) (stands : (i : ℕ) (x : RecordedWorker)
    → slice_get team i ≡ Some x → Stands g i x.worker x.own) (claims : (n : ℕ)
    → total (claimed_by n) team ≤ 1) where
  -- two members whose claimed root children have the same leaf are one
  pub same_claimer : (l i j : ℕ) (x y : RecordedWorker) → slice_get team i ≡ Some x
      → slice_get team j ≡ Some y → Below g x.own l → Below g y.own l → i ≡ j
  same_claimer l i j x y a b h k = ⊎_elim
      (λ (same : i ≡ j). same)
      (λ (ne : i ≡ j → ⊥). ⊎_elim
      (λ (root : h.0 ≡ k.0).
      let p : 0 < claimed_by k.0 x = claim_in k.0 x.own.claims
      (subst (λ (n : ℕ). In (Some n) x.own.claims) root h.2) in
      let q : 0 < claimed_by k.0 y = claim_in k.0 y.own.claims k.2 in
      let r = total_two (claimed_by k.0) team i j x y a b ne p q in
      let s = claims k.0 in
      absurd (omega arith))
      (λ (other : h.0 ≡ k.0
      → ⊥). let r = total_two (times l) g.roots h.0 k.0 h.1 k.1 h.3 k.3 other h.4 k.4 in
      let s = fits.below_once l in absurd (omega arith))
      (cases_eq h.0 k.0))
      (cases_eq i j)

  -- a leaf that a member put is below a root child that it claimed, is near, and is not the start
  -- leaf
  pub put_below : (i : ℕ) (x : RecordedWorker) (l : ℕ) → slice_get team i ≡ Some x → 0 < puts_by l x
      → Below g x.own l × Near g x.own l × (g.start ≢ Some l)
  put_below i x l at h =
      let p = put_in l x.own.puts h in
      let right = (stands i x at).puts p.0 p.1 in (
        subst (Below g x.own) (sym p.2) right.below,
        subst (Near g x.own) (sym p.2) right.near,
        subst
            (λ (n : ℕ). g.start ≢ Some n) (sym p.2) right.other,
      )

  -- no leaf is put twice
  pub puts_once : (l : ℕ) → total (puts_by l) team ≤ 1
  puts_once l = at_most_one (puts_by l) team
      (λ i x at. let a = (stands i x at).once
      (λ n. let b = claims n in let d = total_at (claimed_by n) team i x at in omega arith) l in
      omega arith)
      (λ i j x y a b h k. same_claimer l i j x y a b (put_below i x l a h).0
      (put_below j y l b k).0)

  -- each put is placed or refused
  pub placed_put : (m l : ℕ)
      → total (placed_by m l) team + total (refusals_by l) team ≤ total (puts_by l) team
  placed_put m l =
      let a = total_most (λ x. placed_by m l x + refusals_by l x) (puts_by l) team
      (λ x. let b = total_most
      (λ p. placed_of m l p + refused_of l p) (put_of l) x.own.puts (both_of m l) in
      let d = total_add (placed_of m l) (refused_of l) x.own.puts in omega arith) in
      let b = total_add (placed_by m l) (refusals_by l) team in
      omega arith
