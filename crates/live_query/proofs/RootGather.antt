-- What the closed counter says of the claims of all workers, where each has come to its end (`given_once`, `given_all`).
use Rattle.std.proofs.Common.{◌≡◌, ℕ, ◌+◌, ◌/◌, ◌<◌, ◌≤◌, ◌-◌, List, [], ◌∷◌, None, Some, true, length, map, sym, refl, ap, ◌∙◌, ⊎_elim, arith}
use Rattle.std.specs.Prelude.{slice_get}
use Rattle.std.proofs.Math.Nat.{div-mul-le_self}
use Rattle.std.proofs.lemmas.Nat.{le-div}
use Rattle.std.proofs.lemmas.Option.{slice_get_within}
use Rattle.list_totals.specs.Standing.{In}
use Rattle.list_totals.specs.Totals.{times, total}
use Rattle.list_totals.proofs.Totals.{once_below_most, once_below_yes, total_map}
use Rattle.claim_word.specs.Passes.{EachDrawnOnce, Pass}
use Rattle.search_machine.specs.Closes.{ClaimedOnce, claimed_by}
use Rattle.search_machine.specs.OwnRecord.{RecordedWorker}
use Rattle.live_query.specs.RootClaims.{DrawTied, Drawn, Roots, group_count}
use Rattle.live_query.proofs.Places.{all_at, map_at, totals_same}
use Rattle.live_query.proofs.RootTies.{from_none, low_or_not}

module _ (r : Roots) (some : 0 < r.size) (ds : List Drawn) (xs : List RecordedWorker) (count : length xs ≡ length ds)
    (tied : (i : ℕ) (d : Drawn) (x : RecordedWorker) → slice_get ds i ≡ Some d → slice_get xs i ≡ Some x
    → DrawTied r d x.own.claims)
    (ended : (i : ℕ) (x : RecordedWorker) → slice_get xs i ≡ Some x → In None x.own.claims)
    (passes : List Pass) (are : passes ≡ map (λ (d : Drawn). d.pass) ds)
    (drawn : EachDrawnOnce (group_count r.size r.count) passes) where
  -- a root child was claimed as often as its group was drawn
  claims_are : (c : ℕ) → c < r.count → total (claimed_by c) xs ≡ total (λ (p : Pass). times (c / r.size) p.draws) passes
  claims_are c low =
      totals_same (claimed_by c) (λ (d : Drawn). times (c / r.size) d.pass.draws) xs ds count
      (λ i x d at_x at_d.
      let t = tied i d x at_d at_x in
      let given = t.given c low in
      let none = from_none d.next d.end c (t.ended (ended i x at_x)).1 in
      omega arith)
      ∙ sym (total_map (λ (p : Pass). times (c / r.size) p.draws) (λ (d : Drawn). d.pass) ds)
      ∙ ap (total (λ (p : Pass). times (c / r.size) p.draws)) (sym are)

  claims_beyond : (c : ℕ) → r.count ≤ c → total (claimed_by c) xs ≡ 0
  claims_beyond c out = totals_same (claimed_by c) (λ (d : Drawn). 0) xs ds count
      (λ i x d at_x at_d. (tied i d x at_d at_x).real c out) ∙ nothing ds
    where
      nothing : (ds : List Drawn) → total (λ (d : Drawn). 0) ds ≡ 0
      nothing [] = refl
      nothing (d ∷ ds) = let rest = nothing ds in omega arith

  -- each root child was claimed once at most
  pub given_once : ClaimedOnce xs
  given_once c = ⊎_elim
      (λ (low : c < r.count).
      let e = claims_are c low in
      let b = drawn.once (c / r.size) in
      let s = once_below_most (c / r.size) drawn.drawn in
      omega arith)
      (λ (out : r.count ≤ c). let e = claims_beyond c out in omega arith)
      (low_or_not c r.count)

  -- and where there is some worker, each was claimed
  pub given_all : (i : ℕ) (x : RecordedWorker) (c : ℕ) → slice_get xs i ≡ Some x → c < r.count → 0 < total (claimed_by c) xs
  given_all i x c at low =
      let d = Rattle.search_machine.proofs.Places.get_some ds i (let w = slice_get_within xs i x at in omega arith) in
      let pass = ap (λ (l : List Pass). slice_get l i) are ∙ map_at (λ (d : Drawn). d.pass) ds i d.0 d.1 in
      let full = all_at (λ (p : Pass). p.ended ≡ true → drawn.drawn ≡ group_count r.size r.count) passes i d.0.pass
      drawn.whole pass ((tied i d.0 x d.1 at).ended (ended i x at)).0 in
      let e = claims_are c low in
      let b = drawn.once (c / r.size) in
      let s = once_below_yes (c / r.size) drawn.drawn (let g = group_low r.size c r.count some low in omega arith) in
      omega arith
    where
      -- the group of a number below the count is below the number of groups
      group_low : (size c count : ℕ) → 0 < size → c < count → c / size < group_count size count
      group_low size c count some low =
          let least = div-mul-le_self c size in
          let fits = le-div (c / size + 1) (count + (size - 1)) size some (omega arith) in
          omega arith
