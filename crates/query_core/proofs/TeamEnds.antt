-- What a team ends with is the outcome of the state for which it stands.
use Rattle.std.proofs.Common.{List, None, Option, Some, ap, arith, length, refl, subst, sym, ℕ, true, false, ⊎_elim, ◌+◌, ◌<◌, ◌∙◌, ◌≡◌, ◌≤◌}
use Rattle.std.proofs.lemmas.Bool.{cases_eq}
use Rattle.std.proofs.lemmas.Bool.Decides.{nat_tests}
use Rattle.std.proofs.lemmas.Option.{same_Some, slice_get_within}
use Rattle.std.specs.Option.{option_map}
use Rattle.std.specs.Prelude.{nat_eq, not, slice_get}
use Rattle.list_totals.specs.Totals.{times}
use Rattle.query_core.specs.Fates.{leaf_of}
use Rattle.search_machine.specs.Ground.{Ground, start_limit}
use Rattle.search_machine.specs.Workers.{Worker}
use Rattle.search_machine.specs.Outcome.{first_place}
use Rattle.search_machine.specs.Basics.{start_of}
use Rattle.search_machine.specs.Sound.{scans}
use Rattle.query_core.specs.Teams.{AreShown}
use Rattle.query_core.specs.Working.{Shows, Working, is_marked}
use Rattle.query_core.proofs.ListsMerged.{first_here, first_none}
use Rattle.search_machine.proofs.Places.{get_some}

-- a test of a count that says no mark
count_none : (n : ℕ) → nat_eq n 0 ≡ true → n ≡ 0
count_none n h = grind (arith, nat_tests)

count_some : (n : ℕ) → nat_eq n 0 ≡ false → 0 < n
count_some n h = grind (arith, nat_tests)

-- a leaf without a mark was not scanned
pub not_scanned : (w : Working) (m : Worker) (l : ℕ) → Shows w m → l < length w.marks
    → is_marked w.marks l ≡ false → scans l m ≡ 0
not_scanned w m l shows low none = count_none (times l m.scanned) (shows.marks l low ∙ ap not none)

-- a leaf with a mark was
pub was_scanned : (w : Working) (m : Worker) (l : ℕ) → Shows w m → l < length w.marks
    → is_marked w.marks l ≡ true → 0 < scans l m
was_scanned w m l shows low mark = count_some (times l m.scanned) (shows.marks l low ∙ ap not mark)

module _ (ws : List Working) (ms : List Worker) (shown : AreShown ws ms) (l : ℕ) where
  -- at the places before i no worker scanned the leaf
  abbrev pub NoneBefore : ℕ → Type 0
  NoneBefore i = (j : ℕ) (w : Working) (m : Worker) → j < i → slice_get ws j ≡ Some w
      → Shows w m → scans l m ≡ 0

  none_at : (i : ℕ) → NoneBefore i → (j : ℕ) (m : Worker) → j < i
      → slice_get ms j ≡ Some m → scans l m ≡ 0
  none_at i none j m low e =
      let inside = slice_get_within ms j m e in
      let count = shown.count in
      let w = get_some ws j (omega arith) in
      none j w.0 m low w.1 (shown.shows j w.0 m w.1 e)

  -- the first worker that scanned it
  pub first_scanner : (i : ℕ) (w : Working) → NoneBefore i → slice_get ws i ≡ Some w
      → l < length w.marks → is_marked w.marks l ≡ true → first_place (scans l) ms ≡ Some i
  first_scanner i w none at low mark =
      let inside = slice_get_within ws i w at in
      let count = shown.count in
      let m = get_some ms i (omega arith) in
      first_here (scans l) ms i m.0 (none_at i none) m.1
      (was_scanned w m.0 l (shown.shows i w m.0 at m.1) low mark)

  -- no worker scanned it
  pub no_scanner : (i : ℕ) → NoneBefore i → length ws ≤ i
      → first_place (scans l) ms ≡ None
  no_scanner i none all = first_none (scans l) ms (λ j m e.
      let inside = slice_get_within ms j m e in
      let count = shown.count in
      none_at i none j m (omega arith) e)

-- the leaf of the start is the start leaf
pub leaf_of_start : (g : Ground) → leaf_of (start_of g) ≡ g.start
leaf_of_start g = at g.start
  where
    at : (o : Option ℕ) → leaf_of (option_map (λ (l : ℕ). record { leaf = l; limit = start_limit g }) o) ≡ o
    at None = refl
    at (Some l) = refl

-- one more worker did not scan the leaf
pub none_more : (ws : List Working) (l i : ℕ) (v : Working)
    → ((j : ℕ) (w : Working) (m : Worker) → j < i → slice_get ws j ≡ Some w → Shows w m → scans l m ≡ 0)
    → slice_get ws i ≡ Some v → l < length v.marks → is_marked v.marks l ≡ false
    → (j : ℕ) (w : Working) (m : Worker) → j < i + 1 → slice_get ws j ≡ Some w → Shows w m → scans l m ≡ 0
none_more ws l i v none at low unmarked j w m near e shows = ⊎_elim
    (λ (here : j ≡ i).
    let same : v ≡ w = same_Some v w (sym at ∙ sym (ap (slice_get ws) here) ∙ e) in
    not_scanned v m l (subst (λ (z : Working). Shows z m) (sym same) shows) low unmarked)
    (λ (other : j ≡ i → ⊥). none j w m (omega arith) e shows)
    (cases_eq j i)
