-- What the machine's worker is after a scan is what the code's worker shows (`scan_shown`).
use Rattle.std.proofs.Common.{◌≡◌, ◌≢◌, ℕ, ◌+◌, ◌-◌, ◌<◌, ◌≤◌, List, ◌∷◌, Bool, true, false, cond, not, length, sym, ap, ◌∙◌, subst, arith, ⊎_elim}
use Rattle.std.specs.Prelude.{slice_set, nat_lt, nat_eq}
use Rattle.std.proofs.lemmas.Bool.{cases_lt, cases_eq}
use Rattle.std.proofs.lemmas.Bool.Decides.{nat_tests}
use Rattle.std.proofs.lemmas.List.{length-set}
use Rattle.list_totals.specs.Totals.{times, one_if_same}
use Rattle.series_core.specs.Order.{distance_at}
use Rattle.series_core.specs.declared.distance.TheConstants.{NONE}
use Rattle.series_core.specs.declared.pair.Pair.{Pair}
use Rattle.search_machine.specs.declared.phase.Onward.{Onward}
use Rattle.search_machine.specs.declared.phase.Phase.{Phase}
use Rattle.search_machine.specs.declared.phase.Phase.TheVariants.{Offer}
use Rattle.search_machine.specs.Ground.{Ground, scan, worst}
use Rattle.search_machine.specs.Workers.{Worker, after_scan, improves, is_new, onward, scanned_by}
use Rattle.search_task.specs.Questions.{leaf_series}
use Rattle.query_core.specs.Turning.{search_of}
use Rattle.query_core.specs.Working.{Working, Shows, is_marked}
use Rattle.search_machine.proofs.Counts.{same_counts}
use Rattle.query_core.proofs.Found.{mark_kept, mark_set}
use Rattle.search_machine.proofs.ScanSteps.{past_end}

-- a list improves on a limit exactly where its k-th pair is nearer than the limit
pub improves_is : (g : Ground) (ps : List Pair) (v : ℕ) → v ≤ NONE
    → improves g ps v ≡ nat_lt (worst g ps) v
improves_is g ps v small = ⊎_elim
    (λ (h : length ps < g.k).
    let far = past_end (g.k - 1) ps (omega arith) in grind (arith, nat_tests))
    (λ (h : g.k ≤ length ps). grind (arith, nat_tests))
    (cases_lt (length ps) g.k)

-- a leaf is new to a worker that scanned one more leaf where it was new and is another
new_after : (m : Worker) (marks : List Bool) (l : ℕ) → l < length marks
    → ((n : ℕ) → n < length marks → is_new n m ≡ not (is_marked marks n))
    → (n : ℕ) → n < length (slice_set marks l true)
    → nat_eq (times n (l ∷ m.scanned)) 0 ≡ not (is_marked (slice_set marks l true) n)
new_after m marks l real shown n inside = ⊎_elim
    (λ (e : n ≡ l).
    let one : one_if_same n l ≡ 1 = ap (one_if_same n) (sym e) ∙ same_counts n in
    let set : is_marked (slice_set marks l true) n ≡ true =
    ap (is_marked (slice_set marks l true)) e ∙ mark_set marks l real in
    some_counts (one_if_same n l) (times n m.scanned) one ∙ ap not (sym set))
    (λ (other : n ≢ l).
    let none : one_if_same n l ≡ 0 = grind (arith, nat_tests) in
    no_count (one_if_same n l) (times n m.scanned) none
    ∙ shown n (subst (λ (c : ℕ). n < c) (length-set marks l true) inside)
    ∙ ap not (sym (mark_kept marks l n other)))
    (cases_eq n l)
  where
    some_counts : (a b : ℕ) → a ≡ 1 → nat_eq (a + b) 0 ≡ false
    some_counts a b h = grind (arith, nat_tests)

    no_count : (a b : ℕ) → a ≡ 0 → nat_eq (a + b) 0 ≡ nat_eq b 0
    no_count a b h = grind (arith, nat_tests)

-- after a scan the code's worker shows the machine's worker after that scan
pub scan_shown : (g : Ground) (w : Working) (m : Worker) (l v : ℕ) (next : Onward) (ps : List Pair)
    (phase : Phase) (k d : ℕ) → Shows w m → l < length w.marks → v ≤ NONE
    → ps ≡ scan g v (g.members l) w.list → k ≡ g.k → d ≡ distance_at (k - 1) ps
    → phase ≡ cond (nat_lt d v) (Offer next) (onward next)
    → Shows (record w { phase = phase; list = ps; marks = slice_set w.marks l true })
    (scanned_by g m l v next)
scan_shown g w m l v next ps phase k d shows real small is wanted distance goes =
    let same : scan g v (g.members l) m.list ≡ ps =
    ap (scan g v (g.members l)) shows.list ∙ sym is in
    let far : worst g ps ≡ d = ap (λ (n : ℕ). distance_at (n - 1) ps) (sym wanted) ∙ sym distance in
    record {
      phase = ap (λ (qs : List Pair). after_scan g qs v next) same
          ∙ ap (λ (b : Bool). cond b (Offer next) (onward next))
          (improves_is g ps v small ∙ ap (λ (n : ℕ). nat_lt n v) far)
          ∙ sym goes;
      rest = shows.rest;
      list = same;
      marks = new_after m w.marks l real shows.marks;
    }

-- the same of a worker that is seen as another one
pub scan_shown_as : (w old : Working) (workers : ℕ) (m : Worker) (l v : ℕ) (next : Onward) (ps : List Pair)
    (phase : Phase) (k d : ℕ) → w ≡ old → Shows old m → l < length w.marks → v ≤ NONE
    → ps ≡ scan (search_of w workers) v (leaf_series w.index l) w.list → k ≡ w.question.k
    → d ≡ distance_at (k - 1) ps → phase ≡ cond (nat_lt d v) (Offer next) (onward next)
    → Shows (record w { phase = phase; list = ps; marks = slice_set w.marks l true })
    (scanned_by (search_of old workers) m l v next)
scan_shown_as w old workers m l v next ps phase k d same shows real small is wanted distance goes =
    subst (λ (o : Working). Shows (record w { phase = phase; list = ps; marks = slice_set w.marks l true })
    (scanned_by (search_of o workers) m l v next)) same
    (scan_shown (search_of w workers) w m l v next ps phase k d
    (subst (λ (o : Working). Shows o m) (sym same) shows) real small is wanted distance goes)
