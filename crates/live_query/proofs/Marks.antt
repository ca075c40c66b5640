-- The leaves that some searcher put: how their entries grow leaf by leaf (`entries_more`, `entries_skip`), and which of them
-- a run holds (`run_of_marked`).
use Rattle.std.proofs.Common.{◌≡◌, ◌≢◌, ℕ, ◌+◌, ◌<◌, ◌≤◌, List, [], ◌∷◌, ◌++◌, Some, Bool, true, length, sym, ap, ◌∙◌, subst, inl, ⊎_elim, arith}
use Rattle.std.specs.Prelude.{slice_get}
use Rattle.std.proofs.lemmas.Bool.{cases_eq}
use Rattle.std.proofs.lemmas.Bool.Decides.{nat_tests}
use Rattle.std.proofs.lemmas.Option.{slice_get_within}
use Rattle.list_totals.specs.Totals.{one_if_same, once_below}
use Rattle.list_totals.specs.Standing.{In}
use Rattle.list_totals.proofs.Standing.{in_append, in_behind, in_front}
use Rattle.list_totals.proofs.Totals.{total_push}
use Rattle.series_core.specs.declared.queue_words.Entry.{Entry}
use Rattle.lower_bound.specs.Bound.{View}
use Rattle.sealed_runs.specs.Entries.{IsRun, LeavesDiffer}
use Rattle.subtree_build.specs.Index.{IndexParts}
use Rattle.search_machine.proofs.Places.{get_map}
use Rattle.search_task.specs.Questions.{leaf_bound}
use Rattle.live_query.specs.Marked.{AreMarked, IsMarked, IsMarkedEntry, IsRunOf}
use Rattle.live_query.specs.Parts.{Resting, marks_of}

-- entries with one bound and one leaf are one
pub entry_same : (e d : Entry) → e.bound ≡ d.bound → e.leaf ≡ d.leaf → e ≡ d
entry_same e d b l = ap (λ (x : ℕ). entry x e.leaf) b ∙ ap (λ (x : ℕ). entry d.bound x) l
  where
    entry : ℕ → ℕ → Entry
    entry b l = record { bound = b; leaf = l }

-- a leaf that no searcher put has no mark
pub no_mark : (team : List Resting) (n leaf : ℕ) → length team ≤ n
    → ((j : ℕ) (c : Resting) → j < n → slice_get team j ≡ Some c → slice_get c.hand.marks leaf ≢ Some true)
    → IsMarked (marks_of team) leaf → ⊥
no_mark team n leaf all none is =
    let c = get_map (λ (c : Resting). c.hand.marks) team is.0 is.1 is.2 in
    let low = slice_get_within team is.0 c.0 c.1 in
    none is.0 c.0 (omega arith) c.1
    (ap (λ (own : List Bool). slice_get own leaf) c.2 ∙ is.3)

module _ (view : View) (ix : IndexParts) (marks : List (List Bool)) (n : ℕ) (es : List Entry)
    (are : AreMarked view ix marks n es) where
  wider : (e : Entry) → IsMarkedEntry view ix marks n e → IsMarkedEntry view ix marks (n + 1) e
  wider e is = record { real = let a = is.real in omega arith; bound = is.bound; marked = is.marked }

  once_more : (l : ℕ) → once_below l n + one_if_same l n ≤ once_below l (n + 1)
  once_more l = grind (arith, nat_tests)

  once_wider : (l : ℕ) → once_below l n ≤ once_below l (n + 1)
  once_wider l = grind (arith, nat_tests)

  below_more : (l : ℕ) → l < n + 1 → (l ≡ n → ⊥) → l < n
  below_more l low ne = grind (arith, nat_tests)

  -- a leaf with a mark has its entry behind those of the leaves before it
  pub entries_more : (e : Entry) → e.leaf ≡ n → e.bound ≡ leaf_bound view ix n → IsMarked marks n
      → AreMarked view ix marks (n + 1) (es ++ e ∷ [])
  entries_more e leaf bound marked = record {
    exactly = λ d. (from d, to d);
    once = λ l.
        let a = are.once l in
        let b = total_push (λ (e : Entry). one_if_same l e.leaf) es e in
        let c = ap (one_if_same l) leaf in
        let m = once_more l in
        omega arith;
  }
    where
      here : IsMarkedEntry view ix marks (n + 1) e
      here = record {
        real = omega arith;
        bound = bound ∙ ap (leaf_bound view ix) (sym leaf);
        marked = subst (IsMarked marks) (sym leaf) marked;
      }

      from : (d : Entry) → In d (es ++ e ∷ []) → IsMarkedEntry view ix marks (n + 1) d
      from d i = ⊎_elim
          (λ (old : In d es). wider d ((are.exactly d).0 old))
          (λ (new : In d (e ∷ [])). ⊎_elim
          (λ (same : d ≡ e). subst (IsMarkedEntry view ix marks (n + 1)) (sym same) here)
          (λ (none : ⊥). absurd none)
          new)
          (in_append d es (e ∷ []) i)

      to : (d : Entry) → IsMarkedEntry view ix marks (n + 1) d → In d (es ++ e ∷ [])
      to d is = ⊎_elim
          (λ (last : d.leaf ≡ n).
          in_behind d es (e ∷ [])
          (inl (entry_same d e (is.bound ∙ ap (leaf_bound view ix) last ∙ sym bound) (last ∙ sym leaf))))
          (λ (ne : d.leaf ≡ n → ⊥).
          in_front d es (e ∷ [])
          ((are.exactly d).1 (record { real = below_more d.leaf is.real ne; bound = is.bound; marked = is.marked })))
          (cases_eq d.leaf n)

  -- a leaf with no mark has none
  pub entries_skip : (IsMarked marks n → ⊥) → AreMarked view ix marks (n + 1) es
  entries_skip none = record {
    exactly = λ d. (λ i. wider d ((are.exactly d).0 i), to d);
    once = λ l. let a = are.once l in let b = once_wider l in omega arith;
  }
    where
      to : (d : Entry) → IsMarkedEntry view ix marks (n + 1) d → In d es
      to d is = ⊎_elim
          (λ (last : d.leaf ≡ n). absurd (none (subst (IsMarked marks) last is.marked)))
          (λ (ne : d.leaf ≡ n → ⊥).
          (are.exactly d).1 (record { real = below_more d.leaf is.real ne; bound = is.bound; marked = is.marked }))
          (cases_eq d.leaf n)

  -- no two of them have one leaf
  pub marked_differ : LeavesDiffer es
  marked_differ l = let a = are.once l in let b = once_small l n in omega arith
    where
      once_small : (l n : ℕ) → once_below l n ≤ 1
      once_small l n = grind (arith, nat_tests)

-- a run of the marked entries
pub run_of_marked : (view : View) (ix : IndexParts) (marks : List (List Bool)) (queues m : ℕ) (es run : List Entry)
    → AreMarked view ix marks (length ix.leaves) es → IsRun es queues m run → IsRunOf view ix marks queues m run
run_of_marked view ix marks queues m es run are is = record {
  ascending = is.ascending;
  exactly = λ e. (
    λ i. let r = (is.exactly e).0 i in ((are.exactly e).0 r.0, r.1),
    λ r. (is.exactly e).1 ((are.exactly e).1 r.0, r.1),
  );
}
