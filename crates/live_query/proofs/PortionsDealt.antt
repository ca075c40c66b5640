-- Rows of passes: the next word with its row (`rows_more`), a pass from each row (`taken_none`, `taken_more`, `taken_all`, `rows_left`),
-- the limits of the worker that gets them (`limits_dealt`), and the workers after it has them (`hired_shared`).
use Rattle.std.proofs.Common.{◌≡◌, ℕ, suc, ◌<◌, ◌%◌, ◌+◌, List, [], ◌∷◌, ◌++◌, Some, All, length, set, true, sym, ap, ◌∙◌, subst, ⊎_elim, length-append, mod-lt, arith}
use Rattle.std.specs.Prelude.{replicate, slice_get}
use Rattle.std.proofs.lemmas.List.{length-replicate}
use Rattle.std.proofs.lemmas.Option.{none-some, slice_get_within}
use Rattle.series_core.specs.declared.distance.TheConstants.{NONE}
use Rattle.best_word.specs.Passes.{Best, Pass, fresh_pass}
use Rattle.search_machine.specs.Ground.{Ground}
use Rattle.search_machine.proofs.Places.{get_set, get_set_same, get_some}
use Rattle.subtree_build.specs.Index.{IndexParts}
use Rattle.search_task.specs.Questions.{Question, search_over}
use Rattle.query_core.specs.Portions.{AreLimits, portion_last}
use Rattle.query_core.specs.Teams.{AreHired}
use Rattle.query_core.specs.Working.{IsOf, Shows, Working, opens_as}
use Rattle.live_query.specs.PortionRows.{AreRows, AreTaken, IsRow, PassRow}
use Rattle.query_core.proofs.Pushes.{at_push, push_both}
use Rattle.live_query.proofs.Openers.{all_replicate}
use Rattle.live_query.proofs.Places.{all_ends}

-- a worker that shares limits is else as it opened
pub hired_shared : (a : Question) (ix : IndexParts) (m : ℕ) (ws : List Working) (i : ℕ) (w v : Working) → AreHired a ix m ws
    → slice_get ws i ≡ Some w → v ≡ record w { shares = true } → AreHired a ix m (set ws i v)
hired_shared a ix m ws i w v hired at is = record {
  places = λ j x at_x. ⊎_elim
      (λ (new : (j ≡ i) × (v ≡ x)).
      let was = hired.places i w at in
      subst (IsOf a ix m j) new.1 (subst (λ (n : ℕ). IsOf a ix m n v) (sym new.0) (subst (IsOf a ix m i) (sym is) (record {
        question = was.question;
        index = was.index;
        number = was.number;
        queues = was.queues;
      }))))
      (λ (old : slice_get ws j ≡ Some x). hired.places j x old)
      (get_set ws i j x v at_x);
  opens = λ j x at_x. ⊎_elim
      (λ (new : (j ≡ i) × (v ≡ x)).
      let was = hired.opens i w at in
      subst (λ (z : Working). Shows z (opens_as (search_over a ix 1 m) j)) new.1
      (subst (λ (n : ℕ). Shows v (opens_as (search_over a ix 1 m) n)) (sym new.0)
      (subst (λ (z : Working). Shows z (opens_as (search_over a ix 1 m) i)) (sym is)
      (record { phase = was.phase; rest = was.rest; list = was.list; marks = was.marks }))))
      (λ (old : slice_get ws j ≡ Some x). hired.opens j x old)
      (get_set ws i j x v at_x);
}

module _ (g : Ground) where
  -- one more word, with the row of its passes
  pub rows_more : (words : List Best) (n : ℕ) (rows : List PassRow) (b : Best) (row : PassRow) → AreRows g words n rows
      → row.items ≡ replicate n (fresh_pass b (portion_last g (length words)))
      → AreRows g (words ++ b ∷ []) n (rows ++ row ∷ [])
  rows_more words n rows b row are is = record {
    count = length-append rows (row ∷ []) ∙ ap (λ (m : ℕ). m + 1) are.count ∙ sym (length-append words (b ∷ []));
    each = push_both (λ c a (r : PassRow). IsRow g c a n r.items) words rows b row (sym are.count) are.each
        (ap (λ (ps : List Pass). length ps) is ∙ length-replicate n _, all_replicate n _ row.items is);
  }

  -- passes were taken from the first rows, of which n more are left
  abbrev pub TakenTo : List Best → ℕ → List Pass → List PassRow → Type 0
  TakenTo words n passes rows =
      (c : ℕ) (b : Best) (p : Pass) (row : PassRow) → slice_get words c ≡ Some b → slice_get passes c ≡ Some p
      → slice_get rows c ≡ Some row → (p ≡ fresh_pass b (portion_last g c)) × IsRow g c b n row.items

  pub taken_none : (words : List Best) (n : ℕ) (rows : List PassRow) → TakenTo words n [] rows
  taken_none words n rows c b p row at_b at_p at_row = absurd (none-some p at_p)

  pub taken_more : (words : List Best) (n : ℕ) (old rows : List PassRow) (passes : List Pass) (row rest : PassRow) (p : Pass)
      → AreRows g words (suc n) old → TakenTo words n passes rows → slice_get old (length passes) ≡ Some row
      → row.items ≡ rest.items ++ p ∷ [] → TakenTo words n (passes ++ p ∷ []) (set rows (length passes) rest)
  taken_more words n old rows passes row rest p are taken at is c b q left at_b at_q at_left = ⊎_elim
      (λ (was : slice_get passes c ≡ Some q). ⊎_elim
      (λ (new : (c ≡ length passes) × (rest ≡ left)).
      let low = slice_get_within passes c q was in let e = new.0 in absurd (omega arith))
      (λ (other : slice_get rows c ≡ Some left). taken c b q left at_b was other)
      (get_set rows (length passes) c left rest at_left))
      (λ (new : (c ≡ length passes) × (p ≡ q)).
      let before = are.each c b row at_b (ap (slice_get old) new.0 ∙ at) in
      let ends = all_ends (λ (r : Pass). r ≡ fresh_pass b (portion_last g c)) rest.items p
      (subst (All (λ (r : Pass). r ≡ fresh_pass b (portion_last g c))) is before.1) in
      let same : rest ≡ left
      = get_set_same rows (length passes) left rest
      (ap (slice_get (set rows (length passes) rest)) (sym new.0) ∙ at_left) in
      let long = ap (λ (ps : List Pass). length ps) is ∙ length-append rest.items (p ∷ []) in (
        sym new.1 ∙ ends.1,
        subst (λ (r : PassRow). IsRow g c b n r.items) same (omega (arith, before.0, long), ends.0),
      ))
      (at_push passes p q c at_q)

  module _ (words : List Best) (n : ℕ) (old rows : List PassRow) (passes : List Pass) (are : AreRows g words (suc n) old)
      (taken : TakenTo words n passes rows) (all : length passes ≡ length old) (same : length rows ≡ length old) where
    pub taken_all : AreTaken g words passes
    taken_all = record {
      count = all ∙ are.count;
      each = λ c b p at_b at_p.
          let low = slice_get_within passes c p at_p in
          let row = get_some rows c (omega arith) in
          (taken c b p row.0 at_b at_p row.1).0;
    }

    pub rows_left : AreRows g words n rows
    rows_left = record {
      count = same ∙ are.count;
      each = λ c b row at_b at_row.
          let low = slice_get_within rows c row at_row in
          let p = get_some passes c (omega arith) in
          (taken c b p.0 row at_b p.1 at_row).1;
    }

  -- the limits of worker i
  pub limits_dealt : (words : List Best) (passes : List Pass) (i : ℕ) → 0 < g.queues → length words ≡ g.queues → AreTaken g words passes
      → AreLimits g (record { words = words; passes = passes; home = i % g.queues; at_home = true; offered = NONE })
  limits_dealt words passes i some many taken = record {
    words = many;
    passes = taken.count ∙ many;
    home = mod-lt i some;
    each = λ c b p at_b at_p.
        let is = taken.each c b p at_b at_p in
        (ap (λ (q : Pass). q.best) is, ap (λ (q : Pass). q.floor) is);
  }
