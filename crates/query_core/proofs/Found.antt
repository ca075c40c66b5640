-- The list of a code's worker: it is known (`found_known`), and a scan of a leaf without a mark keeps it found
-- (`found_scanned`).
use Rattle.std.proofs.Common.{◌≡◌, ◌≢◌, ℕ, zero, suc, ◌+◌, ◌<◌, ◌≤◌, List, [], ◌∷◌, Bool, true, false, length, refl, sym, ap, ◌∙◌, subst, arith, ⊎_elim, inl, inr, ◌⊎◌}
use Rattle.std.specs.Prelude.{slice_set}
use Rattle.std.proofs.lemmas.Bool.{false≢true}
use Rattle.std.proofs.lemmas.List.{get_or-set_same, get_or-set_other}
use Rattle.list_totals.specs.Totals.{times}
use Rattle.list_totals.specs.Standing.{In}
use Rattle.series_core.specs.declared.pair.Pair.{Pair}
use Rattle.search_machine.specs.Ground.{Ground, Fits, last, plain, scan, worst}
use Rattle.search_machine.specs.Sound.{ListUnder}
use Rattle.query_core.specs.Working.{IsFound, is_marked}
use Rattle.search_machine.proofs.Counts.{same_counts, times_cons}
use Rattle.search_machine.proofs.PlainList.{Known, has_plain, last_worst, plain_has}
use Rattle.search_machine.proofs.Scans.{list_scanned}

-- the leaves that have marks, where the first mark is that of leaf n
abbrev marked_from : ℕ → List Bool → List ℕ
marked_from n [] = []
marked_from n (true ∷ marks) = n ∷ marked_from (suc n) marks
marked_from n (false ∷ marks) = marked_from (suc n) marks

-- a leaf with a mark is among them
marked_there : (n l : ℕ) (marks : List Bool) → is_marked marks l ≡ true
    → 0 < times (n + l) (marked_from n marks)
marked_there n l [] h = absurd (false≢true h)
marked_there n zero (true ∷ marks) h = let one = same_counts (n + 0) in grind (arith, one)
marked_there n zero (false ∷ marks) h = absurd (false≢true h)
marked_there n (suc l) (true ∷ marks) h =
    let e : suc n + l ≡ n + suc l = omega arith in
    let rest : 0 < times (n + suc l) (marked_from (suc n) marks) =
    subst (λ (m : ℕ). 0 < times m (marked_from (suc n) marks)) e (marked_there (suc n) l marks h) in
    omega (arith, rest)
marked_there n (suc l) (false ∷ marks) h =
    let e : suc n + l ≡ n + suc l = omega arith in
    subst (λ (m : ℕ). 0 < times m (marked_from (suc n) marks)) e (marked_there (suc n) l marks h)

-- what is among them has a mark
there_marked : (n m : ℕ) (marks : List Bool) → 0 < times m (marked_from n marks)
    → (l : ℕ) × (m ≡ n + l) × (is_marked marks l ≡ true)
there_marked n m [] h = absurd (omega arith)
there_marked n m (true ∷ marks) h = ⊎_elim
    (λ (e : m ≡ n). (0, omega arith, refl))
    (λ (t : 0 < times m (marked_from (suc n) marks)).
    let r = there_marked (suc n) m marks t in let e = r.1 in (suc r.0, omega arith, r.2))
    (times_cons m n (marked_from (suc n) marks) h)
there_marked n m (false ∷ marks) h =
    let r = there_marked (suc n) m marks h in let e = r.1 in (suc r.0, omega arith, r.2)

-- a mark that is set is there
pub mark_set : (marks : List Bool) (l : ℕ) → l < length marks → is_marked (slice_set marks l true) l ≡ true
mark_set marks l real = get_or-set_same marks l true false real

-- another mark is as it was
pub mark_kept : (marks : List Bool) (l m : ℕ) → m ≢ l
    → is_marked (slice_set marks l true) m ≡ is_marked marks m
mark_kept marks l m other = get_or-set_other marks l m true false other

module _ (g : Ground) (fits : Fits g) (marks : List Bool) (ps : List Pair) (found : IsFound g marks ps) where
  -- the pairs are of the plain list, in order
  pub found_known : Known g ps
  found_known = record {
    ascending = found.ascending;
    known = λ p h.
        let k = found.known p h in
        subst (λ (q : Pair). In q (plain g)) (sym k.1) (has_plain g p.number k.0);
  }

  -- what a worker may offer is at least the last distance
  pub found_worst : last g ≤ worst g ps
  found_worst = last_worst g fits ps found_known

  -- the list is that of a worker that scanned the leaves with marks
  found_under : ListUnder g ⊥ (marked_from 0 marks) ps
  found_under = record {
    ascending = found.ascending;
    known = found_known.known;
    from = λ p h.
        let home = fits.has_home p.number (found.known p h).0 in
        let e : 0 + home.0 ≡ home.0 = omega arith in (
          home.0,
          subst (λ (m : ℕ). 0 < times m (marked_from 0 marks)) e
              (marked_there 0 home.0 marks (found.from p home.0 h home.2)),
          home.2,
        );
    full = λ none p l a there member. absurd none;
  }

  -- a scan of a leaf without a mark, which is then set, keeps the list found
  pub found_scanned : (l v : ℕ) → l < g.leaves → l < length marks → is_marked marks l ≡ false
      → IsFound g (slice_set marks l true) (scan g v (g.members l) ps)
  found_scanned l v real marked_real unmarked = record {
    ascending = after.ascending;
    known = λ p h. plain_has g p (after.known p h);
    from = λ p m h member.
        let f = after.from p h in
        subst (λ (n : ℕ). is_marked (slice_set marks l true) n ≡ true)
        (fits.one_home f.0 m p.number f.2 member) (now_marked f.0 f.1);
  }
    where
      is_there : (n : ℕ) → 0 < times n (marked_from 0 marks) → is_marked marks n ≡ true
      is_there n t =
          let r = there_marked 0 n marks t in
          let e : n ≡ r.0 = omega (arith, r.1) in
          ap (is_marked marks) e ∙ r.2

      unscanned : times l (marked_from 0 marks) ≡ 0
      unscanned = ⊎_elim
          (λ (t : 0 < times l (marked_from 0 marks)).
          absurd (false≢true (sym unmarked ∙ is_there l t)))
          (λ (none : times l (marked_from 0 marks) ≡ 0). none)
          (some_or_none (times l (marked_from 0 marks)))
        where
          some_or_none : (n : ℕ) → (0 < n) ⊎ (n ≡ 0)
          some_or_none zero = inr refl
          some_or_none (suc n) = inl (omega arith)

      after : ListUnder g ⊥ (l ∷ marked_from 0 marks) (scan g v (g.members l) ps)
      after = list_scanned g fits ⊥ l v (marked_from 0 marks) ps real unscanned (λ none. absurd none) found_under

      now_marked : (n : ℕ) → 0 < times n (l ∷ marked_from 0 marks)
          → is_marked (slice_set marks l true) n ≡ true
      now_marked n h = ⊎_elim
          (λ (e : n ≡ l). subst (λ (m : ℕ). is_marked (slice_set marks l true) m ≡ true) (sym e)
          (mark_set marks l marked_real))
          (λ (t : 0 < times n (marked_from 0 marks)).
          let was = is_there n t in
          mark_kept marks l n (λ e. false≢true (sym unmarked ∙ ap (is_marked marks) (sym e) ∙ was)) ∙ was)
          (times_cons n l (marked_from 0 marks) h)
