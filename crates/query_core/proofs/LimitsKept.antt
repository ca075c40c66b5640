-- What a worker keeps of the limits of portions: as it opens (`opened_stay`), by its calls on their words (`limits_set`, `limits_same`,
-- `read_more`, `left_more`, `keeps_read`, `read_low`), and by a scan (`found_low`, `can_limit`, `keeps_scanned`).
use Rattle.std.proofs.Common.{◌≡◌, ℕ, zero, suc, ◌+◌, ◌-◌, ◌<◌, ◌≤◌, ◌%◌, Bool, true, false, not, List, [], ◌∷◌, ◌++◌, Option, None, Some, length, set, refl, sym, ap, subst, ◌∙◌, ⊎_elim, inl, inr, nat_eq, true≢false, arith}
use Rattle.std.specs.Prelude.{cond, slice_get, slice_set}
use Rattle.std.specs.List.{range_with_len}
use Rattle.std.specs.Option.{is_some}
use Rattle.std.proofs.Math.Nat.{zero-mod}
use Rattle.std.proofs.lemmas.Bool.{and_parts, cases_eq, eq-eqb, eqb-true, lt-ltb}
use Rattle.std.proofs.lemmas.Bool.Decides.{nat_tests}
use Rattle.std.proofs.lemmas.List.{length-set}
use Rattle.std.proofs.lemmas.Option.{none-some, same_Some}
use Rattle.list_totals.specs.Standing.{In}
use Rattle.list_totals.specs.Totals.{times, total}
use Rattle.list_totals.proofs.Standing.{in_total}
use Rattle.series_core.specs.Order.{distance_at}
use Rattle.series_core.specs.declared.distance.TheConstants.{NONE}
use Rattle.series_core.specs.declared.pair.Pair.{Pair}
use Rattle.search_machine.specs.Ground.{Fits, Ground, last}
use Rattle.search_machine.specs.Outcome.{is_start}
use Rattle.search_machine.specs.Workers.{start_list}
use Rattle.search_machine.proofs.PlainList.{last_none}
use Rattle.search_machine.proofs.Places.{get_set, get_set_other}
use Rattle.best_word.specs.Passes.{Best, Pass}
use Rattle.best_word.specs.declared.rule.Event.TheVariants.{Read}
use Rattle.query_core.specs.Portions.{AreLimits, CanLimit, HasLimits, IfRead, IsLimitOf, IfScanned, Keeps, Limited, ReadAt, StayAt, leaves_of, lies_in, portion_last, portion_of, portion_rank}
use Rattle.query_core.specs.Working.{IsFound, Shows, Working, opens_as}
use Rattle.query_core.proofs.Found.{found_known, mark_kept}
use Rattle.query_core.proofs.Portions.{last_portions, part_in, portion_low}

-- each number of a range stands there
in_range : (a n l : ℕ) → a ≤ l → l < a + n → In l (range_with_len a n)
in_range a zero l low high = absurd (omega arith)
in_range a (suc n) l low high = ⊎_elim
    (λ (first : l ≡ a). inl first)
    (λ (other : l ≡ a → ⊥). inr (in_range (a + 1) n l (omega arith) (omega arith)))
    (cases_eq l a)

module _ (g : Ground) (fits : Fits g) where
  -- a member of one of its leaves lies in a portion
  lies_there : (c l s : ℕ) → l < g.leaves → portion_of g l ≡ c → 0 < times s (g.members l) → lies_in g c s ≡ true
  lies_there c l s real of member =
      let there : In l (leaves_of g c) = part_in (λ m. nat_eq (portion_of g m) c) (range_with_len 0 g.leaves) l
      (in_range 0 g.leaves l (omega arith) (omega arith)) (eq-eqb (portion_of g l) c of) in
      lt-ltb 0 (total (λ (m : ℕ). times s (g.members m)) (leaves_of g c))
      (omega (arith, member, in_total (λ (m : ℕ). times s (g.members m)) l (leaves_of g c) there))

  -- where all marks are of one portion, a list that was found there gives a limit for it
  pub found_low : (c : ℕ) (marks : List Bool) (ps : List Pair) → StayAt g c marks → IsFound g marks ps
      → portion_last g c ≤ distance_at (portion_rank g - 1) ps
  found_low c marks ps stay found = portion_low g fits c ps found.ascending (found_known g fits marks ps found).known
      (λ p i.
      let home = fits.has_home p.number (found.known p i).0 in
      lies_there c home.0 p.number home.1 (stay home.0 home.1 (found.from p home.0 i home.2)) home.2)

  -- one more mark of the portion
  stay_more : (c l : ℕ) (marks : List Bool) → StayAt g c marks → portion_of g l ≡ c → StayAt g c (slice_set marks l true)
  stay_more c l marks stay of m real marked = ⊎_elim
      (λ (same : m ≡ l). ap (portion_of g) same ∙ of)
      (λ (other : m ≡ l → ⊥). stay m real (sym (mark_kept marks l m other) ∙ marked))
      (cases_eq m l)

  -- what was read is no less than the last distance, and limits are limits still
  pub read_low : (o p : Option Limited) (v : ℕ) → IfRead g o p v → last g ≤ v
  read_low None None v is = let most = last_none g fits in omega (arith, most, is)
  read_low None (Some after) v read = absurd read
  read_low (Some before) None v read = absurd read
  read_low (Some before) (Some after) v read = last_portions g fits v read.most

  -- limits are there where they were
  pub read_some : (o p : Option Limited) (v : ℕ) → IfRead g o p v → is_some p ≡ is_some o
  read_some None None v is = refl
  read_some None (Some after) v read = absurd read
  read_some (Some before) None v read = absurd read
  read_some (Some before) (Some after) v read = refl

  -- and where there are none, no limit is known
  pub read_none : (o p : Option Limited) (v : ℕ) → is_some o ≡ false → IfRead g o p v → v ≡ NONE
  read_none None None v none is = is
  read_none None (Some after) v none read = absurd read
  read_none (Some before) p v none read = absurd (true≢false none)

  pub scanned_some : (portion distance : ℕ) (o p : Option Limited) → IfScanned g portion distance o p → is_some p ≡ is_some o
  scanned_some portion distance None None scanned = refl
  scanned_some portion distance None (Some after) scanned = absurd scanned
  scanned_some portion distance (Some before) None scanned = absurd scanned
  scanned_some portion distance (Some before) (Some after) scanned = refl

  pub keeps_read : (marks : List Bool) (o p : Option Limited) (v : ℕ) → Keeps g marks o → IfRead g o p v → Keeps g marks p
  keeps_read marks None None v keeps is = tt
  keeps_read marks None (Some after) v keeps read = absurd read
  keeps_read marks (Some before) None v keeps read = absurd read
  keeps_read marks (Some before) (Some after) v keeps read = (
    read.limits,
    λ at_home. subst (λ (c : ℕ). StayAt g c marks) (sym read.home) (keeps.1 (sym read.at_home ∙ at_home)),
  )

  -- one more leaf of this portion is scanned, after which the list is `ps`
  module _ (l portion : ℕ) (marks : List Bool) (of : portion ≡ portion_of g l) where
    -- what the worker may offer then
    pub can_limit : (rank : ℕ) (ps : List Pair) (o : Option Limited) → rank ≡ portion_rank g → Keeps g marks o
        → IsFound g (slice_set marks l true) ps → CanLimit g portion (distance_at (rank - 1) ps) o
    can_limit rank ps None wanted keeps found = tt
    can_limit rank ps (Some limits) wanted keeps found = (
      keeps.0,
      λ at_home same.
          let stay = stay_more portion l marks (subst (λ (c : ℕ). StayAt g c marks) same (keeps.1 at_home)) (sym of) in
          subst (λ (n : ℕ). portion_last g portion ≤ distance_at (n - 1) ps) (sym wanted)
          (found_low portion (slice_set marks l true) ps stay found),
    )

    -- and what it has then
    pub keeps_scanned : (distance : ℕ) (o p : Option Limited) → Keeps g marks o → IfScanned g portion distance o p
        → Keeps g (slice_set marks l true) p
    keeps_scanned distance None None keeps scanned = tt
    keeps_scanned distance None (Some after) keeps scanned = absurd scanned
    keeps_scanned distance (Some before) None keeps scanned = absurd scanned
    keeps_scanned distance (Some before) (Some after) keeps scanned = (
      scanned.limits,
      λ at_home.
          let both = and_parts before.at_home (nat_eq before.home portion) (sym scanned.at_home ∙ at_home) in
          let same : before.home ≡ portion_of g l = eqb-true before.home portion both.1 ∙ of in
          subst (λ (c : ℕ). StayAt g c (slice_set marks l true)) (sym scanned.home)
          (stay_more before.home l marks (keeps.1 both.0) (sym same)),
    )

-- a worker that keeps limits has them
pub kept_limits : (g : Ground) (marks : List Bool) (o : Option Limited) → Keeps g marks o → HasLimits g o
kept_limits g marks None keeps = tt
kept_limits g marks (Some l) keeps = keeps.0

-- limits that are seen as others
pub limits_same : (g : Ground) (l m : Limited) → m.words ≡ l.words → m.home ≡ l.home
    → AreLimits g (record l { passes = m.passes }) → AreLimits g m
limits_same g l m words home are = record {
  words = ap (λ (bs : List Best). length bs) words ∙ are.words;
  passes = are.passes;
  home = subst (λ (c : ℕ). c < g.queues) (sym home) are.home;
  each = λ c b p at_b at_p. are.each c b p (ap (λ (bs : List Best). slice_get bs c) (sym words) ∙ at_b) at_p;
}

-- a worker that made one more call on a word
pub limits_set : (g : Ground) (l : Limited) (passes : List Pass) (c : ℕ) (p q : Pass) → AreLimits g (record l { passes = passes })
    → slice_get passes c ≡ Some p → q.best ≡ p.best → q.floor ≡ p.floor → AreLimits g (record l { passes = set passes c q })
limits_set g l passes c p q are at best floor = record {
  words = are.words;
  passes = length-set passes c q ∙ are.passes;
  home = are.home;
  each = λ d b r at_b at_r. ⊎_elim
      (λ (new : (d ≡ c) × (q ≡ r)).
      let was = are.each c b p (ap (slice_get l.words) (sym new.0) ∙ at_b) at in
      subst (λ (r : Pass). IsLimitOf g d b r) new.1
      (best ∙ was.0, floor ∙ was.1 ∙ ap (portion_last g) (sym new.0)))
      (λ (old : slice_get passes d ≡ Some r). are.each d b r at_b old)
      (get_set passes c d r q at_r);
}

-- a place that was written to holds what was written
pub set_there : {X : Type 0} (xs : List X) (i : ℕ) (x y : X) → slice_get xs i ≡ Some x → slice_get (set xs i y) i ≡ Some y
set_there [] i x y at = absurd (none-some x at)
set_there (z ∷ xs) zero x y at = refl
set_there (z ∷ xs) (suc i) x y at = set_there xs i x y at

-- the passes after one more read, at place n
module _ (old passes : List Pass) (n v : ℕ) (p q : Pass) (at : slice_get passes n ≡ Some p)
    (read : q ≡ record p { trace = p.trace ++ Read v ∷ [] }) (left : (c : ℕ) → n ≤ c → slice_get passes c ≡ slice_get old c) where
  -- those up to that place have read
  pub read_more : (most more : ℕ) → most ≤ more → v ≤ more → ((c : ℕ) → c < n → ReadAt old passes most c)
      → (c : ℕ) → c < n + 1 → ReadAt old (set passes n q) more c
  read_more most more high here was c low r at_old = ⊎_elim
      (λ (new : c ≡ n).
      let there : slice_get passes n ≡ Some r = left n (omega arith) ∙ ap (slice_get old) (sym new) ∙ at_old in
      let same : p ≡ r = same_Some p r (sym at ∙ there) in (
        v,
        here,
        ap (slice_get (set passes n q)) new ∙ set_there passes n p q at
            ∙ ap Some (read ∙ ap (λ (s : Pass). record s { trace = s.trace ++ Read v ∷ [] }) same),
      ))
      (λ (other : c ≡ n → ⊥).
      let before = was c (omega (arith, low, other)) r at_old in
      (before.0, omega (arith, before.1, high), get_set_other passes n c q other ∙ before.2))
      (cases_eq c n)

  -- and the others are left
  pub left_more : (c : ℕ) → n + 1 ≤ c → slice_get (set passes n q) c ≡ slice_get old c
  left_more c above =
      get_set_other passes n c q (λ (same : c ≡ n). absurd (omega (arith, same, above))) ∙ left c (omega (arith, above))

-- a worker that opens has the mark of the start leaf alone, which is of the first portion
pub opened_stay : (g : Ground) (i : ℕ) (w : Working) → Shows w (opens_as g i) → length w.marks ≡ g.leaves
    → StayAt g (i % g.queues) w.marks
opened_stay g zero w shows all l real marked = start_first g.start (leader_start g.start l scanned)
  where
    scanned : nat_eq (times l (start_list g.start)) 0 ≡ false
    scanned = shows.marks l (omega arith) ∙ ap not marked

    leader_start : (start : Option ℕ) (l : ℕ) → nat_eq (times l (start_list start)) 0 ≡ false → is_start start l ≡ true
    leader_start None l h = absurd (true≢false h)
    leader_start (Some m) l h = grind (arith, nat_tests)

    start_first : (start : Option ℕ) → is_start start l ≡ true → cond (is_start start l) 0 (l % g.queues) ≡ 0 % g.queues
    start_first start is = ap (λ b. cond b 0 (l % g.queues)) is ∙ sym (zero-mod g.queues)
opened_stay g (suc i) w shows all l real marked = absurd (true≢false (shows.marks l (omega arith) ∙ ap not marked))
