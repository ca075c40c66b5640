-- Fates that are written queue by queue, from the last to the first, are those of the outcome.
use Rattle.std.proofs.Common.{List, None, Option, Some, [], ap, arith, cond, false, length, length-append, map, refl, set, subst, suc, sym, true, zero, ℕ, Bool, ⊎_elim, ◌++◌, ◌+◌, ◌<◌, ◌∙◌, ◌∷◌, ◌≡◌, ◌≤◌}
use Rattle.std.proofs.lemmas.Bool.{cases_Bool, cases_eq, cond-false, cond-true}
use Rattle.std.proofs.lemmas.Bool.Decides.{nat_tests}
use Rattle.std.proofs.lemmas.Option.{same_Some, slice_get_within}
use Rattle.std.specs.Option.{option_map}
use Rattle.std.specs.Prelude.{nat_lt, slice_get}
use Rattle.list_totals.specs.Totals.{one_if_same}
use Rattle.series_core.specs.declared.queue_words.Entry.{Entry}
use Rattle.leaf_queues.specs.PlainQueue.{PlainQueue}
use Rattle.search_machine.specs.declared.outcome.Fate.{Fate}
use Rattle.search_machine.specs.declared.outcome.QueueLine.{QueueLine}
use Rattle.search_machine.specs.declared.outcome.Fate.TheVariants.{Queue as QueueFate, Start as StartFate}
use Rattle.query_core.specs.Fates.{AreMarked, AreUnqueued, fate_over, fate_queued, fate_unqueued}
use Rattle.search_machine.specs.Ground.{Ground}
use Rattle.search_machine.specs.Machine.{State}
use Rattle.search_machine.specs.Outcome.{fate, fates_from, first_place, is_start, late_fate, line_of, taken_fate}
use Rattle.search_machine.specs.Sound.{scans, takes}
use Rattle.search_machine.specs.Basics.{entered}
use Rattle.search_machine.proofs.Counts.{equal_counts, others_count}
use Rattle.search_machine.proofs.Places.{get_set_other}

module _ {X : Type 0} where
  -- a place that is written holds what was written
  pub get_set_here : (xs : List X) (i : ℕ) (y : X) → i < length xs → slice_get (set xs i y) i ≡ Some y
  get_set_here [] i y h = absurd (omega arith)
  get_set_here (x ∷ xs) zero y h = refl
  get_set_here (x ∷ xs) (suc i) y h = get_set_here xs i y (omega arith)

  -- a place of the front of a longer list
  pub get_front : (xs ys : List X) (i : ℕ) → i < length xs → slice_get (xs ++ ys) i ≡ slice_get xs i
  get_front [] ys i h = absurd (omega arith)
  get_front (x ∷ xs) ys zero h = refl
  get_front (x ∷ xs) ys (suc i) h = get_front xs ys i (omega arith)

  -- the place behind a list
  pub get_behind : (xs : List X) (y : X) → slice_get (xs ++ y ∷ []) (length xs) ≡ Some y
  get_behind [] y = refl
  get_behind (x ∷ xs) y = get_behind xs y

-- one entry more at the end
entered_push : (l : ℕ) (es : List Entry) (e : Entry)
    → entered l (es ++ e ∷ []) ≡ entered l es + one_if_same l e.leaf
entered_push l [] e = omega arith
entered_push l (d ∷ es) e = let r = entered_push l es e in omega arith

module _ (start : Option ℕ) (m : ℕ) where
  -- the start leaf keeps its fate
  fate_start : (es : List Entry) (l : ℕ) (f : Fate) → is_start start l ≡ true
      → fate_over start m es l f ≡ f
  fate_start es l f h = cond-true (is_start start l) f _ h

  -- another leaf that stands among the entries has the queue's
  fate_hit : (es : List Entry) (l : ℕ) (f : Fate) → is_start start l ≡ false → 0 < entered l es
      → fate_over start m es l f ≡ QueueFate m
  fate_hit es l f h some =
      let t : nat_lt 0 (entered l es) ≡ true = grind (arith, nat_tests) in
      cond-false (is_start start l) f _ h ∙ cond-true (nat_lt 0 (entered l es)) (QueueFate m) f t

  -- only how often the leaf stands there matters
  fate_like : (es ds : List Entry) (l : ℕ) (f : Fate) → entered l es ≡ entered l ds
      → fate_over start m es l f ≡ fate_over start m ds l f
  fate_like es ds l f e =
      ap (λ (n : ℕ). cond (is_start start l) f (cond (nat_lt 0 n) (QueueFate m) f)) e

  -- another leaf than that of one entry more
  fate_other : (es : List Entry) (e : Entry) (l : ℕ) (f : Fate) → (l ≡ e.leaf → ⊥)
      → fate_over start m es l f ≡ fate_over start m (es ++ e ∷ []) l f
  fate_other es e l f other = fate_like es (es ++ e ∷ []) l f
      (let a = entered_push l es e in let b = others_count l e.leaf other in omega arith)

  -- one entry more whose leaf is written
  pub mark_more : (es : List Entry) (e : Entry) (before after : List Fate)
      → AreMarked start m es before after → is_start start e.leaf ≡ false → e.leaf < length after
      → AreMarked start m (es ++ e ∷ []) before (set after e.leaf (QueueFate m))
  mark_more es e before after was not_start low l f at = ⊎_elim
      (λ (same : l ≡ e.leaf).
      let here : slice_get (set after e.leaf (QueueFate m)) l ≡ Some (QueueFate m) =
      subst (λ (n : ℕ). slice_get (set after e.leaf (QueueFate m)) n ≡ Some (QueueFate m)) (sym same)
      (get_set_here after e.leaf (QueueFate m) low) in
      let some : 0 < entered l (es ++ e ∷ []) =
      let a = entered_push l es e in let b = equal_counts l e.leaf same in omega arith in
      here ∙ ap (λ (x : Fate). Some x) (sym (fate_hit (es ++ e ∷ []) l f
      (ap (is_start start) same ∙ not_start) some)))
      (λ (other : l ≡ e.leaf → ⊥).
      get_set_other after e.leaf l (QueueFate m) other ∙ was l f at
      ∙ ap (λ (x : Fate). Some x) (fate_other es e l f other))
      (cases_eq l e.leaf)

  -- one entry more of the start leaf
  pub mark_start : (es : List Entry) (e : Entry) (before after : List Fate)
      → AreMarked start m es before after → is_start start e.leaf ≡ true
      → AreMarked start m (es ++ e ∷ []) before after
  mark_start es e before after was is_it l f at = ⊎_elim
      (λ (same : l ≡ e.leaf).
      let s : is_start start l ≡ true = ap (is_start start) same ∙ is_it in
      was l f at ∙ ap (λ (x : Fate). Some x)
      (fate_start es l f s ∙ sym (fate_start (es ++ e ∷ []) l f s)))
      (λ (other : l ≡ e.leaf → ⊥). was l f at
      ∙ ap (λ (x : Fate). Some x) (fate_other es e l f other))
      (cases_eq l e.leaf)

  -- one entry more that names no leaf
  pub mark_past : (es : List Entry) (e : Entry) (before after : List Fate)
      → AreMarked start m es before after → length after ≤ e.leaf
      → AreMarked start m (es ++ e ∷ []) before after
  mark_past es e before after was past l f at =
      let low = slice_get_within after l _ (was l f at) in
      was l f at ∙ ap (λ (x : Fate). Some x)
      (fate_other es e l f (λ same. let b = past in absurd (omega arith)))

-- the fate by the first of some queues that gave the leaf
abbrev queue_or : Fate → ℕ → Option ℕ → Fate
queue_or f m None = f
queue_or f m (Some j) = QueueFate (m + j)

-- the start leaf keeps its fate
queued_start : (start : Option ℕ) (m : ℕ) (qs : List QueueLine) (l : ℕ) (f : Fate)
    → is_start start l ≡ true → fate_queued start m qs l f ≡ f
queued_start start m [] l f h = refl
queued_start start m (q ∷ qs) l f h =
    fate_start start m q.taken l (fate_queued start (suc m) qs l f) h
    ∙ queued_start start (suc m) qs l f h

-- the first queue decides, and else the later ones
queue_first : (b : Bool) (f rest : Fate) (m : ℕ) (o : Option ℕ) → rest ≡ queue_or f (suc m) o
    → cond b (QueueFate m) rest ≡ queue_or f m (cond b (Some 0) (option_map suc o))
queue_first true f rest m o e = let z : m ≡ m + 0 = omega arith in ap (λ (n : ℕ). QueueFate n) z
queue_first false f rest m None e = e
queue_first false f rest m (Some j) e =
    let z : suc m + j ≡ m + suc j = omega arith in e ∙ ap (λ (n : ℕ). QueueFate n) z

-- another leaf has the first queue that gave it
queued_first : (start : Option ℕ) (m : ℕ) (qs : List PlainQueue) (l : ℕ) (f : Fate)
    → is_start start l ≡ false → fate_queued start m (map line_of qs) l f ≡ queue_or f m (first_place (takes l) qs)
queued_first start m [] l f h = refl
queued_first start m (q ∷ qs) l f h =
    cond-false (is_start start l) (fate_queued start (suc m) (map line_of qs) l f) _ h
    ∙ queue_first (nat_lt 0 (takes l q)) f (fate_queued start (suc m) (map line_of qs) l f) m
    (first_place (takes l) qs) (queued_first start (suc m) qs l f h)

-- without a queue it is late or bound
taken_or : (g : Ground) (s : State) (l : ℕ) (o : Option ℕ)
    → queue_or (late_fate g l (first_place (scans l) s.workers)) 0 o ≡ taken_fate g s l o
taken_or g s l None = refl
taken_or g s l (Some m) = let z : 0 + m ≡ m = omega arith in ap (λ (n : ℕ). QueueFate n) z

-- after all queues a leaf has its fate
pub queued_fate : (g : Ground) (s : State) (l : ℕ)
    → fate_queued g.start 0 (map line_of s.queues) l (fate_unqueued g s l) ≡ fate g s l
queued_fate g s l = ⊎_elim
    (λ (h : is_start g.start l ≡ true).
    queued_start g.start 0 (map line_of s.queues) l (fate_unqueued g s l) h
    ∙ cond-true (is_start g.start l) StartFate _ h
    ∙ sym (cond-true (is_start g.start l) StartFate _ h))
    (λ (h : is_start g.start l ≡ false).
    queued_first g.start 0 s.queues l (fate_unqueued g s l) h
    ∙ ap (λ (f : Fate). queue_or f 0 (first_place (takes l) s.queues))
    (cond-false (is_start g.start l) StartFate _ h)
    ∙ taken_or g s l (first_place (takes l) s.queues)
    ∙ sym (cond-false (is_start g.start l) StartFate _ h))
    (cases_Bool (is_start g.start l))

-- a list with the fate of each leaf is the list of the fates
pub fates_listed : (g : Ground) (s : State) (n l : ℕ) (fs : List Fate) → length fs ≡ n
    → ((k : ℕ) → k < n → slice_get fs k ≡ Some (fate g s (l + k))) → fs ≡ fates_from g s l n
fates_listed g s zero l [] e each = refl
fates_listed g s zero l (f ∷ fs) e each = absurd (omega arith)
fates_listed g s (suc n) l [] e each = absurd (omega arith)
fates_listed g s (suc n) l (f ∷ fs) e each =
    let z : l + 0 ≡ l = omega arith in
    let first : f ≡ fate g s l = same_Some f (fate g s (l + 0)) (each 0 (omega arith)) ∙ ap (fate g s) z in
    let rest : fs ≡ fates_from g s (suc l) n =
    fates_listed g s n (suc l) fs (omega arith) (λ k low.
    let y : l + suc k ≡ suc l + k = omega arith in
    each (suc k) (omega arith) ∙ ap (λ (j : ℕ). Some (fate g s j)) y) in
    cc

-- one leaf more has its fate without queues
pub unqueued_more : (g : Ground) (s : State) (n : ℕ) (fs : List Fate) (f : Fate)
    → AreUnqueued g s n fs → f ≡ fate_unqueued g s n → AreUnqueued g s (n + 1) (fs ++ f ∷ [])
unqueued_more g s n fs f was same = record {
  count = let a = was.count in let b = length-append fs (f ∷ []) in omega arith;
  each = λ l low. ⊎_elim
      (λ (here : l ≡ n).
      let e : l ≡ length fs = here ∙ sym was.count in
      ap (slice_get (fs ++ f ∷ [])) e ∙ get_behind fs f ∙ ap (λ (x : Fate). Some x) same
      ∙ ap (λ (k : ℕ). Some (fate_unqueued g s k)) (sym here))
      (λ (other : l ≡ n → ⊥).
      let a = was.count in
      let low2 : l < n = omega arith in
      get_front fs (f ∷ []) l (omega arith) ∙ was.each l low2)
      (cases_eq l n);
}
