-- A team as it opens stands for the opening state.
use Rattle.std.proofs.Common.{List, false, Some, [], ap, arith, inl, inr, length, refl, subst, suc, sym, zero, ℕ, ⊎_elim, ◌++◌, ◌+◌, ◌-◌, ◌∙◌, ◌∷◌, ◌≡◌, ◌≤◌, ◌⊎◌}
use Rattle.std.proofs.lemmas.Bool.{cases_eq}
use Rattle.std.proofs.lemmas.List.{length-replicate}
use Rattle.std.proofs.lemmas.Option.{none-some, same_Some}
use Rattle.series_core.specs.declared.pair.Pair.{Pair}
use Rattle.leaf_queues.specs.PlainQueue.{empty_queue}
use Rattle.std.specs.Prelude.{replicate, slice_get}
use Rattle.subtree_build.specs.Index.{IndexParts}
use Rattle.search_machine.specs.declared.phase.Phase.TheVariants.{Claim, Done}
use Rattle.search_machine.specs.Ground.{Ground, opening, start_limit}
use Rattle.search_machine.specs.Machine.{capacity_of, empty_queues, opened}
use Rattle.search_machine.specs.Workers.{Worker, idle, leader, start_list}
use Rattle.search_task.specs.Questions.{Question, search_over}
use Rattle.query_core.specs.Teams.{AreAlone, AreDoneTo, AreHired, StandsAt, TeamParts}
use Rattle.query_core.specs.Working.{IsOf, Shows, Working, opens_as}
use Rattle.search_machine.proofs.Places.{get_replicate}
use Rattle.search_task.proofs.Openings.{opening_same}

module _ {X : Type 0} where
  -- what a place of a longer list holds: what it held, or at the end what was added
  pub get_push : (xs : List X) (v : X) (i : ℕ) (x : X) → slice_get (xs ++ v ∷ []) i ≡ Some x
      → (slice_get xs i ≡ Some x) ⊎ ((i ≡ length xs) × (v ≡ x))
  get_push [] v zero x e = inr (refl, same_Some v x e)
  get_push [] v (suc i) x e = absurd (none-some x e)
  get_push (y ∷ ys) v zero x e = inl e
  get_push (y ∷ ys) v (suc i) x e = ⊎_elim
      (λ (h : slice_get ys i ≡ Some x). inl h)
      (λ (h : (i ≡ length ys) × (v ≡ x)). inr (ap suc h.0, h.1))
      (get_push ys v i x e)

-- one more worker is hired
pub hired_more : (a : Question) (ix : IndexParts) (m : ℕ) (ws : List Working) (v : Working) (n : ℕ)
    → AreHired a ix m ws → length ws ≡ n → IsOf a ix m n v
    → Shows v (opens_as (search_over a ix 1 m) n) → AreHired a ix m (ws ++ v ∷ [])
hired_more a ix m ws v n hired many of shows = record {
  places = λ i w e. ⊎_elim
      (λ (h : slice_get ws i ≡ Some w). hired.places i w h)
      (λ (h : (i ≡ length ws) × (v ≡ w)).
      subst (IsOf a ix m i) h.1 (subst (λ (j : ℕ). IsOf a ix m j v) (sym (h.0 ∙ many)) of))
      (get_push ws v i w e);
  opens = λ i w e. ⊎_elim
      (λ (h : slice_get ws i ≡ Some w). hired.opens i w h)
      (λ (h : (i ≡ length ws) × (v ≡ w)).
      subst (λ (z : Working). Shows z (opens_as (search_over a ix 1 m) i)) h.1
      (subst (λ (j : ℕ). Shows v (opens_as (search_over a ix 1 m) j)) (sym (h.0 ∙ many)) shows))
      (get_push ws v i w e);
}

-- one more worker shares nothing
pub alone_more : (ws : List Working) (v : Working) → AreAlone ws → v.shares ≡ false → AreAlone (ws ++ v ∷ [])
alone_more ws v alone none i w e = ⊎_elim
    (λ (h : slice_get ws i ≡ Some w). alone i w h)
    (λ (h : (i ≡ length ws) × (v ≡ w)). ap (λ (z : Working). z.shares) (sym h.1) ∙ none)
    (get_push ws v i w e)

-- one more worker is done
pub done_more : (ws : List Working) (n : ℕ) (w : Working) → AreDoneTo ws n
    → slice_get ws n ≡ Some w → w.phase ≡ Done → AreDoneTo ws (n + 1)
done_more ws n w done at here i v low e = ⊎_elim
    (λ (same : i ≡ n).
    let f : Some w ≡ Some v = sym at ∙ sym (ap (slice_get ws) same) ∙ e in
    subst (λ (z : Working). z.phase ≡ Done) (same_Some w v f) here)
    (λ (other : i ≡ n → ⊥). done i v (omega arith) e)
    (cases_eq i n)

-- The opening does not hang on how many workers and queues there are.
module _ (a : Question) (ix : IndexParts) where
  -- each worker opens the same
  pub opens_same : (n m v q i : ℕ) → opens_as (search_over a ix n m) i ≡ opens_as (search_over a ix v q) i
  opens_same n m v q zero =
      let lead : List Pair → Worker = λ ps. record {
        phase = Claim;
        rest = [];
        list = ps;
        scanned = start_list (search_over a ix n m).start;
      } in
      let e : lead (opening (search_over a ix n m)) ≡ lead (opening (search_over a ix v q)) =
      ap lead (opening_same a ix n m v q) in
      e
  opens_same n m v q (suc i) = refl

  -- a queue has the same room
  room_same : (n m v c l : ℕ) → capacity_of (search_over a ix n m) c l ≡ capacity_of (search_over a ix v m) c l
  room_same n m v c zero = refl
  room_same n m v c (suc l) = let r = room_same n m v c l in cc

  -- the queues are the same
  pub queues_same : (n m v c k : ℕ)
      → empty_queues (search_over a ix n m) c k ≡ empty_queues (search_over a ix v m) c k
  queues_same n m v c zero = refl
  queues_same n m v c (suc k) =
      let r = queues_same n m v (suc c) k in
      let e : empty_queue (capacity_of (search_over a ix n m) c (length ix.leaves))
      ≡ empty_queue (capacity_of (search_over a ix v m) c (length ix.leaves)) =
      ap empty_queue (room_same n m v c (length ix.leaves)) in
      cc

-- what stands at a place of the opening workers
opened_at : (g : Ground) (n i : ℕ) (m : Worker)
    → slice_get (leader g ∷ replicate n idle) i ≡ Some m → opens_as g i ≡ m
opened_at g n zero m e = same_Some (leader g) m e
opened_at g n (suc i) m e = get_replicate n idle i m e

-- a team of hired workers stands for the opening state
pub team_opens : (t : TeamParts) (n : ℕ) → length t.workers ≡ n → 1 ≤ n
    → AreHired t.question t.index t.queues t.workers
    → t.hand.word ≡ start_limit (search_over t.question t.index n t.queues) → t.hand.claimed ≡ 0
    → t.hand.queues ≡ empty_queues (search_over t.question t.index n t.queues) 0 t.queues
    → StandsAt t (opened (search_over t.question t.index n t.queues))
team_opens t n many some hired word claimed lines = record {
  word = word;
  claimed = claimed;
  lines = lines;
  count = let r = length-replicate (n - 1) idle in omega arith;
  shows = λ i w m at there.
      subst (λ (z : Worker). Shows w z)
      (opens_same t.question t.index 1 t.queues n t.queues i
      ∙ opened_at (search_over t.question t.index n t.queues) (n - 1) i m there)
      (hired.opens i w at);
}
