-- What the fill part left says of all records behind it, which have the same claims and puts: each root child was claimed once (`once`), no
-- put was refused (`placed_all`), and a list of the marked leaves of a queue has each leaf as often as puts placed it there (`placed_as`).
use Rattle.std.proofs.Common.{◌≡◌, ℕ, ◌<◌, ◌≤◌, ◌%◌, ◌↔◌, List, None, Some, All, Bool, false, length, eqb, sym, refl, ap, ◌∙◌, subst, ⊎_elim, arith}
use Rattle.std.specs.Prelude.{not, slice_get, ◌&&◌}
use Rattle.std.proofs.lemmas.Bool.{and_from, cases_lt, cond-true, eq-eqb}
use Rattle.std.proofs.lemmas.Option.{same_Some, slice_get_within}
use Rattle.list_totals.specs.Totals.{one_if_same, total}
use Rattle.list_totals.specs.Standing.{In}
use Rattle.list_totals.proofs.Standing.{in_total, total_in}
use Rattle.best_word.specs.Passes.{Best}
use Rattle.series_core.specs.declared.queue_words.Entry.{Entry}
use Rattle.subtree_build.specs.Index.{IndexParts}
use Rattle.search_machine.specs.Basics.{entered}
use Rattle.search_machine.specs.Closes.{AllStand, CameBy, CameByPut, ClaimedOnce, claimed_by, placed_by, placed_of}
use Rattle.search_machine.specs.Ground.{Fits, Ground, entry_of, queue_of}
use Rattle.search_machine.specs.OwnRecord.{OwnRecord, PutMade, RecordedWorker, claims_of, is_refused}
use Rattle.search_machine.proofs.CallCounts.{placed_is}
use Rattle.search_machine.proofs.Counts.{same_counts}
use Rattle.search_machine.proofs.Ending.{entered_some}
use Rattle.search_machine.proofs.OwnLate.{below_real}
use Rattle.search_machine.proofs.Places.{get_map, get_some, total_at, total_some}
use Rattle.search_machine.proofs.PutsOnce.{placed_put, puts_once}
use Rattle.search_task.specs.Questions.{Question, search_over, view_in}
use Rattle.live_query.specs.Marked.{IsMarked, IsMarkedEntry}
use Rattle.live_query.specs.Parts.{AllFilled, HasFilled, Resting, marks_of}
use Rattle.live_query.specs.Resting.{Kept}
use Rattle.live_query.proofs.Marks.{entry_same}
use Rattle.live_query.proofs.Places.{all_from, map_at, totals_same}
use Rattle.live_query.proofs.RunQueues.{entered_in}

-- a call that came by some worker may be named by whatever else holds of it
came_too : {X : Type 0} {team : List RecordedWorker} {list : OwnRecord → List X} {P Q : X → Type 0} (c : CameBy team list P)
    → Q c.made → CameBy team list Q
came_too c also = record { place = c.place; member = c.member; at = c.at; made = c.made; has = c.has; such = also }

-- the record of a searcher that has filled
pub has_at : {a : Question} {ix : IndexParts} {m : ℕ} {best : Best} {team : List Resting} (filled : AllFilled a ix m best team)
    (i : ℕ) (c : Resting) → slice_get team i ≡ Some c
    → (x : RecordedWorker) × (slice_get filled.records i ≡ Some x) × HasFilled a ix m best i c x
has_at {team = team} filled i c at =
    let low : i < length filled.records = let b = slice_get_within team i c at in let e = filled.count in omega arith in
    let x = get_some filled.records i low in
    (x.0, x.1, filled.each i c x.0 at x.1)

module _ {a : Question} {ix : IndexParts} {m : ℕ} {best : Best} {team : List Resting} (filled : AllFilled a ix m best team) where
  abbrev Of : Resting → Type 0
  Of c = (c.worker.question ≡ a) × (c.worker.index ≡ ix)

  -- each searcher is of this search, also as the list is lent
  pub filled_over : All Of team
  filled_over = all_from Of team (λ i c at. let has = has_at filled i c at in (has.2.place.question, has.2.place.index))

  pub filled_over_view : {lent : List Resting} → lent ≡ team → All Of lent
  filled_over_view is = subst (All Of) (sym is) filled_over

  -- and each has the one bound word
  pub filled_word : All (λ (c : Resting). c.hand.seen.best ≡ best) team
  filled_word = all_from (λ (c : Resting). c.hand.seen.best ≡ best) team (λ i c at. (has_at filled i c at).2.word)

-- searcher i after the fill part, with the record of its calls
pub record HasRecord {a : Question} {ix : IndexParts} {m : ℕ} {best : Best} {team : List Resting} (filled : AllFilled a ix m best team)
    (i : ℕ) : Type 0 where
  pub from : Resting
  pub record_of : RecordedWorker
  pub at : slice_get team i ≡ Some from
  pub at_record : slice_get filled.records i ≡ Some record_of
  pub has : HasFilled a ix m best i from record_of

-- a record behind that of searcher i after the fill part: it has the same claims and puts
pub record IsBehind {a : Question} {ix : IndexParts} {m : ℕ} {best : Best} {team : List Resting} (filled : AllFilled a ix m best team)
    (i : ℕ) (y : RecordedWorker) : Type 0 where
  pub was : HasRecord filled i
  pub claims : y.own.claims ≡ was.record_of.own.claims
  pub puts : y.own.puts ≡ was.record_of.own.puts

-- the records of all searchers, each behind its own, in a search by n workers
pub record AreBehind {a : Question} {ix : IndexParts} {m : ℕ} {best : Best} {team : List Resting} (filled : AllFilled a ix m best team)
    (n : ℕ) (ys : List RecordedWorker) : Type 0 where
  pub fits : Fits (search_over a ix n m)
  pub count : length ys ≡ length team
  pub each : (i : ℕ) (y : RecordedWorker) → slice_get ys i ≡ Some y → IsBehind filled i y
  pub stands : AllStand (search_over a ix n m) ys

module _ {a : Question} {ix : IndexParts} {m : ℕ} {best : Best} {team : List Resting} {filled : AllFilled a ix m best team}
    {n : ℕ} {ys : List RecordedWorker} (behind : AreBehind filled n ys) where
  abbrev g : Ground
  g = search_over a ix n m

  pub same_claims : (c : ℕ) → total (claimed_by c) ys ≡ total (claimed_by c) filled.records
  same_claims c =
      totals_same (claimed_by c) (claimed_by c) ys filled.records (behind.count ∙ sym filled.count)
      (λ i y x at_y at_x.
      let e = behind.each i y at_y in
      let same = same_Some e.was.record_of x (sym e.was.at_record ∙ at_x) in
      ap (λ os. total (claims_of c) os) e.claims ∙ ap (claimed_by c) same)

  pub once : ClaimedOnce ys
  once c = let e = same_claims c in let b = filled.once c in omega arith

  pub all_claimed : (i : ℕ) (y : RecordedWorker) (c : ℕ) → slice_get ys i ≡ Some y → In None y.own.claims → c < length ix.nodes
      → 0 < total (claimed_by c) ys
  all_claimed i y c at ended low =
      let e = behind.each i y at in
      let s = same_claims c in
      let x = filled.all_claimed i e.was.record_of c e.was.at_record (subst (λ os. In None os) e.claims ended) low in
      omega arith

  pub placed_all : (i : ℕ) (y : RecordedWorker) (p : PutMade) → slice_get ys i ≡ Some y → In p y.own.puts
      → is_refused p.reply ≡ false
  placed_all i y p at put =
      let e = behind.each i y at in
      e.was.has.tied.marks.placed p (subst (λ ps. In p ps) e.puts put)

  -- a marked leaf was put, and a leaf that was put is marked
  abbrev PutBy : ℕ → Type 0
  PutBy l = CameBy ys (λ r. r.puts) (λ (p : PutMade). p.entry.leaf ≡ l)

  marked_put : (l : ℕ) → IsMarked (marks_of team) l → PutBy l
  marked_put l marked =
      let c = get_map (λ (c : Resting). c.hand.marks) team marked.0 marked.1 marked.2 in
      let low = slice_get_within team marked.0 c.0 c.1 in
      let y = get_some ys marked.0 (let b = behind.count in omega arith) in
      let e = behind.each marked.0 y.0 y.1 in
      let same = same_Some e.was.from c.0 (sym e.was.at ∙ c.1) in
      let marks : marked.1 ≡ e.was.has.hand.marks
      = sym c.2 ∙ ap (λ (c : Resting). c.hand.marks) (sym same) ∙ ap (λ (k : Kept). k.marks) e.was.has.rests in
      let w = e.was.has.tied.marks.marked l (ap (λ (ms : List Bool). slice_get ms l) (sym marks) ∙ marked.3) in
      record {
        place = marked.0;
        member = y.0;
        at = y.1;
        made = w.0;
        has = subst (λ ps. In w.0 ps) (sym e.puts) w.1;
        such = w.2;
      }

  put_marked : (i : ℕ) (y : RecordedWorker) (p : PutMade) → slice_get ys i ≡ Some y → In p y.own.puts
      → IsMarked (marks_of team) p.entry.leaf
  put_marked i y p at put =
      let e = behind.each i y at in
      let old = subst (λ ps. In p ps) e.puts put in
      let marked = e.was.has.tied.marks.put p.entry.leaf (p, old, refl) in (
        i,
        e.was.from.hand.marks,
        map_at (λ (c : Resting). c.hand.marks) team i e.was.from e.was.at,
        ap (λ (k : Kept). slice_get k.marks p.entry.leaf) e.was.has.rests ∙ marked,
      )

  -- a list of exactly the marked leaves of queue j
  module _ (j : ℕ) (es : List Entry)
      (exactly : (e : Entry) → In e es ↔ (IsMarkedEntry (view_in a) ix (marks_of team) (length ix.leaves) e × (e.leaf % m ≡ j))) where
    pub bound_right : (e : Entry) → In e es → e.bound ≡ g.bound e.leaf
    bound_right e i = ((exactly e).0 i).0.bound

    pub came : (e : Entry) → In e es → CameByPut ys j e
    came e i =
        let r = (exactly e).0 i in
        let p = marked_put e.leaf r.0.marked in
        let right = (behind.stands p.place p.member p.at).puts p.made p.has in
        came_too p (
          right.queue ∙ ap (queue_of g) p.such ∙ r.1,
          right.entry ∙ ap (entry_of g) p.such ∙ entry_same (entry_of g e.leaf) e (sym r.0.bound) refl,
        )

    -- where the leaf is of the list, its put placed it here
    placed_here : (l : ℕ) → 0 < entered l es → 0 < total (placed_by j l) ys
    placed_here l inside =
        let f = entered_some l es inside in
        let r = (exactly f.0).0 f.1 in
        let p = marked_put f.0.leaf r.0.marked in
        let right = (behind.stands p.place p.member p.at).puts p.made p.has in
        let at_queue : p.made.queue ≡ j = right.queue ∙ ap (queue_of g) p.such ∙ r.1 in
        let leaf : p.made.entry.leaf ≡ l = p.such ∙ sym f.2 in
        let counted = cond-true (eqb p.made.queue j && not (is_refused p.made.reply)) (one_if_same l p.made.entry.leaf) 0
        (and_from (eqb p.made.queue j) (not (is_refused p.made.reply)) (eq-eqb p.made.queue j at_queue)
        (ap not (placed_all p.place p.member p.made p.at p.has))) in
        let one = ap (one_if_same l) leaf ∙ same_counts l in
        let x = in_total (placed_of j l) p.made p.member.own.puts p.has in
        let y = total_at (placed_by j l) ys p.place p.member p.at in
        omega arith

    -- and a leaf that was placed here is of the list
    placed_inside : (l : ℕ) → 0 < total (placed_by j l) ys → 0 < entered l es
    placed_inside l placed =
        let y = total_some (placed_by j l) ys placed in
        let p = total_in (placed_of j l) y.1.own.puts y.3 in
        let which = placed_is j l p.0 p.2 in
        let right = (behind.stands y.0 y.1 y.2).puts p.0 p.1 in
        let real = below_real g behind.fits y.1.own p.0.entry.leaf right.below in
        let inside = (exactly (entry_of g p.0.entry.leaf)).1 (
          record { real = real; bound = refl; marked = put_marked y.0 y.1 p.0 y.2 p.1 },
          sym right.queue ∙ which.0,
        ) in
        subst (λ k. 0 < entered k es) (sym which.1)
        (entered_in (entry_of g p.0.entry.leaf) es inside)

    -- so where it has each leaf once at most, it has a leaf as often as puts placed it here
    pub placed_as : ((l : ℕ) → entered l es ≤ 1) → (l : ℕ) → entered l es ≡ total (placed_by j l) ys
    placed_as most l =
        let at_most = most l in
        let a = placed_put g behind.fits ys behind.stands once j l in
        let b = puts_once g behind.fits ys behind.stands once l in
        ⊎_elim
        (λ (inside : 0 < entered l es). let p = placed_here l inside in omega arith)
        (λ (outside : entered l es ≤ 0). ⊎_elim
        (λ (p : 0 < total (placed_by j l) ys). let inside = placed_inside l p in absurd (omega arith))
        (λ (p : total (placed_by j l) ys ≤ 0). omega arith)
        (cases_lt 0 (total (placed_by j l) ys)))
        (cases_lt 0 (entered l es))
