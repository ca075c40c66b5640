-- Queues that the entries of marked leaves were put into: one entry more (`all_more`), and what waits in them in the end
-- (`is_filled`).
use Rattle.std.proofs.Common.{◌≡◌, ℕ, zero, suc, ◌+◌, ◌≤◌, ◌%◌, ◌==◌, List, [], ◌∷◌, ◌++◌, Some, Bool, true, cond, filter, length, map, refl, set, sym, ap, ◌∙◌, subst, inl, inr, ⊎_elim, arith}
use Rattle.std.specs.Prelude.{slice_get}
use Rattle.std.proofs.lemmas.Bool.{cases_eq, cond_both, eq-eqb, eqb-true, ne_eqb, true≢false}
use Rattle.std.proofs.lemmas.List.{append-nil, map-append}
use Rattle.std.proofs.lemmas.List.Elements.{filter-append}
use Rattle.std.proofs.lemmas.Option.{none-some, same_Some, slice_get_within}
use Rattle.list_totals.specs.Totals.{one_if_same, total}
use Rattle.list_totals.specs.Standing.{In}
use Rattle.list_totals.proofs.Totals.{once_below_most, total_map}
use Rattle.series_core.specs.declared.queue_words.Entry.{Entry}
use Rattle.turn_lock.specs.declared.object.Entry.{Entry as Made}
use Rattle.turn_lock.specs.History.{entry}
use Rattle.leaf_queues.specs.declared.calls.Call.{Call}
use Rattle.leaf_queues.specs.declared.calls.Call.TheVariants.{Put}
use Rattle.leaf_queues.specs.declared.calls.Reply.{Reply}
use Rattle.leaf_queues.specs.declared.calls.Reply.TheVariants.{Put as PutAnswer}
use Rattle.leaf_queues.specs.PlainQueue.{PlainQueue, put}
use Rattle.subtree_build.specs.Index.{IndexParts}
use Rattle.search_machine.specs.Basics.{entered}
use Rattle.search_machine.specs.Ground.{Ground}
use Rattle.search_machine.specs.Machine.{capacity_of, empty_queues}
use Rattle.search_machine.proofs.Ending.{entered_some}
use Rattle.search_machine.proofs.Places.{get_set_other}
use Rattle.queue_histories.specs.Histories.{ArePuts, History, Holds, Leads, Past, PlacedIn, Shaped, placed_at, places_leaf}
use Rattle.queue_histories.specs.Rooms.{AllPlaced, ArePutsInto, opened_for, puts_at, puts_leaf}
use Rattle.queue_histories.proofs.Joins.{leads_joined, past_of, shaped_empty}
use Rattle.queue_histories.proofs.Rooms.{different_placed}
use Rattle.search_task.specs.Questions.{Question, search_over, view_in}
use Rattle.live_query.specs.FilledQueues.{IsFilled, IsFilledBy, those_of}
use Rattle.live_query.specs.Marked.{IsMarkedEntry}
use Rattle.live_query.specs.Parts.{AreEntriesOf, Resting, marks_of}
use Rattle.live_query.proofs.FillTies.{get_here}
use Rattle.live_query.proofs.Marks.{entry_same}
use Rattle.live_query.proofs.RunQueues.{entered_in, in_filter}

-- the queues that open empty, by their places
pub empty_at : (g : Ground) (m n j : ℕ) (q : PlainQueue) → slice_get (empty_queues g m n) j ≡ Some q → q ≡ opened_for g (m + j)
empty_at g m zero j q e = absurd (none-some q e)
empty_at g m (suc n) zero q e =
    sym (same_Some (opened_for g m) q e) ∙ ap (opened_for g) (let s : m ≡ m + 0 = omega arith in s)
empty_at g m (suc n) (suc j) q e =
    empty_at g (suc m) n j q e ∙ ap (opened_for g) (let s : suc m + j ≡ m + suc j = omega arith in s)

module _ (n j : ℕ) (es : List Entry) (e : Entry) (q r s : PlainQueue) (f : IsFilledBy n j es q r) where
  -- the entry belongs to the queue, and is put into it
  pub filled_here : e.leaf % n ≡ j → s ≡ (put e r).0 → IsFilledBy n j (es ++ e ∷ []) q s
  filled_here here is =
      let made : Made Call Reply = entry 0 (Put e) (PutAnswer (put e r).1) in
      let one : Leads r (made ∷ []) s = record { legal = (refl, tt); leads = is } in
      record {
        log = f.log ++ made ∷ [];
        leads = leads_joined q r s f.log (made ∷ []) f.leads one;
        puts = map-append (λ (x : Made Call Reply). x.call) f.log (made ∷ [])
            ∙ ap (λ (l : List Call). l ++ Put e ∷ []) f.puts
            ∙ sym (map-append Put (those_of n j es) (e ∷ []))
            ∙ ap (λ (l : List Entry). map Put (those_of n j es ++ l))
            (sym (ap (λ (b : Bool). cond b (e ∷ []) []) (eq-eqb (e.leaf % n) j here)))
            ∙ ap (map Put) (sym (filter-append (λ (e : Entry). e.leaf % n == j) es (e ∷ [])));
      }

  -- it belongs to another
  pub filled_there : (e.leaf % n ≡ j → ⊥) → s ≡ r → IsFilledBy n j (es ++ e ∷ []) q s
  filled_there ne is = record {
    log = f.log;
    leads = subst (Leads q f.log) (sym is) f.leads;
    puts = f.puts
        ∙ ap (map Put) (sym (append-nil (those_of n j es)))
        ∙ ap (λ (l : List Entry). map Put (those_of n j es ++ l))
        (sym (ap (λ (b : Bool). cond b (e ∷ []) []) (ne_eqb (e.leaf % n) j ne)))
        ∙ ap (map Put) (sym (filter-append (λ (e : Entry). e.leaf % n == j) es (e ∷ [])));
  }

-- each queue of n was filled by these entries
abbrev pub AllBy : ℕ → List Entry → List PlainQueue → List PlainQueue → Type 0
AllBy n es old now =
    (j : ℕ) (q r : PlainQueue) → slice_get old j ≡ Some q → slice_get now j ≡ Some r → IsFilledBy n j es q r

-- and by one entry more, which is put into the queue of its leaf
pub all_more : (n : ℕ) (es : List Entry) (e : Entry) (old now : List PlainQueue) (at : ℕ) (before after : PlainQueue)
    → at ≡ e.leaf % n → slice_get now at ≡ Some before → after ≡ (put e before).0
    → AllBy n es old now → AllBy n (es ++ e ∷ []) old (set now at after)
all_more n es e old now at before after is at_before put_is all j q r at_q at_r = ⊎_elim
    (λ (same : j ≡ at).
    let low = slice_get_within now at before at_before in
    let there : slice_get now j ≡ Some before = ap (slice_get now) same ∙ at_before in
    let here : after ≡ r
    = same_Some after r (sym (get_here now at after low) ∙ ap (slice_get (set now at after)) (sym same) ∙ at_r) in
    filled_here n j es e q before r (all j q before at_q there) (sym is ∙ sym same) (sym here ∙ put_is))
    (λ (ne : j ≡ at → ⊥).
    let there : slice_get now j ≡ Some r = sym (get_set_other now at j after ne) ∙ at_r in
    filled_there n j es e q r r (all j q r at_q there) (λ h. ne (sym h ∙ sym is)) refl)
    (cases_eq j at)

-- a call whose puts are these is one of an entry of them
from_puts : (log : History) (es : List Entry) → map (λ (x : Made Call Reply). x.call) log ≡ map Put es → (x : Made Call Reply) → In x log
    → (e : Entry) × In e es × (x.call ≡ Put e)
from_puts [] es same x i = absurd i
from_puts (y ∷ log) [] same x i = let e = ap length same in absurd (omega (arith, e))
from_puts (y ∷ log) (e ∷ es) same x i =
    let first : y.call ≡ Put e = cc in
    let rest : map (λ (x : Made Call Reply). x.call) log ≡ map Put es = cc in
    ⊎_elim
    (λ (here : x ≡ y). (e, inl refl, ap (λ (z : Made Call Reply). z.call) here ∙ first))
    (λ (later : In x log). let r = from_puts log es rest x later in (r.0, inr r.1, r.2))
    i

-- where each is a put that was placed, leaves are placed as often as they are put
placed_counts : (l : ℕ) (log : History) → ArePuts log → AllPlaced log → total (placed_at l) log ≡ total (puts_at l) log
placed_counts l [] puts placed = refl
placed_counts l (x ∷ log) puts placed =
    let first = puts x (inl refl) in
    let rest = placed_counts l log (λ y t. puts y (inr t)) (λ y t. placed y (inr t)) in
    let a : places_leaf l x.call x.reply ≡ one_if_same l first.0.leaf
    = ap (λ (c : Call). places_leaf l c x.reply) first.1 ∙ ap (places_leaf l (Put first.0)) (placed x (inl refl)) in
    let b : puts_leaf l x.call ≡ one_if_same l first.0.leaf = ap (puts_leaf l) first.1 in
    omega (arith, a, b, rest)

-- of some entries a leaf has no more than of all
some_entered : (p : Entry → Bool) (l : ℕ) (es : List Entry) → entered l (filter p es) ≤ entered l es
some_entered p l [] = omega arith
some_entered p l (e ∷ es) =
    let rest = some_entered p l es in
    cond_both (p e) (e ∷ filter p es) (filter p es) (λ ds. entered l ds ≤ one_if_same l e.leaf + entered l es)
    (λ _. omega (arith, rest)) (λ _. omega (arith, rest))

-- an entry that is not left out is one of those that are left
in_those : (p : Entry → Bool) (es : List Entry) (e : Entry) → In e es → p e ≡ true → In e (filter p es)
in_those p [] e i passes = absurd i
in_those p (d ∷ es) e i passes = cond_both (p d) (d ∷ filter p es) (filter p es) (In e)
    (λ _. ⊎_elim (λ (here : e ≡ d). inl here) (λ (later : In e es). inr (in_those p es e later passes)) i)
    (λ no. ⊎_elim
    (λ (here : e ≡ d). absurd (true≢false (sym passes ∙ ap p here ∙ no)))
    (λ (later : In e es). in_those p es e later passes) i)

module _ (a : Question) (ix : IndexParts) (team : List Resting) (m j : ℕ) (es : List Entry) (r : PlainQueue)
    (are : AreEntriesOf a ix team es) (f : IsFilledBy m j es (opened_for (search_over a ix 1 m) j) r) where
  abbrev g : Ground
  g = search_over a ix 1 m

  abbrev ours : List Entry
  ours = those_of m j es

  abbrev Wanted : Entry → Type 0
  Wanted e = IsMarkedEntry (view_in a) ix (marks_of team) (length ix.leaves) e × (e.leaf % m ≡ j)

  -- what is left of the entries
  wanted : (e : Entry) → In e ours → Wanted e
  wanted e i =
      let r = in_filter (λ (e : Entry). e.leaf % m == j) es e i in
      ((are.exactly e).0 r.0, eqb-true (e.leaf % m) j r.1)

  one_of_ours : (e : Entry) → Wanted e → In e ours
  one_of_ours e w =
      in_those (λ (e : Entry). e.leaf % m == j) es e ((are.exactly e).1 w.0) (eq-eqb (e.leaf % m) j w.1)

  past : Past (opened_for g j) r f.log
  past = past_of (opened_for g j) r f.log f.leads

  shaped : Shaped r
  shaped = past.shaped (shaped_empty (capacity_of g j g.leaves))

  puts : ArePuts f.log
  puts x i = let p = from_puts f.log ours f.puts x i in (p.0, p.2)

  -- each leaf is put as often as it is one of ours, which is once at most
  put_counts : (l : ℕ) → total (puts_at l) f.log ≡ entered l ours
  put_counts l =
      sym (total_map (puts_leaf l) (λ (x : Made Call Reply). x.call) f.log)
      ∙ ap (total (puts_leaf l)) f.puts
      ∙ total_map (puts_leaf l) Put ours

  ours_once : (l : ℕ) → entered l ours ≤ 1
  ours_once l =
      omega (arith, some_entered (λ (e : Entry). e.leaf % m == j) l es, are.once l, once_below_most l (length ix.leaves))

  into : ArePutsInto g j f.log
  into x i =
      let p = from_puts f.log ours f.puts x i in
      let w = wanted p.0 p.1 in
      (p.0, p.2, record { real = w.0.real; queue = w.1 })

  -- so each put is placed
  placed : AllPlaced f.log
  placed = different_placed g j (opened_for g j) f.log (record {
    unshut = refl;
    placed = refl;
    capacity = refl;
    own = λ d h. absurd (⊎_elim (λ (w : ⊥). w) (λ (t : ⊥). t) h);
  }) into (λ l. omega (arith, put_counts l, ours_once l)) f.leads.legal

  nothing_taken : r.taken ≡ []
  nothing_taken = (past.fills puts).0

  -- and each of ours waits as often as it is one
  waiting_counts : (l : ℕ) → entered l r.waiting ≡ entered l ours
  waiting_counts l =
      omega (arith, past.holds l, placed_counts l f.log puts placed, put_counts l, ap (entered l) nothing_taken)

  waits_wanted : (e : Entry) → In e r.waiting → Wanted e
  waits_wanted e i = ⊎_elim
      (λ (old : Holds (opened_for g j) e). absurd (⊎_elim (λ (w : ⊥). w) (λ (t : ⊥). t) old))
      (λ (made : PlacedIn f.log e).
      let p = from_puts f.log ours f.puts made.0 made.1 in
      let told : Put p.0 ≡ Put e = sym p.2 ∙ made.2 in
      let same : p.0 ≡ e = cc in
      subst Wanted same (wanted p.0 p.1))
      (past.came e (inl i))

  wanted_waits : (e : Entry) → Wanted e → In e r.waiting
  wanted_waits e w =
      let some = entered_in e ours (one_of_ours e w) in
      let d = entered_some e.leaf r.waiting (omega (arith, some, waiting_counts e.leaf)) in
      let v = waits_wanted d.0 d.1 in
      let bound : d.0.bound ≡ e.bound = v.0.bound ∙ ap g.bound (sym d.2) ∙ sym w.0.bound in
      subst (λ (d : Entry). In d r.waiting) (entry_same d.0 e bound (sym d.2)) d.1

  pub is_filled : IsFilled a ix team m j r
  is_filled = record {
    exactly = λ e. (waits_wanted e, wanted_waits e);
    once = λ l. omega (arith, waiting_counts l, ours_once l);
    ordered = shaped.ordered;
    placed = omega (arith, shaped.placed, ap length nothing_taken);
    taken = nothing_taken;
    kept = (past.fills puts).1;
    capacity = past.capacity;
  }
