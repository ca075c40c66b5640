-- What a call and its reply did to the hand in the fill part, the longer record says too.
use Rattle.std.proofs.Common.{◌≡◌, ℕ, zero, suc, ◌<◌, ◌≤◌, List, [], ◌∷◌, Option, Some, true, length, set, sym, refl, ap, ◌∙◌, subst, inl, inr, ⊎_elim, arith}
use Rattle.std.specs.Prelude.{slice_get, slice_set}
use Rattle.std.proofs.Math.Nat.{mod-lt}
use Rattle.std.proofs.lemmas.Bool.{cases_eq, true≢false}
use Rattle.series_core.specs.declared.queue_words.PutReply.TheVariants.{Placed, Filled}
use Rattle.search_machine.specs.declared.calls.Reply.{Reply}
use Rattle.search_machine.specs.declared.calls.Reply.TheVariants.{Claimed, Seen, Offered, PutTold}
use Rattle.search_machine.specs.declared.phase.Phase.{Phase}
use Rattle.search_machine.specs.declared.phase.Phase.TheVariants.{Claim, Look, Give, Late, Aim, Pop, Offer, Done}
use Rattle.search_machine.specs.declared.phase.Onward.TheVariants.{Look as ToLook, Aim as ToAim}
use Rattle.list_totals.specs.Standing.{In}
use Rattle.best_word.specs.Passes.{Pass}
use Rattle.best_word.specs.declared.rule.Event.{Event}
use Rattle.best_word.specs.declared.rule.Event.TheVariants.{Offer as Offering, Read as Reading}
use Rattle.search_machine.specs.Ground.{Fits, Ground, entry_of, queue_of, worst}
use Rattle.search_machine.specs.Workers.{Worker, fills}
use Rattle.search_machine.specs.Sound.{in_hand}
use Rattle.search_machine.specs.OwnRecord.{OwnRecord, OfferMade, PutMade, is_refused, with_claim, with_read, with_offer, with_put}
use Rattle.search_machine.specs.Calls.{call_in}
use Rattle.search_machine.specs.Replies.{own_after}
use Rattle.search_machine.specs.Stands.{Stands}
use Rattle.search_machine.proofs.Counts.{same_counts}
use Rattle.search_machine.proofs.OwnLate.{below_real}
use Rattle.search_machine.proofs.Places.{get_set, get_set_other}
use Rattle.query_core.specs.Turning.{Lowers, ReplyNotLow}
use Rattle.live_query.specs.RootClaims.{DidClaim, Drawn}
use Rattle.live_query.specs.FillHands.{FillKept, FillDid, FillTied, HasPut}
use Rattle.live_query.specs.WordPasses.{Grew}
use Rattle.live_query.proofs.RootTies.{drawn_ties}
use Rattle.live_query.proofs.WordTies.{offer_tied, other_tied, read_tied, went_by}

-- a leaf that is given is below n
abbrev pub IsReal : ℕ → Phase → Type 0
IsReal n (Give l) = l < n
IsReal n _ = Unit {0}

pub get_here : {X : Type 0} (xs : List X) (i : ℕ) (y : X) → i < length xs → slice_get (set xs i y) i ≡ Some y
get_here [] i y low = absurd (omega arith)
get_here (x ∷ xs) zero y low = refl
get_here (x ∷ xs) (suc i) y low = get_here xs i y (omega arith)

-- a hand that is seen as another one, whose pass made one more call
pub fill_grew : (h k : FillKept) (e : Event) (p : Pass) → h ≡ k → Grew h.seen e p
    → Grew k.seen e p × (record h { seen = p } ≡ record k { seen = p })
fill_grew h k e p same grew =
    (subst (λ (f : FillKept). Grew f.seen e p) same grew, ap (λ (f : FillKept). record f { seen = p }) same)

tied_claim : (h : FillKept) (r : OwnRecord) (o : Option ℕ) (d : Drawn) → 0 < h.roots.size → DidClaim h.roots h.drawn o d → FillTied h r
    → FillTied (record h { drawn = d }) (with_claim o r)
tied_claim h r o d some did t = record {
  drawn = drawn_ties h.roots some h.drawn d r.claims o did t.drawn;
  word = other_tied h.seen r (with_claim o r) refl refl t.word;
  marks = t.marks;
  pops = t.pops;
}

tied_read : (h : FillKept) (r : OwnRecord) (v u : ℕ) (q : Pass) → Grew h.seen (Reading v) q → h.seen.floor ≤ u → u ≤ v → FillTied h r
    → FillTied (record h { seen = q }) (with_read u r)
tied_read h r v u q did low lower t = record {
  drawn = t.drawn;
  word = read_tied h.seen q r v u did low lower t.word;
  marks = t.marks;
  pops = t.pops;
}

tied_offer : (h : FillKept) (r : OwnRecord) (x v : ℕ) (q : Pass) → Grew h.seen (Offering x v) q → FillTied h r
    → FillTied (record h { seen = q }) (with_offer (record { value = x; reply = v }) r)
tied_offer h r x v q did t = record {
  drawn = t.drawn;
  word = offer_tied h.seen q r x v did t.word;
  marks = t.marks;
  pops = t.pops;
}

module _ (h : FillKept) (r : OwnRecord) (p : PutMade) (low : p.entry.leaf < length h.marks) (is_placed : p.reply ≡ Placed) (t : FillTied h r) where
  marked_now : (m : ℕ) → slice_get (set h.marks p.entry.leaf true) m ≡ Some true → HasPut (p ∷ r.puts) m
  marked_now m e = ⊎_elim
      (λ (new : (m ≡ p.entry.leaf) × (true ≡ true)). (p, inl refl, sym new.0))
      (λ (old : slice_get h.marks m ≡ Some true). let w = t.marks.marked m old in (w.0, inr w.1, w.2))
      (get_set h.marks p.entry.leaf m true true e)

  put_now : (m : ℕ) → HasPut (p ∷ r.puts) m → slice_get (set h.marks p.entry.leaf true) m ≡ Some true
  put_now m w = ⊎_elim
      (λ (e : m ≡ p.entry.leaf).
      subst (λ (k : ℕ). slice_get (set h.marks p.entry.leaf true) k ≡ Some true) (sym e) (get_here h.marks p.entry.leaf true low))
      (λ (ne : m ≡ p.entry.leaf → ⊥). ⊎_elim
      (λ (e : w.0 ≡ p). absurd (ne (sym w.2 ∙ ap (λ (q : PutMade). q.entry.leaf) e)))
      (λ (i : In w.0 r.puts). get_set_other h.marks p.entry.leaf m true ne ∙ t.marks.put m (w.0, i, w.2))
      w.1)
      (cases_eq m p.entry.leaf)

  tied_put : FillTied (record h { marks = slice_set h.marks p.entry.leaf true }) (with_put p r)
  tied_put = record {
    drawn = t.drawn;
    word = other_tied h.seen r (with_put p r) refl refl t.word;
    marks = record {
      placed = λ q i. ⊎_elim
          (λ (e : q ≡ p). ap (λ (q : PutMade). is_refused q.reply) e ∙ ap is_refused is_placed)
          (t.marks.placed q) i;
      marked = marked_now;
      put = put_now;
    };
    pops = t.pops;
  }

-- the hand after a call in the fill part, of which the worker went by the reply or by a lower limit, is tied to the record after it
pub ties : (g : Ground) (i : ℕ) (w : Worker) (r : OwnRecord) (h k : FillKept) (phase : Phase) (reply by : Reply)
    → fills phase ≡ true → IsReal (length h.marks) phase → 0 < g.queues → h.queues ≡ g.queues → 0 < h.roots.size → FillTied h r
    → Lowers reply by → ReplyNotLow h.seen.floor by
    → FillDid h (call_in g i w phase) reply k → FillTied k (own_after g i w r phase by)
ties g i w r h k Claim (Claimed o) by f real some q z t lower low d =
    subst (λ (by : Reply). FillTied k (own_after g i w r Claim by)) (sym lower)
    (subst (λ (k : FillKept). FillTied k (with_claim o r)) (sym d.2) (tied_claim h r o d.0 z d.1 t))
ties g i w r h k Look (Seen v) by f real some q z t lower low d =
    let went = went_by v by lower in
    subst (λ (by : Reply). FillTied k (own_after g i w r Look by)) (sym went.1)
    (subst (λ (k : FillKept). FillTied k (with_read went.0 r)) (sym d.1)
    (tied_read h r v went.0 k.seen d.0 (subst (ReplyNotLow h.seen.floor) went.1 low) went.2 t))
ties g i w r h k (Late l) (Seen v) by f real some q z t lower low d =
    let went = went_by v by lower in
    subst (λ (by : Reply). FillTied k (own_after g i w r (Late l) by)) (sym went.1)
    (subst (λ (k : FillKept). FillTied k (with_read went.0 r)) (sym d.1)
    (tied_read h r v went.0 k.seen d.0 (subst (ReplyNotLow h.seen.floor) went.1 low) went.2 t))
ties g i w r h k (Offer ToLook) (Offered v) by f real some q z t lower low d =
    let made : OfferMade = record { value = worst g w.list; reply = v } in
    subst (λ (by : Reply). FillTied k (own_after g i w r (Offer ToLook) by)) (sym lower)
    (subst (λ (k : FillKept). FillTied k (with_offer made r)) (sym d.1) (tied_offer h r (worst g w.list) v k.seen d.0 t))
ties g i w r h k (Give l) (PutTold Placed) by f real some q z t lower low d =
    let p : PutMade = record { queue = queue_of g l; entry = entry_of g l; reply = Placed } in
    subst (λ (by : Reply). FillTied k (own_after g i w r (Give l) by)) (sym lower)
    (subst (λ (k : FillKept). FillTied k (with_put p r)) (sym d.2) (tied_put h r p d.1 refl t))
ties g i w r h k (Give l) (PutTold (Filled c)) by f real some q z t lower low d =
    let low = mod-lt l some in
    ⊎_elim (λ (out : h.queues ≤ queue_of g l). absurd (omega arith))
    (λ (out : length h.marks ≤ l). absurd (omega arith)) d.1
ties g i w r h k (Offer (ToAim j)) reply by f real some q z t lower low d = absurd (true≢false (sym f))
ties g i w r h k (Aim j) reply by f real some q z t lower low d = absurd (true≢false (sym f))
ties g i w r h k (Pop j v) reply by f real some q z t lower low d = absurd (true≢false (sym f))
ties g i w r h k Done reply by f real some q z t lower low d = absurd (true≢false (sym f))
ties g i w r h k _ _ by f real some q z t lower low d = absurd d

-- a leaf that a worker gives is a leaf
pub gives_real : (g : Ground) → Fits g → (i : ℕ) (w : Worker) (r : OwnRecord) → Stands g i w r → (phase : Phase)
    → w.phase ≡ phase → IsReal g.leaves phase
gives_real g fits i w r s (Give l) e =
    let one : in_hand l w.phase ≡ 1 = ap (in_hand l) e ∙ same_counts l in
    below_real g fits r l (s.held l (omega arith)).1
gives_real g fits i w r s Claim e = tt
gives_real g fits i w r s Look e = tt
gives_real g fits i w r s (Late l) e = tt
gives_real g fits i w r s (Aim j) e = tt
gives_real g fits i w r s (Pop j v) e = tt
gives_real g fits i w r s (Offer next) e = tt
gives_real g fits i w r s Done e = tt

pub set_length : {X : Type 0} (xs : List X) (i : ℕ) (y : X) → length (set xs i y) ≡ length xs
set_length [] i y = refl
set_length (x ∷ xs) zero y = refl
set_length (x ∷ xs) (suc i) y = let h = set_length xs i y in omega arith
