-- One more read or offer of a pass is one more of the record (`read_tied`, `offer_tied`; `went_by`), and each limit that was read is in the word's
-- range (`in_range`).
use Rattle.std.proofs.Common.{◌≡◌, ℕ, ◌≤◌, List, [], ◌∷◌, ◌++◌, All, refl, sym, ap, ◌∙◌, subst, inl, inr, ⊎_elim, arith}
use Rattle.std.proofs.lemmas.List.Elements.{All-head, All-nil, All-tail}
use Rattle.list_totals.specs.Standing.{In}
use Rattle.list_totals.proofs.Standing.{in_append}
use Rattle.best_word.specs.Passes.{Best, Pass, fresh_pass}
use Rattle.best_word.specs.Traces.{InBounds, IsLegal}
use Rattle.best_word.specs.declared.rule.Event.{Event}
use Rattle.best_word.specs.declared.rule.Event.TheVariants.{Read, Offer}
use Rattle.search_machine.specs.OwnRecord.{OfferMade, OwnRecord, nothing_yet, with_offer, with_read}
use Rattle.search_machine.specs.declared.calls.Reply.{Reply}
use Rattle.search_machine.specs.declared.calls.Reply.TheVariants.{Claimed, Offered, PopTold, PutTold, Seen}
use Rattle.query_core.specs.Turning.{Lowers}
use Rattle.live_query.specs.WordPasses.{AreWithin, Grew, PassTied, offers_of, reads_of}

abbrev made : ℕ → ℕ → OfferMade
made x v = record { value = x; reply = v }

-- a read at the end of a trace is the newest, and no offer
reads_read : (es : List Event) (v : ℕ) → reads_of (es ++ Read v ∷ []) ≡ v ∷ reads_of es
reads_read [] v = refl
reads_read (Read u ∷ es) v = ap (λ (vs : List ℕ). vs ++ u ∷ []) (reads_read es v)
reads_read (Offer x u ∷ es) v = reads_read es v

offers_read : (es : List Event) (v : ℕ) → offers_of (es ++ Read v ∷ []) ≡ offers_of es
offers_read [] v = refl
offers_read (Read u ∷ es) v = offers_read es v
offers_read (Offer x u ∷ es) v = ap (λ (os : List OfferMade). os ++ made x u ∷ []) (offers_read es v)

-- and so with an offer
reads_offer : (es : List Event) (x v : ℕ) → reads_of (es ++ Offer x v ∷ []) ≡ reads_of es
reads_offer [] x v = refl
reads_offer (Read u ∷ es) x v = ap (λ (vs : List ℕ). vs ++ u ∷ []) (reads_offer es x v)
reads_offer (Offer y u ∷ es) x v = reads_offer es x v

offers_offer : (es : List Event) (x v : ℕ) → offers_of (es ++ Offer x v ∷ []) ≡ made x v ∷ offers_of es
offers_offer [] x v = refl
offers_offer (Read u ∷ es) x v = offers_offer es x v
offers_offer (Offer y u ∷ es) x v = ap (λ (os : List OfferMade). os ++ made y u ∷ []) (offers_offer es x v)

-- by what a worker goes that was told a limit
pub went_by : (v : ℕ) (by : Reply) → Lowers (Seen v) by → (u : ℕ) × (by ≡ Seen u) × (u ≤ v)
went_by v (Seen u) lower = (u, refl, lower)
went_by v (Claimed o) lower = let e : Claimed o ≡ Seen v = lower in absurd (cc)
went_by v (Offered u) lower = let e : Offered u ≡ Seen v = lower in absurd (cc)
went_by v (PutTold told) lower = let e : PutTold told ≡ Seen v = lower in absurd (cc)
went_by v (PopTold told) lower = let e : PopTold told ≡ Seen v = lower in absurd (cc)

-- a pass that grew is legal
grown_legal : (p q : Pass) (e : Event) → Grew p e q → IsLegal p.best.start p.floor (p.trace ++ e ∷ [])
grown_legal p q e g = subst (λ (q : Pass). IsLegal p.best.start p.floor q.trace) g.after g.legal

-- a pass of this word that made one more call grew
pub grew_by : (b : Best) (p q : Pass) (e : Event) → p.best ≡ b → q ≡ record p { trace = p.trace ++ e ∷ [] }
    → IsLegal b.start q.floor q.trace → Grew p e q
grew_by b p q e own after legal = record {
  after = after;
  legal = subst (λ (c : Best). IsLegal c.start p.floor q.trace) (sym own)
      (subst (λ (f : ℕ). IsLegal b.start f q.trace) (ap (λ (r : Pass). r.floor) after) legal);
}

-- the worker goes by what was read, or by a lower limit that is not below the floor
pub read_tied : (p q : Pass) (r : OwnRecord) (v u : ℕ) → Grew p (Read v) q → p.floor ≤ u → u ≤ v → PassTied p r → PassTied q (with_read u r)
read_tied p q r v u did low lower tied =
    subst (λ (q : Pass). PassTied q (with_read u r)) (sym did.after) (record {
      legal = grown_legal p q (Read v) did;
      reads = subst (AreWithin p.floor (u ∷ r.reads)) (sym (reads_read p.trace v)) (low, lower, tied.reads);
      offers = tied.offers ∙ sym (offers_read p.trace v);
    })

pub offer_tied : (p q : Pass) (r : OwnRecord) (x v : ℕ) → Grew p (Offer x v) q → PassTied p r → PassTied q (with_offer (made x v) r)
offer_tied p q r x v did tied =
    subst (λ (q : Pass). PassTied q (with_offer (made x v) r)) (sym did.after) (record {
      legal = grown_legal p q (Offer x v) did;
      reads = subst (AreWithin p.floor r.reads) (sym (reads_offer p.trace x v)) tied.reads;
      offers = ap (λ (os : List OfferMade). made x v ∷ os) tied.offers ∙ sym (offers_offer p.trace x v);
    })

-- any other call leaves the pass, and the reads and offers
pub other_tied : (p : Pass) (r s : OwnRecord) → s.reads ≡ r.reads → s.offers ≡ r.offers → PassTied p r → PassTied p s
other_tied p r s reads offers tied = record {
  legal = tied.legal;
  reads = subst (λ (vs : List ℕ). AreWithin p.floor vs (reads_of p.trace)) (sym reads) tied.reads;
  offers = offers ∙ tied.offers;
}

-- a fresh pass has no call
pub fresh_tied : (best : Best) (floor : ℕ) → PassTied (fresh_pass best floor) nothing_yet
fresh_tied best floor = record {
  legal = record { bounds = All-nil (InBounds best.start floor); falls = λ i j d low within. absurd (omega arith) };
  reads = tt;
  offers = refl;
}

-- each reply to a read is at most the start
reads_low : (start floor : ℕ) (es : List Event) → All (InBounds start floor) es → (v : ℕ) → In v (reads_of es) → v ≤ start
reads_low start floor [] all v there = absurd there
reads_low start floor (Read u ∷ es) all v there =
    let first : (floor ≤ u) × (u ≤ start) = All-head (InBounds start floor) (Read u) es all in
    ⊎_elim
    (λ (later : In v (reads_of es)). reads_low start floor es (All-tail (InBounds start floor) (Read u) es all) v later)
    (λ (here : In v (u ∷ [])). ⊎_elim
    (λ (same : v ≡ u). omega (arith, same, first.1))
    (λ (none : In v []). absurd none)
    here)
    (in_append v (reads_of es) (u ∷ []) there)
reads_low start floor (Offer x u ∷ es) all v there =
    reads_low start floor es (All-tail (InBounds start floor) (Offer x u) es all) v there

within_range : (start floor : ℕ) (us vs : List ℕ) → AreWithin floor us vs → ((v : ℕ) → In v vs → v ≤ start) → (u : ℕ) → In u us
    → (floor ≤ u) × (u ≤ start)
within_range start floor [] vs within low u there = absurd there
within_range start floor (x ∷ us) [] within low u there = absurd within
within_range start floor (x ∷ us) (y ∷ vs) within low u there =
    let first : y ≤ start = low y (inl refl) in
    ⊎_elim
    (λ (same : u ≡ x). (omega (arith, same, within.0), omega (arith, same, within.1, first)))
    (λ (later : In u us). within_range start floor us vs within.2 (λ v i. low v (inr i)) u later)
    there

-- each limit of the record is between the floor and the start
pub in_range : (p : Pass) (r : OwnRecord) → PassTied p r → (v : ℕ) → In v r.reads → (p.floor ≤ v) × (v ≤ p.best.start)
in_range p r tied v there =
    within_range p.best.start p.floor r.reads (reads_of p.trace) tied.reads
    (reads_low p.best.start p.floor p.trace tied.legal.bounds) v there
