-- A worker's pass of the bound word: what a call made of it, and when it is tied to the reads and offers of an own record.
use Rattle.std.specs.Prelude.{◌≡◌, ℕ, ◌≤◌, List, [], ◌∷◌, ◌++◌}
use Rattle.best_word.specs.Passes.{Pass}
use Rattle.best_word.specs.Traces.{IsLegal}
use Rattle.best_word.specs.declared.rule.Event.{Event}
use Rattle.best_word.specs.declared.rule.Event.TheVariants.{Read, Offer}
use Rattle.search_machine.specs.OwnRecord.{OfferMade, OwnRecord}

-- after a call the trace of the pass is the old one with this read or offer, it is legal, and nothing else has changed
pub record Grew (p : Pass) (e : Event) (q : Pass) : Type 0 where
  pub after : q ≡ record p { trace = p.trace ++ e ∷ [] }
  pub legal : IsLegal p.best.start p.floor q.trace

-- the replies to the reads of a trace, the newest first
abbrev pub reads_of : List Event → List ℕ
reads_of [] = []
reads_of (Read v ∷ es) = reads_of es ++ v ∷ []
reads_of (Offer x v ∷ es) = reads_of es

-- the offers of a trace, the newest first
abbrev pub offers_of : List Event → List OfferMade
offers_of [] = []
offers_of (Read v ∷ es) = offers_of es
offers_of (Offer x v ∷ es) = offers_of es ++ (record { value = x; reply = v }) ∷ []

-- there are as many limits as replies, and each is the reply at its place or lower, and at least the floor
abbrev pub AreWithin : ℕ → List ℕ → List ℕ → Type 0
AreWithin floor [] [] = Unit {0}
AreWithin floor (u ∷ us) (v ∷ vs) = (floor ≤ u) × (u ≤ v) × AreWithin floor us vs
AreWithin floor _ _ = ⊥

-- the offers of a record are those of the trace, which is legal, and its reads are those of the trace too, of which the worker went by the
-- reply or by a lower limit
pub record PassTied (p : Pass) (r : OwnRecord) : Type 0 where
  pub legal : IsLegal p.best.start p.floor p.trace
  pub reads : AreWithin p.floor r.reads (reads_of p.trace)
  pub offers : r.offers ≡ offers_of p.trace
