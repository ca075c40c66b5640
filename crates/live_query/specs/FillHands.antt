-- What the hand of a worker holds in the fill part, what a call did to it, and when it is tied to an own record.
use Rattle.std.specs.Prelude.{◌≡◌, ℕ, ◌<◌, ◌≤◌, ◌⊎◌, List, [], Some, Bool, true, false, length, slice_get, slice_set}
use Rattle.list_totals.specs.Standing.{In}
use Rattle.best_word.specs.Passes.{Pass}
use Rattle.best_word.specs.declared.rule.Event.TheVariants.{Offer as Offering, Read as Reading}
use Rattle.series_core.specs.declared.queue_words.PutReply.TheVariants.{Placed, Filled}
use Rattle.series_core.specs.declared.queue_words.PopReply.TheVariants.{Closed}
use Rattle.search_machine.specs.declared.calls.Call.{Call}
use Rattle.search_machine.specs.declared.calls.Call.TheVariants.{Claim, Read, Offer, Put, Pop}
use Rattle.search_machine.specs.declared.calls.Reply.{Reply}
use Rattle.search_machine.specs.declared.calls.Reply.TheVariants.{Claimed, Seen, Offered, PutTold, PopTold}
use Rattle.search_machine.specs.OwnRecord.{OwnRecord, PutMade, is_refused}
use Rattle.live_query.specs.RootClaims.{DidClaim, Drawn, DrawTied, Roots}
use Rattle.live_query.specs.WordPasses.{Grew, PassTied}

-- the root children that are claimed and its draws of them, its pass of the bound word, the number of queues, and for each leaf whether
-- it put it
pub record FillKept : Type 0 where
  pub roots : Roots
  pub drawn : Drawn
  pub seen : Pass
  pub queues : ℕ
  pub marks : List Bool

-- what a call with its reply did to the hand: a claim was made of its draws, a read or an offer stands in the trace of its pass, a put is
-- marked, and a pop leaves nothing
abbrev pub FillDid : FillKept → Call → Reply → FillKept → Type 0
FillDid h Claim (Claimed o) k = (d : Drawn) × DidClaim h.roots h.drawn o d × (k ≡ record h { drawn = d })
FillDid h Read (Seen v) k = Grew h.seen (Reading v) k.seen × (k ≡ record h { seen = k.seen })
FillDid h (Offer x) (Offered v) k = Grew h.seen (Offering x v) k.seen × (k ≡ record h { seen = k.seen })
FillDid h (Put m e) (PutTold Placed) k =
    (m < h.queues) × (e.leaf < length h.marks)
    × (k ≡ record h { marks = slice_set h.marks e.leaf true })
FillDid h (Put m e) (PutTold (Filled c)) k =
    (c ≡ 0) × ((h.queues ≤ m) ⊎ (length h.marks ≤ e.leaf)) × (k ≡ h)
FillDid h (Pop m v) (PopTold (Closed x)) k = (x ≡ v) × (k ≡ h)
FillDid h _ _ k = ⊥

-- one of these puts named leaf l
abbrev pub HasPut : List PutMade → ℕ → Type 0
HasPut puts l = (p : PutMade) × In p puts × (p.entry.leaf ≡ l)

-- none of these puts was refused, and the leaves that they named are just those with a mark
pub record AreMarks (marks : List Bool) (puts : List PutMade) : Type 0 where
  pub placed : (p : PutMade) → In p puts → is_refused p.reply ≡ false
  pub marked : (l : ℕ) → slice_get marks l ≡ Some true → HasPut puts l
  pub put : (l : ℕ) → HasPut puts l → slice_get marks l ≡ Some true

-- the hand is tied to the record of its calls
pub record FillTied (h : FillKept) (r : OwnRecord) : Type 0 where
  pub drawn : DrawTied h.roots h.drawn r.claims
  pub word : PassTied h.seen r
  pub marks : AreMarks h.marks r.puts
  pub pops : r.pops ≡ []
