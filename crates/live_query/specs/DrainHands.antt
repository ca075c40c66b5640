-- What the hand of a worker holds in the drain part, whatever its queues are, what a call did to it, and when it is tied to an own record.
use Rattle.std.specs.Prelude.{◌≡◌, ℕ, List, None}
use Rattle.best_word.specs.Passes.{Pass}
use Rattle.best_word.specs.declared.rule.Event.TheVariants.{Offer as Offering, Read as Reading}
use Rattle.series_core.specs.declared.queue_words.PutReply.TheVariants.{Filled}
use Rattle.series_core.specs.declared.queue_words.PopReply.{PopReply}
use Rattle.search_machine.specs.declared.calls.Call.{Call}
use Rattle.search_machine.specs.declared.calls.Call.TheVariants.{Claim, Read, Offer, Put, Pop}
use Rattle.search_machine.specs.declared.calls.Reply.{Reply}
use Rattle.search_machine.specs.declared.calls.Reply.TheVariants.{Claimed, Seen, Offered, PutTold, PopTold}
use Rattle.search_machine.specs.OwnRecord.{OwnRecord, PopMade}
use Rattle.live_query.specs.WordPasses.{Grew, PassTied}

-- its pass of the bound word, the number of root children, and what the hand has of the queues
pub record DrainKept (Q : Type 0) : Type 0 where
  pub seen : Pass
  pub roots : ℕ
  pub queues : Q

-- the hand over these queues
abbrev pub drain_over : {Q : Type 0} → Pass → ℕ → Q → DrainKept Q
drain_over seen roots queues = record { seen = seen; roots = roots; queues = queues }

-- what a call with its reply did to the hand: a read or an offer stands in the trace of its pass, a pop did to the queues what Pops says,
-- and no other call leaves anything
abbrev pub DrainDid : {Q : Type 0} → (Q → ℕ → ℕ → PopReply → Q → Type 0) → DrainKept Q → Call → Reply → DrainKept Q → Type 0
DrainDid Pops h Claim (Claimed None) k = k ≡ h
DrainDid Pops h Read (Seen v) k = Grew h.seen (Reading v) k.seen × (k ≡ record h { seen = k.seen })
DrainDid Pops h (Offer x) (Offered v) k = Grew h.seen (Offering x v) k.seen × (k ≡ record h { seen = k.seen })
DrainDid Pops h (Put m e) (PutTold (Filled c)) k = (c ≡ 0) × (k ≡ h)
DrainDid Pops h (Pop m v) (PopTold reply) k = Pops h.queues m v reply k.queues × (k ≡ record h { queues = k.queues })
DrainDid Pops h _ _ k = ⊥

-- the hand is tied to the record of its calls: its pass is, and its queues agree with the pops
pub record DrainTied {Q : Type 0} (Agrees : Q → List PopMade → Type 0) (h : DrainKept Q) (r : OwnRecord) : Type 0 where
  pub word : PassTied h.seen r
  pub pops : Agrees h.queues r.pops
