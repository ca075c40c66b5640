-- A searcher that takes another hand.
use Rattle.live_query.specs.declared.searcher.Searcher.{Searcher}

-- the searcher with this hand in place of its own
abbrev pub with_hand : {W H K : Type 0} → Searcher W H → K → Searcher W K
with_hand s hand = record { worker = s.worker; hand = hand; number = s.number; turn = s.turn; apart = tt }
