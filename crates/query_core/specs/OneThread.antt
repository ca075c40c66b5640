-- What the workers share, held by one thread: each call changes it as the machine's turn does.
use Rattle.std.specs.Prelude.{ℕ, ◌≤◌, length}
use Rattle.search_machine.specs.Ground.{Ground}
use Rattle.search_machine.specs.Machine.{empty_queues}
use Rattle.search_machine.specs.Shared.{Held}
use Rattle.search_limits.specs.declared.numbers.TheConstants.{MOST_QUEUES}

-- what is held always: the word is not below the floor, no more root children are claimed than there are, and there are no
-- more than 64 queues
pub record IsHeld (h : Held) : Type 0 where
  pub word : h.floor ≤ h.word
  pub claimed : h.claimed ≤ h.roots
  pub few : length h.queues ≤ MOST_QUEUES

-- what is held as a search opens, with this floor, `roots` root children and this limit: no root child is claimed, the word
-- is the limit, and each queue is empty with room for all leaves that belong to it
abbrev pub opening_hand : Ground → ℕ → ℕ → ℕ → Held
opening_hand g floor roots limit = record {
  floor = floor;
  roots = roots;
  claimed = 0;
  word = limit;
  queues = empty_queues g 0 g.queues;
}
