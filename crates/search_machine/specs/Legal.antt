-- When an outcome is legal, and when it is straight. It speaks of the outcome alone, and of no
-- machine.
use Rattle.std.specs.Prelude.{◌≡◌, ◌≢◌, ℕ, ◌<◌, ◌≤◌, List, Some, length, slice_get}
use Rattle.list_totals.specs.Totals.{total}
use Rattle.series_core.specs.declared.queue_words.Entry.{Entry}
use Rattle.search_machine.specs.declared.outcome.Fate.{Fate}
use Rattle.search_machine.specs.declared.outcome.Fate.TheVariants.{Start as StartFate, Queue as QueueFate, Late as LateFate, Bound as BoundFate}
use Rattle.search_machine.specs.declared.outcome.QueueLine.{QueueLine}
use Rattle.search_machine.specs.declared.outcome.Outcome.{Outcome}
use Rattle.list_totals.specs.Standing.{In}
use Rattle.search_machine.specs.Ground.{Ground, answer, last, start_limit}
use Rattle.search_machine.specs.Basics.{Between, EntryRight, Ordered, entered, start_of}

-- how often leaf l stands in the lines
abbrev pub in_lines : ℕ → List QueueLine → ℕ
in_lines l lines = total (λ (line : QueueLine). entered l line.taken) lines

-- the leaf stands in line m
pub record InLine (o : Outcome) (m l : ℕ) : Type 0 where
  pub line : QueueLine
  pub at : slice_get o.lines m ≡ Some line
  pub there : 0 < entered l line.taken

-- the leaf is not the start leaf and stands in no line
abbrev pub Elsewhere : Ground → Outcome → ℕ → Type 0
Elsewhere g o l = (g.start ≢ Some l) × (in_lines l o.lines ≡ 0)

-- what a fate says of leaf l. Start: it is the start leaf. Queue m: it stands in line m, and its
-- bound is not above the starting limit. Late i: it is not the start leaf and stands in no line, i
-- is a worker, and its bound is not above the starting limit. Bound b: it is not the start leaf and
-- stands in no line, and b is its bound, which is above the last distance
abbrev pub FateRight : Ground → Outcome → ℕ → Fate → Type 0
FateRight g o l StartFate = g.start ≡ Some l
FateRight g o l (QueueFate m) = InLine o m l × (g.bound l ≤ start_limit g)
FateRight g o l (LateFate i) = Elsewhere g o l × (i < g.workers) × (g.bound l ≤ start_limit g)
FateRight g o l (BoundFate b) = Elsewhere g o l × (b ≡ g.bound l) × (last g < b)

-- a legal outcome
pub record Legal (g : Ground) (o : Outcome) : Type 0 where
  -- its pairs are the answer, and its start is the start leaf with the starting limit
  pub pairs : o.pairs ≡ answer g
  pub start : o.start ≡ start_of g
  -- there is one line a queue; each entry of line m is a leaf of queue m with its bound, and not
  -- the start leaf; no leaf stands twice in the lines
  pub line_count : length o.lines ≡ g.queues
  pub entries : (m : ℕ) (line : QueueLine) → slice_get o.lines m ≡ Some line
      → (e : Entry) → In e line.taken → EntryRight g m e
  pub once : (l : ℕ) → in_lines l o.lines ≤ 1
  -- each kept limit is at least the last distance and at most the starting limit
  pub kept : (m : ℕ) (line : QueueLine) → slice_get o.lines m ≡ Some line → Between g line.kept
  -- there is one fate a leaf, and it is right
  pub fate_count : length o.fates ≡ g.leaves
  pub fates : (l : ℕ) (fate : Fate) → slice_get o.fates l ≡ Some fate → FateRight g o l fate

-- a straight outcome: no fate is Late, and each line ascends by bound and leaf
pub record IsStraight (o : Outcome) : Type 0 where
  pub no_late : (l i : ℕ) → slice_get o.fates l ≢ Some (LateFate i)
  pub lines : (m : ℕ) (line : QueueLine) → slice_get o.lines m ≡ Some line → Ordered line.taken
