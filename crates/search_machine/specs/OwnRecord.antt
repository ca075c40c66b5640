-- What one worker knows of its own calls and of their replies: lists with no order between them.
use Rattle.std.specs.Prelude.{◌≡◌, ◌≢◌, ℕ, ◌<◌, ◌≤◌, List, [], ◌∷◌, Option, None, Some, Bool, true, false, slice_get}
use Rattle.list_totals.specs.Totals.{total, times, one_if_same}
use Rattle.series_core.specs.declared.queue_words.Entry.{Entry}
use Rattle.series_core.specs.declared.queue_words.PutReply.{PutReply}
use Rattle.series_core.specs.declared.queue_words.PutReply.TheVariants.{Placed, Shut, Filled}
use Rattle.series_core.specs.declared.queue_words.PopReply.{PopReply}
use Rattle.series_core.specs.declared.queue_words.PopReply.TheVariants.{Leaf, Closed}
use Rattle.list_totals.specs.Standing.{In}
use Rattle.search_machine.specs.Ground.{Ground, last, queue_of, entry_of}
use Rattle.search_machine.specs.Workers.{Worker}

-- a put: the queue and the entry that it named, and its reply
pub record PutMade : Type 0 where
  pub queue : ℕ
  pub entry : Entry
  pub reply : PutReply

-- a pop: the queue and the limit that it named, and its reply
pub record PopMade : Type 0 where
  pub queue : ℕ
  pub limit : ℕ
  pub reply : PopReply

-- an offer: the value that it named, and what the bound word was before it
pub record OfferMade : Type 0 where
  pub value : ℕ
  pub reply : ℕ

-- the own record of a worker: the replies to its claims and to its reads, its offers, its puts and its
-- pops, the newest of each first
pub record OwnRecord : Type 0 where
  pub claims : List (Option ℕ)
  pub reads : List ℕ
  pub offers : List OfferMade
  pub puts : List PutMade
  pub pops : List PopMade

-- a worker with its own record
pub record RecordedWorker : Type 0 where
  pub worker : Worker
  pub own : OwnRecord

-- the record of a worker that has made no call
abbrev pub nothing_yet : OwnRecord
nothing_yet = record { claims = []; reads = []; offers = []; puts = []; pops = [] }

-- the record with one more claim, with its reply
abbrev pub with_claim : Option ℕ → OwnRecord → OwnRecord
with_claim o r = record r { claims = o ∷ r.claims }

-- the record with one more read, with its reply
abbrev pub with_read : ℕ → OwnRecord → OwnRecord
with_read v r = record r { reads = v ∷ r.reads }

-- the record with one more offer
abbrev pub with_offer : OfferMade → OwnRecord → OwnRecord
with_offer o r = record r { offers = o ∷ r.offers }

-- the record with one more put
abbrev pub with_put : PutMade → OwnRecord → OwnRecord
with_put p r = record r { puts = p ∷ r.puts }

-- the record with one more pop
abbrev pub with_pop : PopMade → OwnRecord → OwnRecord
with_pop p r = record r { pops = p ∷ r.pops }

-- leaf l is below a root child that the worker claimed
abbrev pub Below : Ground → OwnRecord → ℕ → Type 0
Below g r l =
    (c : ℕ) × (ls : List ℕ) × In (Some c) r.claims × (slice_get g.roots c ≡ Some ls)
    × (0 < times l ls)

-- the bound of leaf l is not above the reply to one of the worker's reads
abbrev pub Near : Ground → OwnRecord → ℕ → Type 0
Near g r l = (v : ℕ) × In v r.reads × (g.bound l ≤ v)

-- the bound of leaf l is above the reply to one of the worker's reads
abbrev pub Far : Ground → OwnRecord → ℕ → Type 0
Far g r l = (v : ℕ) × In v r.reads × (v < g.bound l)

-- leaf l is in one of the worker's puts
abbrev pub WasPut : OwnRecord → ℕ → Type 0
WasPut r l = (p : PutMade) × In p r.puts × (p.entry.leaf ≡ l)

-- the put was answered Shut or Filled
abbrev pub is_refused : PutReply → Bool
is_refused Placed = false
is_refused (Shut v) = true
is_refused (Filled c) = true

-- leaf l is in one of the worker's puts that was answered Shut or Filled
abbrev pub WasRefused : OwnRecord → ℕ → Type 0
WasRefused r l = (p : PutMade) × In p r.puts × (p.entry.leaf ≡ l) × (is_refused p.reply ≡ true)

-- a Leaf reply to one of the worker's pops names leaf l
abbrev pub WasTaken : OwnRecord → ℕ → Type 0
WasTaken r l =
    (p : PopMade) × (e : Entry) × In p r.pops × (p.reply ≡ Leaf e) × (e.leaf ≡ l)

-- queue m gave the worker a Closed reply
abbrev pub WasClosed : OwnRecord → ℕ → Type 0
WasClosed r m =
    (p : PopMade) × (v : ℕ) × In p r.pops × (p.queue ≡ m) × (p.reply ≡ Closed v)

-- each reply to the worker's reads is at least the last distance
abbrev pub Floored : Ground → OwnRecord → Type 0
Floored g r = (v : ℕ) → In v r.reads → last g ≤ v

-- how often a reply to a claim gave the number c
abbrev pub claims_of : ℕ → Option ℕ → ℕ
claims_of c None = 0
claims_of c (Some d) = one_if_same c d

-- no two of the worker's claims gave one number
abbrev pub Different : OwnRecord → Type 0
Different r = (c : ℕ) → total (claims_of c) r.claims ≤ 1

-- how often leaf l is in a put
abbrev pub put_of : ℕ → PutMade → ℕ
put_of l p = one_if_same l p.entry.leaf

-- a put is of a leaf other than the start leaf, below a root child that the worker claimed; it
-- names the leaf with its bound, and the queue to which the leaf belongs; and that bound is not
-- above the reply to one of the worker's reads
pub record PutRight (g : Ground) (r : OwnRecord) (p : PutMade) : Type 0 where
  pub entry : p.entry ≡ entry_of g p.entry.leaf
  pub queue : p.queue ≡ queue_of g p.entry.leaf
  pub other : g.start ≢ Some p.entry.leaf
  pub below : Below g r p.entry.leaf
  pub near : Near g r p.entry.leaf
