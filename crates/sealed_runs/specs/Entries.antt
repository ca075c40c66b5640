-- The runs that entries make: the rule is that run m has the leaves that leave m.
use Rattle.std.specs.Prelude.{◌≡◌, ℕ, ◌≤◌, ◌%◌, ◌↔◌, List, [], slice_index_or}
use Rattle.claim_word.specs.Seated.{TableId}
use Rattle.series_core.specs.EntryOrder.{IsAscending}
use Rattle.series_core.specs.declared.queue_words.Entry.{Entry}
use Rattle.claim_word.specs.Passes.{Claim, claim_of}
use Rattle.list_totals.specs.Standing.{In}
use Rattle.list_totals.specs.Totals.{total, one_if_same}

-- no leaf has two entries
abbrev pub LeavesDiffer : List Entry → Type 0
LeavesDiffer es = (leaf : ℕ) → total (λ e. one_if_same leaf e.leaf) es ≤ 1

-- the run of queue m: in ascending order, exactly those of the entries whose leaf leaves m
pub record IsRun (entries : List Entry) (queues m : ℕ) (es : List Entry) : Type 0 where
  pub ascending : IsAscending es
  pub exactly : (e : Entry) → In e es ↔ (In e entries × (e.leaf % queues ≡ m))

-- a sealed run: the counter from which its places are drawn, and its entries
pub record Run : Type 0 where
  pub claims : Claim
  pub entries : List Entry

-- sealed runs: one for each queue, and how many passes there are
pub record Sealed : Type 0 where
  pub runs : List Run
  pub callers : ℕ

-- what is read past the end of a list of entries
abbrev pub no_entry : Entry
no_entry = record { bound = 0; leaf = 0 }

-- the entry at place x
abbrev pub entry_at : List Entry → ℕ → Entry
entry_at es x = slice_index_or es x no_entry

-- what is read past the end of a list of tables
abbrev pub no_table : TableId
no_table = record {
  words = 0;
  slots = 0;
  views_name = 0;
  atom = 0;
  block = 0;
  offset =
      0;
  slot_names = [];
}

-- what is read past the end of a list of runs
abbrev pub no_run : Run
no_run = record { claims = claim_of no_table 0 0; entries = [] }

-- run m
abbrev pub run_at : List Run → ℕ → Run
run_at runs m = slice_index_or runs m no_run
