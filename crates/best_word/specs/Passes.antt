-- What contracts see of the best-so-far and of a pass: the trace of a pass is its own, and nothing of it is ever undone.
use Rattle.std.specs.Prelude.{◌≡◌, ℕ, ◌<◌, List, [], refl, flat_map}
use Rattle.std.specs.Coded.{Coded, code_by, coded×, coded_ℕ}
use Rattle.atomic_table.specs.Seated.{TableId, table_id_coded}
use Rattle.best_word.specs.Traces.{IsLegal}
use Rattle.best_word.specs.declared.rule.Event.{Event}
use Rattle.best_word.specs.declared.rule.View.{View}
use Rattle.best_word.specs.declared.rule.Terms.{Terms}

-- a shared number: its place, what it started at, and how many passes there are
pub record Best : Type 0 where
  pub table : TableId
  pub start : ℕ
  pub callers : ℕ

-- the number at this place, with this start and `callers` passes
abbrev pub best_of : TableId → ℕ → ℕ → Best
best_of table start callers = record { table = table; start = start; callers = callers }

-- how the logic stores a shared number
abbrev pub best_code : Coded Best
best_code = code_by (TableId × (ℕ × ℕ)) (coded× table_id_coded (coded× coded_ℕ coded_ℕ))
    (λ c. (c.table, (c.start, c.callers))) (λ p. best_of p.0 p.1.0 p.1.1) (λ _. refl)

-- a pass: whose it is, what no offer is below, and its reads and offers in order
pub record Pass : Type 0 where
  pub best : Best
  pub floor : ℕ
  pub trace : List Event

-- a pass that has read and offered nothing
abbrev pub fresh_pass : Best → ℕ → Pass
fresh_pass b floor = record { best = b; floor = floor; trace = [] }

-- the pass that a seat of this table with this record is
abbrev pub pass_of : TableId → View → Pass
pass_of t v = record { best = best_of t v.start v.callers; floor = v.floor; trace = v.trace }

-- the record of one pass, whose trace is legal
pub record IsPass (v : View) : Type 0 where
  pub part : v.parts ≡ 1
  pub legal : IsLegal v.start v.floor v.trace

-- the number's table has one word, keeps these terms, and has some pass
abbrev pub IsBest : TableId → Terms → ℕ → ℕ → Type 0
IsBest t key start callers =
    (key ≡ record { start = start; callers = callers }) × (t.words ≡ 1) × (t.slots ≡ 0)
    × (0 < callers)

-- the traces of all passes, one after another
abbrev pub together : List Pass → List Event
together passes = flat_map (λ p. p.trace) passes
