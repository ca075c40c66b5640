-- A sink in memory: what it tells, and what a write answers.
use Rattle.std.specs.Prelude.{◌≡◌, ℕ, ◌-◌, ◌&&◌, ◌||◌, min, List, length, nat_eq, nat_lt, Result, Ok, Err, is_ok, if◌then◌else◌}
use Rattle.std.specs.List.{list_any}
use Rattle.outside.specs.declared.faults.Failed.{Failed}
use Rattle.outside.specs.declared.mem_sink.MemSink.{MemSink}
use Rattle.outside.specs.Count.{next_count}

-- the bytes that were written
abbrev pub bytes_in : MemSink → List ℕ
bytes_in sink = sink.bytes.items

-- how often a write failed
abbrev pub faults_in : MemSink → ℕ
faults_in sink = sink.faults

-- nothing was called yet
pub record IsFresh (sink : MemSink) : Type 0 where
  pub calls : sink.writes ≡ 0
  pub counts : sink.faults ≡ 0

-- the room, the cap of a write, and the calls that fail
pub record HasLimits (sink : MemSink) (room cap : ℕ) (writes : List ℕ) : Type 0 where
  pub roomy : sink.room ≡ room
  pub capped : sink.cap ≡ cap
  pub fail_writes : sink.fail_writes.items ≡ writes

-- how many more bytes find room
abbrev pub room_in : MemSink → ℕ
room_in sink = sink.room - length sink.bytes.items

-- how many more bytes are taken for sure: all that find room, where no call is listed to fail
abbrev pub sure_in : MemSink → ℕ
sure_in sink = if nat_eq (length sink.fail_writes.items) 0 then room_in sink else 0

-- A write fails where it is listed, or brings bytes where there is no room;
-- else it takes the least of the cap, the room and the bytes.
abbrev pub write_answer : MemSink → ℕ → Result ℕ Failed
write_answer sink given =
    if list_any (λ call. nat_eq call (next_count sink.writes)) sink.fail_writes.items
    || (nat_eq (room_in sink) 0 && nat_lt 0 given)
    then Err record {}
    else Ok (min sink.cap (min (room_in sink) given))

-- a write answers as it must, and is counted
pub record WritesAs (old : MemSink) (given : ℕ) (result : Result ℕ Failed) (new : MemSink) : Type 0 where
  pub answer : result ≡ write_answer old given
  pub counted : new.writes ≡ next_count old.writes
  pub faults : new.faults ≡ (if is_ok result then old.faults else next_count old.faults)
  pub limits : (new.room ≡ old.room) × (new.cap ≡ old.cap) × (new.fail_writes.items ≡ old.fail_writes.items)
