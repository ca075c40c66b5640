-- Chunks: CHUNK series in a row, from a multiple of CHUNK on, fewer at the end.
use Rattle.std.specs.Prelude.{ℕ, ◌+◌, ◌-◌, ◌*◌, ◌/◌, List, take, drop}
use Rattle.std.specs.List.{flat_map}
use Rattle.summary_phase.specs.declared.chunk.TheConstants.{CHUNK}
use Rattle.isax_word.specs.declared.member.Member.{Member}

-- the number of chunks of `count` series
abbrev pub chunk_count : ℕ → ℕ
chunk_count count = (count + (CHUNK - 1)) / CHUNK

-- the members with the numbers from `start` up to but not including `end`
abbrev pub members_between : List Member → ℕ → ℕ → List Member
members_between members start end = take (end - start) (drop start members)

-- the members that chunk c has of all members
abbrev pub chunk_of : List Member → ℕ → List Member
chunk_of members c = take CHUNK (drop (c * CHUNK) members)

-- the members of these chunks, one chunk after another
abbrev pub members_drawn : List Member → List ℕ → List Member
members_drawn members chunks = flat_map (chunk_of members) chunks
