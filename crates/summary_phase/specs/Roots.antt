-- Members by the root numbers of their full words.
use Rattle.std.specs.Prelude.{◌≡◌, ℕ, ◌^◌, ◌++◌, Bool, nat_eq, List, [], map, filter, slice_index_or}
use Rattle.std.specs.List.{range_with_len, flat_map}
use Rattle.series_core.specs.Collection.{Collection}
use Rattle.isax_word.specs.declared.layout.Layout.{Layout}
use Rattle.isax_word.specs.FullWord.{root_number}
use Rattle.summary_phase.specs.Chunks.{members_between, members_drawn}
use Rattle.summary_phase.specs.Members.{members_of}
use Rattle.isax_word.specs.declared.member.Member.{Member}

-- whether a member belongs to this root
abbrev pub has_root : ℕ → Member → Bool
has_root root m = nat_eq (root_number m.full) root

-- the members of this root, in the order of the list
abbrev pub of_root : List Member → ℕ → List Member
of_root members root = filter (has_root root) members

-- for each root number below `roots` in order, its members
abbrev pub by_root : ℕ → List Member → List (List Member)
by_root roots members = map (of_root members) (range_with_len 0 roots)

-- the buffers of a worker that drew these chunks of a collection
abbrev pub buffers_of : Layout → Collection → List ℕ → List (List Member)
buffers_of layout c draws =
    by_root (2 ^ layout.cuts.segments) (members_drawn (members_of layout c) draws)

-- buffers that held some members by root hold behind them those with the numbers from `start` up to `end`
abbrev pub HasPut : Layout → Collection → ℕ → ℕ → List (List Member) → List (List Member) → Type 0
HasPut layout c start end old new = (before : List Member)
    → old ≡ by_root (2 ^ layout.cuts.segments) before
    → new
    ≡ by_root (2 ^ layout.cuts.segments) (before ++ members_between (members_of layout c) start end)

-- the members of this root in all buffers, one buffer after another
abbrev pub root_of_all : List (List (List Member)) → ℕ → List Member
root_of_all buffers root = flat_map (λ lists. slice_index_or lists root []) buffers
