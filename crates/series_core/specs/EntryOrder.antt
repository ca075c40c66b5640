-- The order of entries, which all crates share: by lower bound, then by leaf.
use Rattle.std.specs.Prelude.{◌≡◌, Bool, true, false, cond, nat_lt, List, AllPairs}
use Rattle.series_core.specs.declared.queue_words.Entry.{Entry}

-- d has the lesser bound, or as great a bound and the lesser leaf
abbrev pub entry_before : Entry → Entry → Bool
entry_before d e =
    cond (nat_lt d.bound e.bound) true (cond (nat_lt e.bound d.bound) false (nat_lt d.leaf e.leaf))

-- d comes before e
abbrev pub Before : Entry → Entry → Type 0
Before d e = entry_before d e ≡ true

-- d does not come after e
abbrev pub NotAfter : Entry → Entry → Type 0
NotAfter d e = entry_before e d ≡ false

-- each entry comes before each later one
abbrev pub IsAscending : List Entry → Type 0
IsAscending es = AllPairs Before es
