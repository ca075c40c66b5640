-- Random walks: series drawn one after another from one stream of words of SplitMix64.
use Rattle.std.specs.Prelude.{ℕ, zero, suc, ◌+◌, ◌*◌, ◌%◌, ℤ, pos, neg_ℤ, ◌+ℤ◌, ◌-ℤ◌, List, map}
use Rattle.std.specs.Int.{int_min, int_max}
use Rattle.std.specs.List.{range_with_len}
use Rattle.rand_xoshiro.specs.SplitMix64.{mix_u64}
use Rattle.series_core.specs.Collection.{Collection}

-- the state of the generator after i words from this state
abbrev pub state_at : ℕ → ℕ → ℕ
state_at x zero = x
state_at x (suc i) = (mix_u64 (state_at x i)).1

-- word number i of the stream from this state, counted from 0
abbrev pub word_at : ℕ → ℕ → ℕ
word_at x i = (mix_u64 (state_at x i)).0

-- the step of a word, from -100 to 100
abbrev pub step_of : ℕ → ℤ
step_of word = pos (word % 201) -ℤ pos 100

-- the value after one more step, held within -30000 and 30000
abbrev pub stepped : ℤ → ℕ → ℤ
stepped value word = int_min (int_max (value +ℤ step_of word) (neg_ℤ (pos 30000))) (pos 30000)

-- the value of the walk from this state after i steps; before the first step it is 0
abbrev pub value_at : ℕ → ℕ → ℤ
value_at x zero = pos 0
value_at x (suc i) = stepped (value_at x i) (word_at x i)

-- the walk of n values from this state: the values after 1, 2 and so on to n steps
abbrev pub walk : ℕ → ℕ → List ℤ
walk n x = map (value_at x) (range_with_len 1 n)

-- series i of the walks of n values from this state: it begins where the i series before it end
abbrev pub walk_number : ℕ → ℕ → ℕ → List ℤ
walk_number n x i = walk n (state_at x (i * n))

-- the first series of the walks of n values from this state
abbrev pub first_walks : ℕ → ℕ → ℕ → List (List ℤ)
first_walks n x count = map (walk_number n x) (range_with_len 0 count)

-- the collection of `count` walks of n values from this state
abbrev pub walks_from : ℕ → ℕ → ℕ → Collection
walks_from n x count = record { points = n; series = first_walks n x count }
