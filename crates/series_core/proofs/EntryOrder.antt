-- Entries are in one total order: entries of which neither comes before the other are equal (`before_neither`).
use Rattle.std.proofs.Common.{◌≡◌, ◌≤◌, arith}
use Rattle.std.proofs.lemmas.Bool.Decides.{nat_tests}
use Rattle.series_core.specs.declared.queue_words.Entry.{Entry}
use Rattle.series_core.specs.EntryOrder.{Before, NotAfter}

-- no entry comes before itself
pub before_itself : (d : Entry) → NotAfter d d
before_itself d = grind (arith, nat_tests)

-- of two entries that differ in order, only one comes before the other
pub before_one_way : (d e : Entry) → Before d e → NotAfter d e
before_one_way d e h = grind (arith, nat_tests)

-- what does not come after goes along
pub before_along : (d e f : Entry) → NotAfter d e → NotAfter e f → NotAfter d f
before_along d e f h i = grind (arith, nat_tests)

-- an entry that comes before a second comes before all that the second comes before
pub before_all : (d e f : Entry) → Before d e → Before e f → Before d f
before_all d e f h i = grind (arith, nat_tests)

-- bounds rise with the order
pub bounds_rise : (d e : Entry) → Before d e → d.bound ≤ e.bound
bounds_rise d e h = grind (arith, nat_tests)

-- entries of which neither comes before the other have one bound
same_bound : (d e : Entry) → NotAfter d e → NotAfter e d → d.bound ≡ e.bound
same_bound d e h i = grind (arith, nat_tests)

-- and one leaf
same_leaf : (d e : Entry) → NotAfter d e → NotAfter e d → d.leaf ≡ e.leaf
same_leaf d e h i = grind (arith, nat_tests)

-- entries of which neither comes before the other are equal
pub before_neither : (d e : Entry) → NotAfter d e → NotAfter e d → d ≡ e
before_neither d e h i = λ k. record { bound = same_bound d e h i k; leaf = same_leaf d e h i k }
