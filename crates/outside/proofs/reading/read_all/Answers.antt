use Rattle.std.proofs.Common.{◌≡◌, ℕ, ◌+◌, ◌≤◌, ◌++◌, length, take, arith}
use Rattle.std.proofs.lemmas.List.{length-take}
use Rattle.outside.proofs.Gathering.{length-gathered}
use Rattle.outside.specs.Taken.{taken_then, longer-prepend, TakesAtMost-prepend}
use Rattle.outside.proofs.reading.read_all.Goals as goal

pub returns-then-count-within-clause-longer : goal.returns-then-count-within-clause-longer
returns-then-count-within-clause-longer g c =
    let so_far = c.loop-count.invariant in
    let read = c.in-Ok.ensures in
    let bytes = c.loop-count.bytes.items in
    let part = take c.in-Ok.count c.read.new.buf in
    let size = length-gathered bytes c.read.new.buf c.in-Ok.count (omega (arith, read.amount.0, c.read.auto.buf)) in
    let whole : length (bytes ++ part) ≡ c.args.limit + 1 =
    omega (arith, size, read.amount.0, length-take {A = ℕ}, so_far.within) in
    λ _. longer-prepend (bytes ++ part) _ _ _ whole (taken_then bytes part _ _ _ so_far.taken read.taken)

pub returns-in_err-extend_from_slice-clause-memory :
    goal.returns-in_err-extend_from_slice-clause-memory
returns-in_err-extend_from_slice-clause-memory g c =
    let so_far = c.loop-count.invariant in
    let read = c.in-Ok.ensures in
    let bytes = c.loop-count.bytes.items in
    let part = take c.in-Ok.count c.read.new.buf in
    let size = length-gathered bytes c.read.new.buf c.in-Ok.count (omega (arith, read.amount.0, c.read.auto.buf)) in
    let most : length (bytes ++ part) ≤ c.args.limit + 1 =
    omega (arith, size, read.amount.0, length-take {A = ℕ}, so_far.within) in
    λ _. TakesAtMost-prepend (bytes ++ part) _ _ _ most (taken_then bytes part _ _ _ so_far.taken read.taken)
