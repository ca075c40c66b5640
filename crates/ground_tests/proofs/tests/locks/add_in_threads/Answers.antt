use Rattle.std.proofs.Common.{rules, ◌≡◌, ◌<◌, ◌++◌, ◌∙◌, length, take, drop, slice_index_or, sym, ap, subst, arith}
use Rattle.std.proofs.Math.Seq.{take-append_seam}
use Rattle.turn_lock.specs.Passes.{AreAll}
use Rattle.turn_lock.proofs.Passes.{all_in_order}
use Rattle.ground_tests.proofs.tests.locks.add_in_threads.Goals as goal

pub close-requires-clause-all : goal.close-requires-clause-all
close-requires-clause-all g c =
    let lock = c.in-Ok-begin.lock in
    let old = c.in-Ok-begin.passes in
    let new = c.add_each.new.passes in
    let begun = c.in-Ok-begin.ensures in
    let long : length new ≡ length old.items = search rules in
    let len : old.len ≡ length new = search rules in
    let whole : take old.len (new ++ drop (length new) old.items) ≡ new
    = ap (λ n. take n (new ++ drop (length new) old.items)) len
    ∙ take-append_seam new (drop (length new) old.items) in
    let count = long ∙ (begun.count ∙ sym begun.callers) in
    subst (AreAll lock) (sym whole) (all_in_order lock new count (λ i d l.
    let lent = c.as_mut_slice.ensures.value in
    let there : i < length c.as_mut_slice.result.now = rw lent (omega arith) in
    let same = c.add_each.ensures.numbers i d there in
    let numbered = (begun.passes i d (omega arith)).1 in
    same ∙ (ap (λ xs. (slice_index_or xs i d).number) lent ∙ numbered)))
