use Rattle.std.proofs.Common.{◌<◌, length, sym, ◌∙◌, subst, arith}
use Rattle.std.proofs.lemmas.Bool.{lt-ltb}
use Rattle.query_core.specs.Turning.{search_of}
use Rattle.query_core.specs.Working.{Shows}
use Rattle.query_core.proofs.TurnLaws.{taken_new}
use Rattle.query_core.proofs.worker.Worker.take.Goals as goal

pub returns-then-not-has_scanned-clause-taken : goal.returns-then-not-has_scanned-clause-taken
returns-then-not-has_scanned-clause-taken g c workers m shows =
    let kept = c.self.invariant.0 in
    let old = c.args.self.now in
    let leaf : c.args.leaf < length old.index.leaves =
    subst (λ w. c.args.leaf < length w.index.leaves) c.self.view_is
    (omega (arith, c.if-leaf-leaf_count.true, c.leaf_count.ensures.count)) in
    let marked : c.args.leaf < length old.marks =
    subst (λ w. c.args.leaf < length w.marks) c.self.view_is
    (omega (arith, c.if-leaf-leaf_count.true, c.leaf_count.ensures.count, kept.marks)) in
    subst (Shows c.scan.new.self)
    (sym (taken_new (search_of old workers) old m c.args.leaf c.args.limit c.args.next shows marked
    (lt-ltb c.args.leaf (length old.index.leaves) leaf)
    (sym c.has_scanned.ensures.mark ∙ c.if-not-has_scanned.true)))
    (c.scan.ensures.scanned workers m shows)
