use Rattle.std.proofs.Common.{◌≡◌, ◌+◌, ◌<◌, List, length, arith, subst, sym}
use Rattle.std.proofs.lemmas.Bool.{MatchBool-at_true, MatchBool-at_false}
use Rattle.std.proofs.lemmas.Bool.Decides.{nat_tests}
use Rattle.live_script.specs.declared.script.Group.{Group}
use Rattle.live_script.specs.Grammar.{AddsLine, NoneFollows}
use Rattle.live_script.proofs.Walks.{Walk, walk_begins, walk_on, walk_fits, walk_ends, walk_stops, stops_unended, stops_here}
use Rattle.live_script.proofs.Same.{same_script}
use Rattle.live_script.proofs.Fronts.{same_fault}
use Rattle.live_script.proofs.reader.read_script.Goals as goal

pub loop-rest-init : goal.loop-rest-init
loop-rest-init c =
    subst (λ (groups : List Group). Walk c.args.bytes.now c.args.bytes.now 0 groups) (sym c.new.ensures.items)
    (walk_begins c.args.bytes.now)

pub overflow_add-at : goal.overflow_add-at
overflow_add-at c =
    let some : 0 < length c.loop-rest.rest.now = grind (arith, nat_tests) in
    let fits = walk_fits c.args.bytes.now c.loop-rest.rest.now c.loop-rest.at c.loop-rest.script c.loop-rest.invariant in
    omega (arith, c.requires.short)

pub returns-in_default-clause-error : goal.returns-in_default-clause-error
returns-in_default-clause-error c =
    let some : 0 < length c.loop-rest.rest.now = grind (arith, nat_tests) in
    walk_stops c.args.bytes.now c.loop-rest.rest.now c.loop-rest.at c.loop-rest.script c.loop-rest.invariant some
    (stops_unended c.loop-rest.rest.now c.loop-rest.script c.in_default.ensures)

pub returns-in_default-clause-only : goal.returns-in_default-clause-only
returns-in_default-clause-only c = λ script is. (returns-in_default-clause-error c).more script is

pub returns-in_default-clause-refused : goal.returns-in_default-clause-refused
returns-in_default-clause-refused c = λ at fault.
    same_fault c.args.bytes.now (c.loop-rest.at + 1) at (returns-in_default-clause-error c) fault

pub returns-then-not-taken-clause-error : goal.returns-then-not-taken-clause-error
returns-then-not-taken-clause-error c =
    let some : 0 < length c.loop-rest.rest.now = grind (arith, nat_tests) in
    walk_stops c.args.bytes.now c.loop-rest.rest.now c.loop-rest.at c.loop-rest.script c.loop-rest.invariant some
    (stops_here c.loop-rest.rest.now c.in-Some.line.now c.in-Some.behind.now c.loop-rest.script c.in-Some.ensures
    (MatchBool-at_false (AddsLine (c.loop-rest.at + 1) c.in-Some.line.now c.loop-rest.script c.take.new.self)
    (NoneFollows c.in-Some.line.now c.loop-rest.script) c.if-not-taken.true c.in-Ok.ensures))

pub returns-then-not-taken-clause-only : goal.returns-then-not-taken-clause-only
returns-then-not-taken-clause-only c = λ script is. (returns-then-not-taken-clause-error c).more script is

pub returns-then-not-taken-clause-refused : goal.returns-then-not-taken-clause-refused
returns-then-not-taken-clause-refused c = λ at fault.
    same_fault c.args.bytes.now (c.loop-rest.at + 1) at (returns-then-not-taken-clause-error c) fault

pub loop-rest-preserved : goal.loop-rest-preserved
loop-rest-preserved c =
    walk_on c.args.bytes.now c.loop-rest.rest.now c.in-Some.line.now c.in-Some.behind.now c.loop-rest.at c.loop-rest.script
    c.take.new.self c.loop-rest.invariant c.in-Some.ensures
    (MatchBool-at_true (AddsLine (c.loop-rest.at + 1) c.in-Some.line.now c.loop-rest.script c.take.new.self)
    (NoneFollows c.in-Some.line.now c.loop-rest.script) c.if-not-taken.false c.in-Ok.ensures)

pub returns-clause-only : goal.returns-clause-only
returns-clause-only c = λ script is.
    let none : length c.loop-rest.rest.now ≡ 0 = grind (arith, nat_tests) in
    same_script c.args.bytes.now c.loop-rest.script script
    (walk_ends c.args.bytes.now c.loop-rest.rest.now c.loop-rest.at c.loop-rest.script c.loop-rest.invariant none) is
