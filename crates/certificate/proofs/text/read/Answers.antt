use Rattle.std.proofs.Common.{◌≡◌, ◌+◌, length, arith, sym, ◌∙◌, subst}
use Rattle.std.proofs.lemmas.Bool.Decides.{nat_tests}
use Rattle.outside.specs.declared.faults.NoMemory.{NoMemory}
use Rattle.certificate.specs.Grammar.{Spells}
use Rattle.certificate.specs.Reading.{Reading, reading_of}
use Rattle.certificate.proofs.Walks.{Walk, walk_begins, walk_on, walk_stops, walk_short, walk_finds, walk_alone, walk_ends, fault_alone, was_taken, not_taken}
use Rattle.certificate.proofs.Fitting.{blocks_fit}
use Rattle.certificate.proofs.text.read.Goals as goal

pub loop-rest-init : goal.loop-rest-init
loop-rest-init c =
    subst (λ (r : Reading). Walk c.args.segments c.args.labelled c.args.bytes.now c.args.bytes.now 0 r)
    (sym c.new-reader.ensures) (walk_begins c.args.segments c.args.labelled c.args.bytes.now)

pub loop-rest-preserved : goal.loop-rest-preserved
loop-rest-preserved c =
    walk_on c.args.segments c.args.labelled c.args.bytes.now c.loop-rest.rest.now c.first_line.result.0.now
    c.first_line.result.1.now c.loop-rest.count (reading_of c.loop-rest.reader) (reading_of c.take.new.self)
    c.loop-rest.invariant c.first_line.ensures.lines c.first_line.ensures.shorter
    (was_taken NoMemory c.in_ok-take.field-0 _ _ _ c.if-not-branch.false c.in_ok-take.ensures)

pub returns-then-not-branch-clause-error : goal.returns-then-not-branch-clause-error
returns-then-not-branch-clause-error c =
    walk_stops c.args.segments c.args.labelled c.args.bytes.now c.loop-rest.rest.now c.first_line.result.0.now
    c.first_line.result.1.now c.loop-rest.count (reading_of c.loop-rest.reader) c.requires.some c.requires.few
    c.loop-rest.invariant c.first_line.ensures.lines
    (not_taken NoMemory c.in_ok-take.field-0 _ _ _ c.if-not-branch.true c.in_ok-take.ensures)

pub returns-then-not-branch-clause-only : goal.returns-then-not-branch-clause-only
returns-then-not-branch-clause-only c = λ blocks spells.
    fault_alone c.args.segments c.args.labelled c.args.bytes.now (c.loop-rest.count + 1) blocks (omega arith)
    (walk_stops c.args.segments c.args.labelled c.args.bytes.now c.loop-rest.rest.now c.first_line.result.0.now
    c.first_line.result.1.now c.loop-rest.count (reading_of c.loop-rest.reader) c.requires.some c.requires.few
    c.loop-rest.invariant c.first_line.ensures.lines
    (not_taken NoMemory c.in_ok-take.field-0 _ _ _ c.if-not-branch.true c.in_ok-take.ensures)) spells

pub returns-then-not-is_whole-clause-error : goal.returns-then-not-is_whole-clause-error
returns-then-not-is_whole-clause-error c =
    let none : length c.loop-rest.rest.now ≡ 0 = grind (arith, nat_tests) in
    walk_short c.args.segments c.args.labelled c.args.bytes.now c.loop-rest.count (reading_of c.loop-rest.reader)
    c.requires.some c.requires.few (omega arith)
    (walk_ends _ _ _ c.loop-rest.rest.now _ _ c.loop-rest.invariant none)
    (sym c.is_whole.ensures ∙ c.if-not-is_whole.true)

pub returns-then-not-is_whole-clause-only : goal.returns-then-not-is_whole-clause-only
returns-then-not-is_whole-clause-only c = λ blocks spells.
    fault_alone c.args.segments c.args.labelled c.args.bytes.now (c.loop-rest.count + 1) blocks (omega arith)
    (returns-then-not-is_whole-clause-error c) spells

pub returns-clause-found : goal.returns-clause-found
returns-clause-found c =
    let none : length c.loop-rest.rest.now ≡ 0 = grind (arith, nat_tests) in
    subst (Spells c.args.segments c.args.labelled c.args.bytes.now) (sym c.in_ok-finish.ensures)
    (walk_finds c.args.segments c.args.labelled c.args.bytes.now c.loop-rest.count (reading_of c.loop-rest.reader)
    c.requires.some c.requires.few (walk_ends _ _ _ c.loop-rest.rest.now _ _ c.loop-rest.invariant none)
    (sym c.is_whole.ensures ∙ c.if-not-is_whole.false))

pub returns-clause-only : goal.returns-clause-only
returns-clause-only c = λ blocks spells.
    let none : length c.loop-rest.rest.now ≡ 0 = grind (arith, nat_tests) in
    c.in_ok-finish.ensures
    ∙ walk_alone c.args.segments c.args.labelled c.args.bytes.now c.loop-rest.count (reading_of c.loop-rest.reader) blocks
    (omega arith) (walk_ends _ _ _ c.loop-rest.rest.now _ _ c.loop-rest.invariant none) spells

pub returns-clause-fit : goal.returns-clause-fit
returns-clause-fit c =
    let spells = returns-clause-found c in
    blocks_fit c.args.segments c.args.labelled _ spells.are_blocks
