use Rattle.std.proofs.Common.{◌++◌, ◌∷◌, [], None, length, ap, sym, ◌∙◌, refl, arith}
use Rattle.std.specs.Prelude.{slice_index_or}
use Rattle.turn_lock.specs.declared.object.Held.{Held}
use Rattle.turn_lock.specs.declared.lock.LockError.TheVariants.{NoMemory}
use Rattle.turn_lock.specs.Rule.{dealer}
use Rattle.turn_lock.proofs.Comings.{starts}
use Rattle.turn_lock.proofs.dealing.TurnLock+O.begin.Goals as goal

pub push_reserved-requires : goal.push_reserved-requires
push_reserved-requires g c =
    omega (arith, c.in-Ok-with_capacity.ensures.len, c.in-Ok-with_capacity.ensures.capacity)

pub invariant_of-about : goal.invariant_of-about
invariant_of-about g c = record { some_caller = c.requires.0 }

pub new-requires : goal.new-requires
new-requires g c =
    let first = c.in-Ok-with_capacity.ensures.items in
    starts _ _ _ _ _ (record { object = c.args.object; last = None }) refl
    (c.push_reserved.ensures.items
    ∙ ap (λ xs. xs ++ record { object = c.args.object; last = None } ∷ []) first)
    (sym c.of.ensures)

pub object_of-requires : goal.object_of-requires
object_of-requires g c =
    ap length c.in-Err.ensures.err ∙ (ap length c.push_reserved.ensures.items
    ∙ ap (λ xs. length (xs ++ record { object = c.args.object; last = None } ∷ [])) c.in-Ok-with_capacity.ensures.items)

pub returns-in-Err-clause-no_memory : goal.returns-in-Err-clause-no_memory
returns-in-Err-clause-no_memory g c =
    let held : Held g.row.O.Denot g.row.O-Call.Denot g.row.O-Reply.Denot = record { object = c.args.object; last = None } in
    ap NoMemory (c.object_of.ensures held
    ∙ (ap (λ xs. (slice_index_or xs 0 held).object) c.in-Err.ensures.err
    ∙ (ap (λ xs. (slice_index_or xs 0 held).object) c.push_reserved.ensures.items
    ∙ ap (λ xs. (slice_index_or (xs ++ held ∷ []) 0 held).object) c.in-Ok-with_capacity.ensures.items)))

pub invariant_of-lock : goal.invariant_of-lock
invariant_of-lock g c =
    let made = c.in-Ok-new.ensures.ok in
    record {
      sized = (
        made.0,
        made.1 ∙ (ap length c.push_reserved.ensures.items
            ∙ ap (λ xs. length (xs ++ record { object = c.args.object; last = None } ∷ [])) c.in-Ok-with_capacity.ensures.items),
      );
    }

pub deal_all-requires-clause-lock : goal.deal_all-requires-clause-lock
deal_all-requires-clause-lock g c = c.in-Ok-new.ensures.ok.2

pub deal_all-requires-clause-start : goal.deal_all-requires-clause-start
deal_all-requires-clause-start g c =
    c.in-Ok-new.ensures.ok.4 ∙ ap (λ k. (dealer k.object.value 0, [])) (sym c.in-Ok-new.ensures.ok.5)

pub deal_all-requires-clause-callers : goal.deal_all-requires-clause-callers
deal_all-requires-clause-callers g c = sym (ap (λ k. k.callers) c.in-Ok-new.ensures.ok.5)

pub deal_all-requires-clause-room : goal.deal_all-requires-clause-room
deal_all-requires-clause-room g c = (c.in-Ok.ensures.items, c.in-Ok.ensures.capacity)

pub returns-clause-opening : goal.returns-clause-opening
returns-clause-opening g c = ap (λ k. k.object.value) c.in-Ok-new.ensures.ok.5 ∙ c.of.ensures

pub returns-clause-callers : goal.returns-clause-callers
returns-clause-callers g c = ap (λ k. k.callers) c.in-Ok-new.ensures.ok.5

pub returns-clause-count : goal.returns-clause-count
returns-clause-count g c = c.deal_all.ensures.count

pub returns-clause-passes : goal.returns-clause-passes
returns-clause-passes g c = c.deal_all.ensures.passes
