use Rattle.std.proofs.Common.{List, arith, ap, length, map, sym, take, ℕ, ◌+◌, ◌<◌, ◌≡◌, ◌∙◌}
use Rattle.std.proofs.lemmas.List.{take_all}
use Rattle.leaf_queues.specs.PlainQueue.{empty_queue}
use Rattle.search_machine.specs.Machine.{empty_queues, capacity_of}
use Rattle.query_core.proofs.EmptyQueues.{rooms_queues}
use Rattle.query_core.proofs.opening.empty_queues.Goals as goal

pub returns-clause-queues : goal.returns-clause-queues
returns-clause-queues c =
    λ g queues leaves.
    let rooms : List ℕ = c.in_ok-rooms.rooms.items in
    let many : length rooms ≡ c.args.queues = omega (arith, c.in_ok-rooms.rooms.ok.0, c.in_ok-rooms.ensures.len) in
    let same = c.deref-room-items.ensures.value in
    let end : length c.deref-room-items.result.now ≡ c.loop-room.room-index = omega (arith, c.loop-room.auto.room-index-end) in
    let all : take c.loop-room.room-index c.deref-room-items.result.now ≡ rooms = take_all _ _ (omega arith) ∙ same in
    c.loop-room.invariant.made ∙ ap (map empty_queue) all
    ∙ rooms_queues g rooms 0 (λ j low.
    let e : j < c.args.queues = omega arith in
    let z : j ≡ 0 + j = omega arith in
    c.in_ok-rooms.ensures.counts g queues j low
    ∙ ap (capacity_of g j) (sym leaves) ∙ ap (λ (n : ℕ). capacity_of g n g.leaves) z)
    ∙ ap (empty_queues g 0) many
