-- The room of each queue by arithmetic is the number of its leaves, and so the queues are those of the opening state.
use Rattle.std.proofs.Common.{List, [], ap, arith, length, map, refl, get_or, suc, zero, ℕ, ◌%◌, ◌/◌, ◌*◌, ◌+◌, ◌<◌, ◌∙◌, ◌∷◌, ◌≡◌, ◌≤◌}
use Rattle.std.proofs.lemmas.Bool.Decides.{nat_tests}
use Rattle.std.proofs.Math.Nat.{add-mul-mod_self_right, div-add-mod', mod-eq_of_lt, mod-lt, suc-mul}
use Rattle.list_totals.specs.Totals.{once_below, one_if_same}
use Rattle.leaf_queues.specs.PlainQueue.{empty_queue}
use Rattle.search_machine.specs.Ground.{Ground, queue_of}
use Rattle.search_machine.specs.Machine.{capacity_of, empty_queues}

module _ (g : Ground) (m : ℕ) (low : m < g.queues) where
  -- the leaf at a place of a round over the queues belongs to the queue of the place
  round_place : (rounds place : ℕ) → place < g.queues → queue_of g (place + rounds * g.queues) ≡ place
  round_place rounds place inside =
      add-mul-mod_self_right place rounds g.queues ∙ mod-eq_of_lt inside

  -- a round that is begun has one more leaf for each queue that it came to
  begun_round : (rounds place : ℕ) → place ≤ g.queues
      → capacity_of g m (rounds * g.queues) ≡ rounds
      → capacity_of g m (place + rounds * g.queues) ≡ rounds + once_below m place
  begun_round rounds zero inside whole =
      let start : zero + rounds * g.queues ≡ rounds * g.queues = omega arith in
      ap (capacity_of g m) start ∙ (whole ∙ omega (arith, none m))
    where
      none : (m : ℕ) → once_below m 0 ≡ 0
      none m = grind (arith, nat_tests)
  begun_round rounds (suc place) inside whole =
      let before = begun_round rounds place (omega arith) whole in
      let here : one_if_same m (queue_of g (place + rounds * g.queues)) ≡ one_if_same m place
      = ap (one_if_same m) (round_place rounds place (omega arith)) in
      let next : suc place + rounds * g.queues ≡ suc (place + rounds * g.queues) = omega arith in
      ap (capacity_of g m) next ∙ omega (arith, before, here, one_more m place)
    where
      one_more : (m place : ℕ) → once_below m (suc place) ≡ one_if_same m place + once_below m place
      one_more m place = grind (arith, nat_tests)

  -- whole rounds have one leaf each for every queue
  whole_rounds : (rounds : ℕ) → capacity_of g m (rounds * g.queues) ≡ rounds
  whole_rounds zero =
      let start : zero * g.queues ≡ zero = omega arith in ap (capacity_of g m) start
  whole_rounds (suc rounds) =
      let last = begun_round rounds g.queues (omega arith) (whole_rounds rounds) in
      let turn : suc rounds * g.queues ≡ g.queues + rounds * g.queues
      = omega (arith, suc-mul rounds g.queues) in
      ap (capacity_of g m) turn ∙ omega (arith, last, all m g.queues low)
    where
      all : (m n : ℕ) → m < n → once_below m n ≡ 1
      all m n inside = grind (arith, nat_tests)

  -- how many leaves belong to a queue
  pub room_of : (leaves : ℕ)
      → capacity_of g m leaves ≡ leaves / g.queues + once_below m (leaves % g.queues)
  room_of leaves =
      let parts : leaves ≡ leaves % g.queues + (leaves / g.queues) * g.queues
      = omega (arith, div-add-mod' leaves g.queues) in
      let inside : leaves % g.queues < g.queues = mod-lt leaves (omega arith) in
      ap (capacity_of g m) parts
      ∙ begun_round (leaves / g.queues) (leaves % g.queues) (omega arith)
      (whole_rounds (leaves / g.queues))

-- queues with room for what was counted are those of the opening state
pub rooms_queues : (g : Ground) (rooms : List ℕ) (m : ℕ)
    → ((j : ℕ) → j < length rooms → get_or rooms j 0 ≡ capacity_of g (m + j) g.leaves)
    → map empty_queue rooms ≡ empty_queues g m (length rooms)
rooms_queues g [] m counted = refl
rooms_queues g (room ∷ rooms) m counted =
    let here : room ≡ capacity_of g (m + 0) g.leaves = counted 0 (omega arith) in
    let z : m + 0 ≡ m = omega arith in
    let first : empty_queue room ≡ empty_queue (capacity_of g m g.leaves) =
    ap empty_queue (here ∙ ap (λ (n : ℕ). capacity_of g n g.leaves) z) in
    let rest : map empty_queue rooms ≡ empty_queues g (suc m) (length rooms) =
    rooms_queues g rooms (suc m) (λ j low.
    let e : m + suc j ≡ suc m + j = omega arith in
    counted (suc j) (omega arith) ∙ ap (λ (n : ℕ). capacity_of g n g.leaves) e) in
    cc
