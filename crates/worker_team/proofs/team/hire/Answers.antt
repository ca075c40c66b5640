-- The next worker has the next pass, the next number and the turns at its place, and has made nothing.
use Rattle.std.proofs.Common.{◌≡◌, ◌+◌, ◌<◌, List, [], ◌∷◌, ◌++◌, All, None, length, get_or, map, take, vec_len, refl, sym, ap, ◌∙◌, subst, append_assoc, length-append, arith}
use Rattle.std.specs.List.{range_with_len}
use Rattle.std.specs.Vec.Iter.{into_iter_items}
use Rattle.std.proofs.lemmas.List.Elements.{All-nil, All-push}
use Rattle.claim_word.specs.Passes.{Pass, fresh_pass}
use Rattle.worker_team.specs.declared.worker.TeamWorker.{TeamWorker}
use Rattle.worker_team.proofs.Hiring.{All-middle, numbers_more, still_fewer, turns_more}
use Rattle.worker_team.proofs.team.hire.Goals as goal

pub overflow_cast-number : goal.overflow_cast-number
overflow_cast-number g c =
    let was = c.loop-pass.invariant in
    omega (
      arith,
      was.len,
      c.len-number.ensures,
      c.requires.few,
      ap length was.whole,
      length-append c.loop-pass.yielded (into_iter_items c.loop-pass.pass-iterator),
      c.args.passes.ok.0,
    )

pub loop-pass-preserved : goal.loop-pass-preserved
loop-pass-preserved g c =
    let was = c.loop-pass.invariant in
    let done = c.loop-pass.yielded in
    let pass = c.in-Some.pass in
    let rest = into_iter_items c.next.new.self in
    let team = c.loop-pass.team.items in
    let whole : done ++ pass ∷ rest ≡ c.args.passes.items
    = ap (λ xs. done ++ xs) (sym c.in-Some.ensures.steps.0) ∙ was.whole in
    let few : length done < length c.args.passes.items
    = omega (arith, ap length whole, length-append done (pass ∷ rest)) in
    let next : vec_len c.push_reserved.new.self ≡ vec_len c.loop-pass.team + 1 = omega (arith, c.push_reserved.ensures.len) in
    let P : List Pass → Type 0 = λ ps. All (λ p. p ≡ fresh_pass c.args.claims.now) ps in
    let fresh : pass ≡ fresh_pass c.args.claims.now
    = All-middle (λ p. p ≡ fresh_pass c.args.claims.now) done rest pass (subst P (sym whole) c.requires.fresh) in
    let F : List (TeamWorker g.row.M.Denot) → Type 0 = λ ws. All (λ w. w.pass ≡ fresh_pass c.args.claims.now) ws in
    let I : List (TeamWorker g.row.M.Denot) → Type 0 = λ ws. All (λ w. w.made ≡ None) ws in
    record {
      whole = append_assoc done (pass ∷ []) rest ∙ whole;
      len = omega (arith, next, was.len, length-append done (pass ∷ []));
      fresh = subst F (sym c.push_reserved.ensures.items)
          (All-push (λ w. w.pass ≡ fresh_pass c.args.claims.now) team _ was.fresh fresh);
      idle = subst I (sym c.push_reserved.ensures.items) (All-push (λ w. w.made ≡ None) team _ was.idle refl);
      numbers = ap (map (λ w. w.number)) c.push_reserved.ensures.items
          ∙ numbers_more team _ (vec_len c.loop-pass.team) was.numbers c.len-number.ensures
          ∙ ap (range_with_len 0) (sym next);
      turns = ap (map (λ w. w.turn)) c.push_reserved.ensures.items
          ∙ turns_more team _ c.args.turns.now (vec_len c.loop-pass.team) was.turns
          (omega (arith, few, was.len, c.requires.turns, c.args.passes.ok.0))
          (ap (λ i. get_or c.args.turns.now i 0) c.len-number.ensures)
          ∙ ap (λ n. take n c.args.turns.now) (sym next);
      room = omega (arith, c.push_reserved.ensures.capacity, was.room);
    }

pub loop-pass-init : goal.loop-pass-init
loop-pass-init g c =
    let made = c.in_ok-team.ensures in
    let F : List (TeamWorker g.row.M.Denot) → Type 0 = λ ws. All (λ w. w.pass ≡ fresh_pass c.args.claims.now) ws in
    let I : List (TeamWorker g.row.M.Denot) → Type 0 = λ ws. All (λ w. w.made ≡ None) ws in
    record {
      whole = c.into_iter-pass-iterator.ensures.into_iter_gives.0;
      len = made.len;
      fresh = subst F (sym made.items) (All-nil (λ w. w.pass ≡ fresh_pass c.args.claims.now));
      idle = subst I (sym made.items) (All-nil (λ w. w.made ≡ None));
      numbers = ap (map (λ w. w.number)) made.items ∙ ap (range_with_len 0) (sym made.len);
      turns = ap (map (λ w. w.turn)) made.items ∙ ap (λ n. take n c.args.turns.now) (sym made.len);
      room = omega (arith, made.capacity, c.len.ensures, c.args.passes.ok.0);
    }

pub bounds-turns-number : goal.bounds-turns-number
bounds-turns-number g c =
    let was = c.loop-pass.invariant in
    let few = still_fewer c.loop-pass.yielded c.in-Some.pass (into_iter_items c.next.new.self) _ _
    c.in-Some.ensures.steps.0 was.whole in
    omega (arith, few, was.len, c.len-number.ensures, c.requires.turns, c.args.passes.ok.0)

pub push_reserved-requires : goal.push_reserved-requires
push_reserved-requires g c =
    let was = c.loop-pass.invariant in
    let few = still_fewer c.loop-pass.yielded c.in-Some.pass (into_iter_items c.next.new.self) _ _
    c.in-Some.ensures.steps.0 was.whole in
    omega (arith, few, was.len, was.room)

pub returns-clause-len : goal.returns-clause-len
returns-clause-len g c =
    let was = c.loop-pass.invariant in
    let left = c.loop-pass.pass-iterator in
    omega (
      arith,
      was.len,
      ap length was.whole,
      length-append c.loop-pass.yielded (into_iter_items left),
      c.in-None.ensures.steps.0,
      left.rest.ok.0,
      c.args.passes.ok.0,
    )

pub returns-clause-numbers : goal.returns-clause-numbers
returns-clause-numbers g c =
    let was = c.loop-pass.invariant in
    let left = c.loop-pass.pass-iterator in
    let all : vec_len c.loop-pass.team ≡ vec_len c.args.passes = omega (
      arith,
      was.len,
      ap length was.whole,
      length-append c.loop-pass.yielded (into_iter_items left),
      c.in-None.ensures.steps.0,
      left.rest.ok.0,
      c.args.passes.ok.0,
    ) in
    was.numbers ∙ ap (range_with_len 0) all

pub returns-clause-turns : goal.returns-clause-turns
returns-clause-turns g c =
    let was = c.loop-pass.invariant in
    let left = c.loop-pass.pass-iterator in
    let all : vec_len c.loop-pass.team ≡ vec_len c.args.passes = omega (
      arith,
      was.len,
      ap length was.whole,
      length-append c.loop-pass.yielded (into_iter_items left),
      c.in-None.ensures.steps.0,
      left.rest.ok.0,
      c.args.passes.ok.0,
    ) in
    was.turns ∙ ap (λ n. take n c.args.turns.now) all

pub returns-clause-fresh : goal.returns-clause-fresh
returns-clause-fresh g c = c.loop-pass.invariant.fresh

pub returns-clause-idle : goal.returns-clause-idle
returns-clause-idle g c = c.loop-pass.invariant.idle
