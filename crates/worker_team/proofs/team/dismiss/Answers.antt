-- The next worker's pass and what it made stand behind those before; at the end they are those of all workers.
use Rattle.std.proofs.Common.{◌∙◌, [], ◌∷◌, ◌++◌, Some, map, ap, sym, append_assoc, length-append, arith}
use Rattle.std.specs.Vec.Iter.{into_iter_items}
use Rattle.std.proofs.lemmas.List.{map_push}
use Rattle.worker_team.specs.declared.worker.TeamWorker.{TeamWorker}
use Rattle.worker_team.proofs.Hiring.{all_yielded, still_fewer}
use Rattle.worker_team.proofs.team.dismiss.Goals as goal

pub loop-worker-init : goal.loop-worker-init
loop-worker-init g c = record {
  whole = c.into_iter-worker-iterator.ensures.into_iter_gives.0;
  passes = c.in_ok-passes.ensures.items;
  made = ap (map (λ m. Some m)) c.in_ok-all_made.ensures.items;
  len = c.in_ok-passes.ensures.len;
  long = c.in_ok-all_made.ensures.len;
  room = omega (arith, c.in_ok-passes.ensures.capacity, c.len.ensures, c.args.team.ok.0);
  space = omega (arith, c.in_ok-all_made.ensures.capacity, c.len-2.ensures, c.args.team.ok.0);
}

pub push_reserved-requires : goal.push_reserved-requires
push_reserved-requires g c =
    let was = c.loop-worker.invariant in
    let few = still_fewer c.loop-worker.yielded c.in-Some.worker (into_iter_items c.next.new.self) _ _
    c.in-Some.ensures.steps.0 was.whole in
    omega (arith, few, was.len, was.room)

pub push_reserved-requires-in-loop-worker : goal.push_reserved-requires-in-loop-worker
push_reserved-requires-in-loop-worker g c =
    let was = c.loop-worker.invariant in
    let few = still_fewer c.loop-worker.yielded c.in-Some.worker (into_iter_items c.next.new.self) _ _
    c.in-Some.ensures.steps.0 was.whole in
    omega (arith, few, was.long, was.space)

pub loop-worker-preserved : goal.loop-worker-preserved
loop-worker-preserved g c =
    let was = c.loop-worker.invariant in
    let done = c.loop-worker.yielded in
    let w = c.in-Some.worker in
    let made = c.in-Some-made.made in
    let pushed = c.push_reserved.ensures in
    let more = c.push_reserved-in-loop-worker.ensures in
    record {
      whole = append_assoc done (w ∷ []) (into_iter_items c.next.new.self)
          ∙ (ap (λ l. done ++ l) (sym c.in-Some.ensures.steps.0) ∙ was.whole);
      passes = pushed.items ∙ (ap (λ l. l ++ w.pass ∷ []) was.passes
          ∙ sym (map_push (λ (v : TeamWorker g.row.M.Denot). v.pass) done w));
      made = ap (map (λ m. Some m)) more.items ∙ (map_push (λ m. Some m) c.loop-worker.all_made.items made
          ∙ (ap (λ l. l ++ Some made ∷ []) was.made
          ∙ (ap (λ o. map (λ v. v.made) done ++ o ∷ []) (sym c.in-Some-made.is)
          ∙ sym (map_push (λ (v : TeamWorker g.row.M.Denot). v.made) done w))));
      len = omega (arith, pushed.len, was.len, length-append done (w ∷ []));
      long = omega (arith, more.len, was.long, length-append done (w ∷ []));
      room = omega (arith, pushed.capacity, was.room);
      space = omega (arith, more.capacity, was.space);
    }

pub returns-clause-passes : goal.returns-clause-passes
returns-clause-passes g c =
    let left = c.loop-worker.worker-iterator in
    let whole = all_yielded c.loop-worker.yielded (into_iter_items left) c.args.team.items
    (omega (arith, c.in-None.ensures.steps.0, left.rest.ok.0)) c.loop-worker.invariant.whole in
    c.loop-worker.invariant.passes ∙ ap (map (λ w. w.pass)) whole

pub returns-clause-made : goal.returns-clause-made
returns-clause-made g c =
    let left = c.loop-worker.worker-iterator in
    let whole = all_yielded c.loop-worker.yielded (into_iter_items left) c.args.team.items
    (omega (arith, c.in-None.ensures.steps.0, left.rest.ok.0)) c.loop-worker.invariant.whole in
    c.loop-worker.invariant.made ∙ ap (map (λ w. w.made)) whole
