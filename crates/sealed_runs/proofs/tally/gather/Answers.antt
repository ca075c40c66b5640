use Rattle.std.proofs.Common.{◌≡◌, ◌<◌, ◌∷◌, [], ◌++◌, List, length, get_or, take, sym, ap, ◌∙◌, subst, arith}
use Rattle.std.proofs.lemmas.List.{get_or_default}
use Rattle.sealed_runs.specs.Visits.{Visit, column}
use Rattle.sealed_runs.specs.Tallied.{IsTally}
use Rattle.sealed_runs.proofs.Tallying.{split_last}
use Rattle.sealed_runs.proofs.Columns.{next_pass, changed_more, left_more, column_more}
use Rattle.sealed_runs.proofs.tally.gather.Goals as goal

-- the pass of this turn is one of all
in_all : (c : goal.After-index_mut-in-loop-place)
    → c.loop-place.place < length c.args.passes.now.items
in_all c = omega (arith, c.loop-place-test.true, c.len-count.ensures, c.args.passes.now.ok.0)

-- and one of those that are left
in_now : (c : goal.After-index_mut-in-loop-place)
    → c.loop-place.place < length c.loop-place.passes.items
in_now c =
    let count = c.loop-place.invariant.count in
    omega (arith, c.loop-place-test.true, c.len-count.ensures, count, c.loop-place.passes.ok.0)

-- it still has the visits that it came with
came : (c : goal.After-index_mut-in-loop-place)
    → c.index_mut-in-loop-place.result.now ≡ get_or c.args.passes.now.items c.loop-place.place []
came c =
    let now = c.loop-place.passes.items in
    let i = c.loop-place.place in
    c.index_mut-in-loop-place.ensures.value
    ∙ get_or_default now i _ [] (in_now c)
    ∙ next_pass (take c.args.m) c.args.passes.now.items now i c.loop-place.invariant.left

pub last_visit-visit-requires : goal.last_visit-visit-requires
last_visit-visit-requires c =
    let same = ap (λ (vs : List Visit). length vs) (came c) in
    let each = c.requires.each c.loop-place.place [] (in_all c) in
    omega arith

pub loop-place-preserved : goal.loop-place-preserved
loop-place-preserved c =
    let all = c.args.passes.now.items in
    let now = c.loop-place.passes.items in
    let i = c.loop-place.place in
    let m = c.args.m in
    let inv = c.loop-place.invariant in
    let count = inv.count in
    let turn = c.before.before.before.before in
    let in_now = in_now turn in
    let in_all = in_all turn in
    let came = came turn in
    let rest = c.last_visit-visit.new.pass in
    let visit = c.last_visit-visit.result in
    let parts = split_last (get_or all i []) rest visit m (sym came ∙ c.last_visit-visit.ensures)
    (c.requires.each i [] in_all) in
    let more = c.take_in.ensures.tally (column (take i all) m) inv.tally in
    let columns = ap (λ v. column (take i all) m ++ v ∷ []) parts.1 ∙ column_more all m i in_all in
    let new = c.take_in.new.self in
    record {
      count = count;
      gone = changed_more (take m) all now i rest in_now in_all inv.gone parts.0;
      left = left_more (take m) all now i rest inv.left;
      tally = subst (λ (vs : List Visit). IsTally vs new.claims.items new.reach new.refused.items
          new.kept) columns more;
      claims = let was = inv.claims in omega (arith, c.take_in.ensures.claims.0);
      room = let was = inv.room in omega (arith, c.take_in.ensures.claims.1);
      refused = let was = inv.refused in omega (arith, c.take_in.ensures.refused.0);
      places = let was = inv.places in omega (arith, c.take_in.ensures.refused.1);
    }
