-- The first pass of the next row is taken.
use Rattle.std.proofs.Common.{◌≡◌, ◌<◌, ℕ, List, [], ◌∷◌, ◌++◌, Some, length, set, sym, ap, ◌∙◌, subst, arith}
use Rattle.std.specs.Prelude.{slice_get}
use Rattle.std.proofs.lemmas.Option.{slice_get-get_or}
use Rattle.live_query.specs.LockedQueues.{QueuePass}
use Rattle.live_query.specs.LockParts.{Row}
use Rattle.live_query.proofs.Fronts.{FrontsTo, front_rest, fronts_all, fronts_more}
use Rattle.live_query.proofs.locks.take_fronts.Goals as goal

-- the row at the place of the loop
pub remove-requires : goal.remove-requires
remove-requires c =
    let was = c.loop-j.invariant in
    let low : c.loop-j.j < length c.loop-j.rows.items =
    omega (arith, c.loop-j-test.true, c.len-j-end.ensures, was.len, c.loop-j.rows.ok.0) in
    let row : Row = c.index_mut.result.now in
    let at : slice_get c.loop-j.rows.items c.loop-j.j ≡ Some row
    = slice_get-get_or c.loop-j.rows.items c.loop-j.j row low ∙ ap Some (sym c.index_mut.ensures.value) in
    c.requires.some c.loop-j.j row
    (sym (was.taken.behind c.loop-j.j (omega (arith, was.count, c.loop-j.fronts.ok.0))) ∙ at)

pub loop-j-preserved : goal.loop-j-preserved
loop-j-preserved c =
    let was = c.loop-j.invariant in
    let low : c.loop-j.j < length c.loop-j.rows.items =
    omega (arith, c.loop-j-test.true, c.len-j-end.ensures, was.len, c.loop-j.rows.ok.0) in
    let row : Row = c.index_mut.result.now in
    let rest : Row = c.remove.new.self in
    let p : QueuePass = c.remove.result in
    let place : length c.loop-j.fronts.items ≡ c.loop-j.j = omega (arith, was.count, c.loop-j.fronts.ok.0) in
    let at : slice_get c.loop-j.rows.items c.loop-j.j ≡ Some row
    = slice_get-get_or c.loop-j.rows.items c.loop-j.j row low ∙ ap Some (sym c.index_mut.ensures.value) in
    let some : 0 < length row.items =
    let there = c.requires.some c.loop-j.j row
    (sym (was.taken.behind c.loop-j.j (omega (arith, was.count, c.loop-j.fronts.ok.0))) ∙ at) in
    omega (arith, there, row.ok.0) in
    let is : row.items ≡ p ∷ rest.items
    = front_rest row.items p rest.items some c.remove.ensures.value c.remove.ensures.by_index.2 in
    let more = fronts_more c.args.rows.now.items c.loop-j.fronts.items c.loop-j.rows.items p row rest was.taken
    (ap (slice_get c.loop-j.rows.items) place ∙ at) is in
    record {
      len = was.len;
      count = omega (arith, c.push_reserved.ensures.len, was.count);
      room = omega (arith, c.push_reserved.ensures.capacity, was.room);
      taken = subst (λ (fs : List QueuePass). FrontsTo c.args.rows.now.items fs (set c.loop-j.rows.items c.loop-j.j rest))
          (sym c.push_reserved.ensures.items)
          (subst (λ (j : ℕ). FrontsTo c.args.rows.now.items (c.loop-j.fronts.items ++ p ∷ [])
          (set c.loop-j.rows.items j rest)) place more);
    }

pub returns : goal.returns
returns c =
    let was = c.loop-j.invariant in
    fronts_all c.args.rows.now.items c.loop-j.fronts.items c.loop-j.rows.items was.taken
    (omega (
      arith,
      c.loop-j-test.false,
      c.loop-j.auto.j-end,
      c.len-j-end.ensures,
      was.count,
      c.loop-j.fronts.ok.0,
      c.args.rows.now.ok.0,
    ))
