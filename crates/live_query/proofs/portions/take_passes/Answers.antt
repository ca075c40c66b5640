-- The pass of the next row is taken.
use Rattle.std.proofs.Common.{◌≡◌, ◌<◌, ◌++◌, ◌∷◌, [], ℕ, List, Some, length, set, refl, sym, ap, ◌∙◌, subst, arith}
use Rattle.std.specs.Prelude.{slice_get}
use Rattle.std.proofs.lemmas.Option.{slice_get-get_or}
use Rattle.best_word.specs.Passes.{Pass}
use Rattle.search_machine.proofs.Places.{get_set_other}
use Rattle.live_query.specs.PortionRows.{PassRow}
use Rattle.live_query.proofs.PortionsDealt.{TakenTo, rows_left, taken_all, taken_more, taken_none}
use Rattle.live_query.proofs.portions.take_passes.Goals as goal

pub loop-portion-init : goal.loop-portion-init
loop-portion-init c = record {
  len = refl;
  count = omega (arith, c.in_ok-passes.ensures.len);
  room = omega (arith, c.in_ok-passes.ensures.capacity, c.len.ensures);
  behind = λ place low. refl;
  taken = λ g words n are.
      subst (λ (ps : List Pass). TakenTo g words n ps c.args.rows.now.items) (sym c.in_ok-passes.ensures.items)
      (taken_none g words n c.args.rows.now.items);
}

pub unreachable-requires : goal.unreachable-requires
unreachable-requires c =
    let was = c.loop-portion.invariant in
    let portion = c.loop-portion.portion in
    let row : PassRow = c.index_mut.result.now in
    let low : portion < length c.loop-portion.rows.items
    = omega (arith, c.loop-portion-test.true, c.len-portion-end.ensures, was.len, c.loop-portion.rows.ok.0) in
    let at : slice_get c.loop-portion.rows.items portion ≡ Some row
    = slice_get-get_or c.loop-portion.rows.items portion row low ∙ ap Some (sym c.index_mut.ensures.value) in
    let there = c.requires.some portion row (sym (was.behind portion (omega arith)) ∙ at) in
    absurd (omega (arith, there, c.in_default.ensures.cases.0))

pub loop-portion-preserved : goal.loop-portion-preserved
loop-portion-preserved c =
    let was = c.loop-portion.invariant in
    let portion = c.loop-portion.portion in
    let rows = c.loop-portion.rows.items in
    let row : PassRow = c.index_mut.result.now in
    let rest : PassRow = c.pop.new.self in
    let p : Pass = c.in-Some.pass in
    let low : portion < length rows = omega (arith, c.loop-portion-test.true, c.len-portion-end.ensures, was.len, c.loop-portion.rows.ok.0) in
    let at : slice_get rows portion ≡ Some row = slice_get-get_or rows portion row low ∙ ap Some (sym c.index_mut.ensures.value) in
    let place : length c.loop-portion.passes.items ≡ portion = omega (arith, was.count, c.loop-portion.passes.ok.0) in
    record {
      len = was.len;
      count = omega (arith, c.push_reserved.ensures.len, was.count);
      room = omega (arith, c.push_reserved.ensures.capacity, was.room);
      behind = λ place high.
          get_set_other rows portion place rest (λ e. absurd (omega (arith, high, e)))
          ∙ was.behind place (omega (arith, high));
      taken = λ g words n are.
          subst (λ (ps : List Pass). TakenTo g words n ps (set rows portion rest)) (sym c.push_reserved.ensures.items)
          (subst (λ (j : ℕ). TakenTo g words n (c.loop-portion.passes.items ++ p ∷ []) (set rows j rest)) place
          (taken_more g words n c.args.rows.now.items rows c.loop-portion.passes.items row rest p are (was.taken g words n are)
          (sym (was.behind (length c.loop-portion.passes.items) (omega (arith, place))) ∙ ap (slice_get rows) place ∙ at) c.in-Some.ensures.items));
    }

pub returns : goal.returns
returns c = record {
  dealt = λ g words n are.
      let was = c.loop-portion.invariant in
      let rows = c.loop-portion.rows in
      let passes = c.loop-portion.passes in
      let all : length passes.items ≡ length c.args.rows.now.items = omega (
        arith,
        c.loop-portion-test.false,
        c.len-portion-end.ensures,
        c.loop-portion.auto.portion-end,
        was.len,
        was.count,
        passes.ok.0,
        c.args.rows.now.ok.0,
        rows.ok.0,
      ) in
      let same : length rows.items ≡ length c.args.rows.now.items = omega (arith, was.len, rows.ok.0, c.args.rows.now.ok.0) in (
        taken_all g words n c.args.rows.now.items rows.items passes.items are (was.taken g words n are) all same,
        rows_left g words n c.args.rows.now.items rows.items passes.items are (was.taken g words n are) all same,
      );
}
