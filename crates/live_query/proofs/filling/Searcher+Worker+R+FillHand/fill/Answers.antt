-- A turn keeps what holds before each turn, and leaves less to do.
use Rattle.std.proofs.Common.{◌≡◌, Bool, true, false, refl, sym}
use Rattle.std.specs.Prelude.{not}
use Rattle.std.proofs.lemmas.Bool.{true≢false}
use Rattle.live_query.proofs.FillEffort.{fill_less}
use Rattle.live_query.proofs.FillKnowing.{fill_knows, fill_serves, fills_on}
use Rattle.live_query.proofs.GoingOn.{fills_stays, fills_then}
use Rattle.live_query.proofs.filling.Searcher+Worker+R+FillHand.fill.Goals as goal

-- a worker that has not filled fills
still_fills : (f r : Bool) → r ≡ not f → r ≡ false → f ≡ true
still_fills true r e t = refl
still_fills false true e t = absurd (true≢false t)
still_fills false false e t = absurd (true≢false (sym e))

pub loop-self-init : goal.loop-self-init
loop-self-init g c = record { serves = c.requires.serves; knows = c.requires.knows; goes_on = fills_stays _ _ }

pub loop-self-preserved : goal.loop-self-preserved
loop-self-preserved g c =
    let was = c.loop-self.invariant in
    let turn = c.take_turn.ensures in
    let fill = still_fills _ _ c.filled.ensures c.loop-self-test.true in
    record {
      serves = fill_serves _ _ _ _ was.serves was.knows turn.place fill turn.turns;
      knows = fill_knows _ _ _ _ was.serves was.knows turn.place fill turn.turns;
      goes_on = fills_then _ _ _ _ _ _ was.goes_on (fills_on _ _ _ _ was.serves was.knows turn.place fill turn.turns);
    }

pub loop-self-smaller : goal.loop-self-smaller
loop-self-smaller g c =
    let was = c.loop-self.invariant in
    let turn = c.take_turn.ensures in
    let fill = still_fills _ _ c.filled.ensures c.loop-self-test.true in
    fill_less _ _ _ _ was.serves was.knows turn.place fill turn.turns
