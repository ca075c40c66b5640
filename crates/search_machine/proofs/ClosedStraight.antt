-- Where closed objects say that no put was refused and that what was taken ascends, the outcome is
-- straight (`closed_straight`).
use Rattle.std.proofs.Common.{List, arith, inl, inr, sym, ℕ, ⊎_elim, ◌<◌, ◌∙◌, ◌≡◌, ◌⊎◌}
use Rattle.std.proofs.lemmas.Bool.{false≢true}
use Rattle.std.specs.Prelude.{Some}
use Rattle.list_totals.specs.Totals.{total}
use Rattle.leaf_queues.specs.PlainQueue.{PlainQueue}
use Rattle.search_machine.specs.Ground.{Fits, Ground}
use Rattle.search_machine.specs.Closes.{Closes, NoneRefused, TakenInOrder, final}
use Rattle.search_machine.specs.Legal.{IsStraight}
use Rattle.search_machine.specs.Outcome.{outcome}
use Rattle.search_machine.specs.OwnRecord.{RecordedWorker, WasRefused, WasTaken}
use Rattle.search_machine.specs.Sound.{scans, takes}
use Rattle.search_machine.proofs.CallCounts.{scans_by}
use Rattle.search_machine.proofs.ClosedPlaces.{scans_is}
use Rattle.search_machine.proofs.ClosedQueues.{taken_in}
use Rattle.search_machine.proofs.Closing.{final_done, final_sound}
use Rattle.search_machine.proofs.OneWorker.{straight_ends}
use Rattle.search_machine.proofs.Places.{total_at, total_some}

module _ (g : Ground) (fits : Fits g) (team : List RecordedWorker) (qs : List PlainQueue)
    (c : Closes g team qs) (placed : NoneRefused team) (order : TakenInOrder qs) where
  -- each leaf that was scanned is the start leaf or was taken from a queue
  scanned_taken : (l : ℕ) → 0 < total (scans l) (final g team qs).workers
      → (g.start ≡ Some l) ⊎ (0 < total (takes l) qs)
  scanned_taken l h =
      let a = scans_is g fits team qs c l in
      let x = total_some (scans_by l) team (omega arith) in
      ⊎_elim
      (λ (e : (x.0 ≡ 0) × (g.start ≡ Some l)). inl e.1)
      (λ (e : WasTaken x.1.own l ⊎ WasRefused x.1.own l). ⊎_elim
      (λ (t : WasTaken x.1.own l).
      let r = taken_in g fits team qs c x.0 x.1 l x.2 t in
      let b = total_at (takes l) qs r.0 r.1 r.2 in
      let d = r.4 in
      inr (omega arith))
      (λ (t : WasRefused x.1.own l).
      absurd (false≢true (sym (placed x.0 x.1 t.0 x.2 t.1) ∙ t.3)))
      e)
      ((c.stands x.0 x.1 x.2).scanned l x.3)

  -- so the outcome is straight
  pub closed_straight : IsStraight (outcome g (final g team qs))
  closed_straight =
      straight_ends g fits (final g team qs) (final_sound g fits team qs c)
      (final_done g fits team qs c) scanned_taken order
