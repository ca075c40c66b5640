-- There is a certificate of each question that a tree can be searched for: the machine with one worker ends (`certificate_exists`).
use Rattle.std.proofs.Common.{ℕ, ◌<◌, List, refl, arith}
use Rattle.std.specs.Prelude.{replicate}
use Rattle.subtree_build.specs.Fits.{IsTreeOf}
use Rattle.subtree_build.specs.Index.{IndexParts}
use Rattle.search_machine.specs.Ground.{Fits, Ground, enough_turns}
use Rattle.search_machine.specs.Machine.{State, opened, played}
use Rattle.search_machine.specs.Outcome.{AllDone, outcome}
use Rattle.search_machine.proofs.Ending.{ending_legal}
use Rattle.search_machine.proofs.OneWorker.{opening_straight, run_straight, straight_outcome}
use Rattle.search_machine.proofs.Opening.{opening_sound}
use Rattle.search_machine.proofs.Schedules.{played_sound}
use Rattle.search_task.specs.Questions.{CanBeSearched, Question, search_over}
use Rattle.search_task.proofs.OfIndex.{search_fits}
use Rattle.query_core.proofs.TeamPlays.{alone_done}
use Rattle.certificate.specs.Printed.{IsCertificate, outcome_said, search_text}
use Rattle.certificate.proofs.Certified.{outcome_certifies}

-- a search by one worker, run long enough, ends with an outcome that certifies the answers
pub certificate_exists : (a : Question) (leaf_size queues : ℕ) (ix : IndexParts) → CanBeSearched a ix → 0 < queues
    → IsTreeOf a.collection a.layout leaf_size ix → (lines : List ℕ) × IsCertificate a leaf_size queues lines
certificate_exists a leaf_size queues ix searched some tree =
    let g : Ground = search_over a ix 1 queues in
    let fits : Fits g = search_fits a ix 1 queues searched (omega arith) some in
    let schedule : List ℕ = replicate (enough_turns g) 0 in
    let s : State = played g schedule in
    let done : AllDone s = alone_done g fits refl (enough_turns g) (omega arith) in
    let sound = played_sound g fits schedule in
    let straight = straight_outcome g fits s sound
    (run_straight g fits refl schedule (opened g) (opening_sound g fits) (opening_straight g)) done in
    let said = outcome_said ix (outcome g s) in (
      search_text said,
      (
        said,
        outcome_certifies a leaf_size 1 queues ix (outcome g s) searched.question searched.index tree
            (ending_legal g fits s sound done) straight,
        refl,
      ),
    )
